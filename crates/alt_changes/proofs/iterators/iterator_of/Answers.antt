-- Without a bar at its place a text is no iterator's.
use Rattle.std.proofs.Common.{rules, ◌≡◌, ◌≤◌, ◌∙◌, ◌-◌, sym, ap, length, drop, option_map}
use Rattle.alt_changes.proofs.IteratorTexts.{iterator_unbarred}
use Rattle.alt_changes.proofs.iterators.iterator_of.Goals as goal

pub returns-in_err-strip_prefix : goal.returns-in_err-strip_prefix
unfolding lib.Utf8.encode
returns-in_err-strip_prefix c =
    let text = c.args.text.now in
    let enough : 22 ≤ length text = search rules in
    let place : c.in_ok-checked_sub.field-0 ≡ length text - 22 = search rules in
    record {
      iterator = ap (option_map (λ p. record { arn = p.0.now; from = p.1 }))
          c.from_residual-in_err-strip_prefix.ensures
          ∙ sym (iterator_unbarred text enough c.in_ok-arn.tail.now
          (c.in_ok-arn.ensures.back ∙ ap (λ n. drop n text) place)
          c.in_err-strip_prefix.ensures.cases);
    }
