-- An attribute that is no key is one of all.
use Rattle.std.proofs.Common.{Bool, sym, ap, ◌∙◌, option_map, arith}
use Rattle.alt_machine.specs.Sources.{is_key_there}
use Rattle.alt_views.proofs.Taken.{all_more, all_taken, none_past, not_all}
use Rattle.alt_value.specs.Stands.{tree_of}
use Rattle.alt_value.specs.Tree.{Pair}
use Rattle.alt_views.proofs.start.has_keys_alone.Goals as goal
use Rattle.alt_views.proofs.start.has_keys_alone.Goals.{in-Some+else-not-is_key_there, in_default}

pub returns-then-not-is_key_there : goal.returns-then-not-is_key_there
returns-then-not-is_key_there c = sym (not_all
    (λ (p : Pair). is_key_there c.args.schema.now (option_map (λ i. i.now) c.args.index) p.0)
    c.args.key.now c.loop-at.at (c.in-Some.name.now, tree_of c.in-Some.field-0-1.now)
    (sym c.in-Some.ensures.pair) (sym c.if-not-is_key_there.ensures))

pub loop-at-preserved : goal.loop-at-preserved
loop-at-preserved c =
    let test : Pair → Bool =
    λ p. is_key_there c.args.schema.now (option_map (λ i. i.now) c.args.index) p.0 in
    elim c.match-at.branch [
      | in-Some+else-not-is_key_there w ↦
          all_more test c.args.key.now c.loop-at.at
          (w.in-Some.name.now, tree_of w.in-Some.field-0-1.now)
          (sym w.in-Some.ensures.pair) (sym w.if-not-is_key_there.ensures) c.loop-at.invariant
      | in_default w ↦ absurd (none_past c.args.key.now c.loop-at.at
          (omega (arith, c.loop-at-test.true, c.len-at-end.ensures.count))
          (sym c.at.ensures.pair
          ∙ ap (option_map (λ p. (p.0.now, tree_of p.1.now))) w.in_default.is))
    ]

pub returns : goal.returns
returns c = sym (all_taken
    (λ (p : Pair). is_key_there c.args.schema.now (option_map (λ i. i.now) c.args.index) p.0)
    c.args.key.now c.loop-at.at
    (omega (arith, c.loop-at-test.false, c.len-at-end.ensures.count)) c.loop-at.invariant)
