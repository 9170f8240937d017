-- It is the change between the row before and the row then.
use Rattle.std.proofs.Common.{◌∙◌, ◌++◌, ◌∷◌, [], List, Some, ap, arith, nat_eq}
use Rattle.alt_cells.specs.Changes.{GivenColumns}
use Rattle.alt_cells.specs.declared.batch.RowChange.{RowChange}
use Rattle.alt_changes.proofs.TrimLaws.{trimmed_made}
use Rattle.alt_changes.proofs.trimming.trimmed_change.Goals as goal

pub returns : goal.returns
returns c =
    let cells : GivenColumns = c.push.new.self in
    let of_key : List _ → RowChange = λ key. record {
      family = c.args.family;
      key = key;
      clear = nat_eq c.args.before 0;
      cells = cells;
    } in
    ap of_key c.in_ok-number_bytes.ensures
    ∙ trimmed_made c.args.before c.args.trimmed c.requires.rise
    (omega (arith, c.ranges.trimmed.fits)) c.args.family cells
    (c.in_ok-push.ensures.ok ∙ (λ i. c.new-cells.ensures i
    ++ (c.in_ok-new.ensures.copied i, Some (c.in_ok-bytes.ensures i)) ∷ []))
