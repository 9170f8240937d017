-- The row of each number is none of those that are hidden before it.
use Rattle.std.proofs.Common.{◌∙◌}
use Rattle.alt_cells.specs.Batches.{has_row}
use Rattle.alt_changes.proofs.TrimLaws.{hidden_new}
use Rattle.alt_changes.proofs.trimming.hide_rows.Goals as goal

pub add-requires : goal.add-requires
add-requires c =
    (λ i. has_row (c.loop-number.invariant i) c.args.family (c.in_ok-number_bytes.ensures i))
    ∙ hidden_new c.args.batch.now c.args.family c.args.numbers.now c.loop-number.number-index
    c.requires.differ c.requires.small c.requires.rows c.loop-number-test.true
