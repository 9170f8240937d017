-- The changes of one index more.
use Rattle.std.proofs.Common.{◌<◌, List, length, option_map, sym, ap, subst, length-append, arith}
use Rattle.alt_schema.specs.Indexes.{indexes}
use Rattle.alt_cells.specs.declared.batch.RowChange.{RowChange}
use Rattle.alt_views.specs.Batches.{AreNew}
use Rattle.alt_views.specs.IndexRows.{built_row_changes}
use Rattle.alt_views.proofs.Batched.{batch_more, found, next_new}
use Rattle.alt_views.proofs.changes.index_changes.Goals as goal

pub change_index-requires-clause-rows : goal.change_index-requires-clause-rows
change_index-requires-clause-rows c = λ i at.
    subst (λ (batch : List RowChange). AreNew batch (built_row_changes c.args.schema.now
    (option_map (λ i. i.now) c.args.old) (option_map (λ i. i.now) c.args.new) i))
    (sym c.loop-number.invariant)
    (next_new c.args.schema.now (option_map (λ i. i.now) c.args.old)
    (option_map (λ i. i.now) c.args.new) c.args.batch.now (indexes c.args.schema.now)
    c.loop-number.number i c.requires.families at c.requires.rows)

pub loop-number-preserved : goal.loop-number-preserved
loop-number-preserved c =
    let d = c.args.schema.now in
    let within : c.loop-number.number < length (indexes d) = omega (
      arith,
      length-append d.locals d.globals,
      ap length c.as_slice.ensures.members,
      ap length c.as_slice-2.ensures.members,
      c.loop-number-test.true,
    ) in
    let i = found (indexes d) c.loop-number.number within in
    batch_more d (option_map (λ i. i.now) c.args.old) (option_map (λ i. i.now) c.args.new)
    c.args.batch.now c.loop-number.batch c.change_index.new.batch (indexes d) c.loop-number.number
    i.0 i.1 c.loop-number.invariant (c.in_ok-change_index.ensures.changes i.0 i.1)
