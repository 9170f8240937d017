-- A batch more.
use Rattle.std.proofs.Common.{⊎_elim, List, take, subst, sym}
use Rattle.alt_cells.specs.declared.batch.RowChange.{RowChange}
use Rattle.alt_families.specs.Memory.{AreChanged, IsChanged}
use Rattle.alt_drafts.proofs.FullLaws.{changed_batch}
use Rattle.alt_drafts.proofs.full.full_after.Goals as goal

pub loop-batch-preserved : goal.loop-batch-preserved
loop-batch-preserved c family there =
    let i = c.loop-batch.batch-index in
    let x = c.batch-item.result in
    ⊎_elim (λ (old : AreChanged (take i c.args.batches.now) family). c.loop-batch.invariant family old)
    (λ (here : IsChanged x family). c.fills.ensures c.if-fills.false family
    (subst (λ (cs : List RowChange). IsChanged cs family) (sym c.as_slice.ensures.changes) here))
    (changed_batch c.args.batches.now i family x c.loop-batch-test.true c.batch-item.is there)
