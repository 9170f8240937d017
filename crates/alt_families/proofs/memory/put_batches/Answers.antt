-- One batch more.
use Rattle.std.proofs.Common.{List, refl, subst, sym, arith}
use Rattle.std.proofs.lemmas.List.{drop_all}
use Rattle.alt_cells.specs.declared.batch.RowChange.{RowChange}
use Rattle.alt_families.specs.Memory.{AreWrittenTo}
use Rattle.alt_writes.specs.Writes.{numbered}
use Rattle.alt_families.proofs.MemoryLaws.{batch_others, batch_written}
use Rattle.alt_families.proofs.memory.put_batches.Goals as goal

pub loop-batch-init : goal.loop-batch-init
loop-batch-init c = record {
  next = omega arith;
  written = λ z rest. rest;
  others = λ z rest. rest;
}

pub loop-batch-preserved : goal.loop-batch-preserved
loop-batch-preserved c = record {
  next = omega (arith, c.loop-batch.invariant.next);
  written = λ z rest. c.loop-batch.invariant.written z
      (batch_written c.loop-batch.families c.put_changes.new.families z c.loop-batch.next
      c.loop-batch.batch-index c.args.batches.now c.batch-item.result c.as_slice.result.now
      c.loop-batch-test.true c.batch-item.is c.as_slice.ensures.changes
      c.in_ok-put_changes.ensures.written rest);
  others = λ z rest. c.loop-batch.invariant.others z
      (batch_others c.loop-batch.families c.put_changes.new.families z c.loop-batch.batch-index
      c.args.batches.now c.batch-item.result c.as_slice.result.now c.loop-batch-test.true
      c.batch-item.is c.as_slice.ensures.changes c.in_ok-put_changes.ensures.others rest);
}

pub returns-clause-written : goal.returns-clause-written
returns-clause-written c = c.loop-batch.invariant.written c.loop-batch.families
    (subst (λ (bs : List (List RowChange)).
    AreWrittenTo c.loop-batch.families c.loop-batch.families (numbered c.loop-batch.next bs))
    (sym (drop_all c.loop-batch.batch-index c.args.batches.now (omega (arith, c.loop-batch-test.false))))
    (record { rows = λ f. refl; files = λ f. refl }))

pub returns-clause-others : goal.returns-clause-others
returns-clause-others c = c.loop-batch.invariant.others c.loop-batch.families (λ family out. refl)
