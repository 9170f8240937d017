-- One change more.
use Rattle.std.proofs.Common.{refl}
use Rattle.alt_families.proofs.MemoryLaws.{none_written, others_written, written_more}
use Rattle.alt_families.proofs.memory.put_changes.Goals as goal

pub loop-change-init : goal.loop-change-init
loop-change-init c = record {
  written = none_written c.args.families.now c.args.number;
  others = λ family out. refl;
}

pub loop-change-preserved : goal.loop-change-preserved
loop-change-preserved c = record {
  written = written_more c.args.families.now c.loop-change.families c.put_one.new.families
      c.args.number c.loop-change.change-index c.args.changes.now c.change-item.result
      c.loop-change-test.true c.change-item.is c.loop-change.invariant.written
      c.in_ok-put_one.ensures.written;
  others = others_written c.args.families.now c.loop-change.families c.put_one.new.families
      c.loop-change.change-index c.args.changes.now c.change-item.result c.loop-change-test.true
      c.change-item.is c.loop-change.invariant.others c.in_ok-put_one.ensures.others;
}
