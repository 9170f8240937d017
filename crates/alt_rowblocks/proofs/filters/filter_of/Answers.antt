-- One key more.
use Rattle.std.proofs.Common.{subst, arith}
use Rattle.alt_filter.specs.Filters.{Holds}
use Rattle.alt_rowblocks.proofs.FilterLaws.{holds_next}
use Rattle.alt_rowblocks.proofs.filters.filter_of.Goals as goal

pub loop-entry-preserved : goal.loop-entry-preserved
loop-entry-preserved c =
    holds_next c.loop-entry.filter c.add.new.self c.args.rows.now c.loop-entry.entry-index
    c.entry-item.result (omega (arith, c.loop-entry-test.true)) c.entry-item.is c.add.ensures.kept
    (subst (Holds c.add.new.self) c.as_slice.ensures.same c.add.ensures.added)
    c.loop-entry.invariant
