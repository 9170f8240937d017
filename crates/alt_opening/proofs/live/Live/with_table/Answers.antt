-- With the families of a table they are live still.
use Rattle.std.proofs.Common.{sym, subst}
use Rattle.alt_engine.specs.HandWorking.{AreLive}
use Rattle.alt_opening.proofs.LiveLists.{live_all}
use Rattle.alt_opening.proofs.live.Live.with_table.Goals as goal

pub invariant_of-result : goal.invariant_of-result
invariant_of-result c = subst AreLive (sym c.in_ok-families.ensures)
    (live_all c.as_slice-2.result.now c.as_slice.result.now
    (subst AreLive (sym c.as_slice.ensures.value) c.self.invariant))
