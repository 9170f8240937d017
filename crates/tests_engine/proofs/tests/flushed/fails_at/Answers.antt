-- A list of calls that fail leaves what the disk is.
use Rattle.std.proofs.Common.{sym, subst}
use Rattle.alt_disk.specs.Disk.{DiskState}
use Rattle.tests_engine.specs.Ready.{IsReady}
use Rattle.tests_engine.proofs.tests.flushed.fails_at.Goals as goal

pub flush-requires : goal.flush-requires
flush-requires c = subst (λ (s : DiskState). IsReady s c.in_ok-engine.engine)
    (sym c.fail.ensures.stays) c.in_ok-engine.ensures
