-- A list of calls that fail leaves what the disk is.
use Rattle.std.proofs.Common.{sym, subst}
use Rattle.alt_disk.specs.Disk.{DiskState}
use Rattle.tests_engine.specs.Ready.{IsReady}
use Rattle.tests_engine.proofs.tests.written.fails_whole.Goals as goal

pub put-requires : goal.put-requires
put-requires c = subst (λ (s : DiskState). IsReady s c.in_ok-engine.engine)
    (sym c.fail.ensures.stays) c.in_ok-engine.ensures
