-- A list of calls that fail leaves what the disk is.
use Rattle.std.proofs.Common.{sym, subst}
use Rattle.alt_disk.specs.Disk.{DiskState}
use Rattle.alt_tables.specs.Stands.{AreReady}
use Rattle.tests_tables.proofs.tests.failures.request_fails.Goals as goal

pub asked-requires-2 : goal.asked-requires-2
asked-requires-2 c = subst (λ (s : DiskState). AreReady s c.known.new.tables)
    (sym c.fail.ensures.stays) c.in_ok-before.ensures
