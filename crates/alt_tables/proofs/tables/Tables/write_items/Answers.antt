-- The writes at the places of the keys.
use Rattle.std.proofs.Common.{subst, sym, List, map as each}
use Rattle.alt_disk.proofs.Runs.{quiet_start}
use Rattle.alt_codec.specs.declared.writer.Writer.TheVariants.{User}
use Rattle.alt_machine.specs.Ops.BatchWriteItem.{PlacedWrite, writes_of_all_by}
use Rattle.alt_machine.specs.Outcomes.{together}
use Rattle.alt_tables.specs.Several.{Every, MayWrite, written_in}
use Rattle.alt_tables.specs.Stands.{catalog_of}
use Rattle.alt_tables.proofs.ByKeys.{all_may}
use Rattle.alt_tables.proofs.Holding.{leaves_quiet}
use Rattle.alt_tables.proofs.tables.Tables.write_items.Goals as goal

pub returns-in-Err-clause-disk : goal.returns-in-Err-clause-disk
returns-in-Err-clause-disk g c s stands =
    leaves_quiet (g.D.Disk.state c.args.disk.now) (g.D.Disk.state c.args.disk.now)
    c.args.self.now.engine s (together s (writes_of_all_by s c.args.moment User
    (each (written_in (catalog_of c.args.self.now)) c.args.writes.now)))
    stands.rows stands.valid (quiet_start (g.D.Disk.state c.args.disk.now))

pub write_all-requires-clause-may : goal.write_all-requires-clause-may
write_all-requires-clause-may g c =
    subst (λ (ws : List PlacedWrite). Every (MayWrite (catalog_of c.args.self.now)) ws)
    (sym c.in-Ok.ensures.written)
    (all_may (catalog_of c.args.self.now) c.args.writes.now c.requires.may)
