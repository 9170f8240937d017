-- What has expired is looked up, and deleted.
use Rattle.std.proofs.Common.{sym, subst, ◌∙◌, ℕ, map}
use Rattle.alt_codec.specs.declared.writer.Writer.TheVariants.{Expiry}
use Rattle.alt_machine.specs.Ops.BatchWriteItem.{writes_of_all_by}
use Rattle.alt_machine.specs.Ops.ExpireItems.{expire_items}
use Rattle.alt_machine.specs.State.{Texts}
use Rattle.alt_schema.specs.declared.schema.TableSchema.{TableSchema}
use Rattle.alt_request.proofs.TablesLeft.{leaves_after, leaves_reads}
use Rattle.alt_request.proofs.TablesLooking.{ready_only}
use Rattle.alt_request.proofs.TablesStanding.{file_stays}
use Rattle.alt_request.specs.TablesFaults.{BreakOffAll}
use Rattle.alt_request.specs.TablesSeveral.{Every, MayWrite, written_at}
use Rattle.alt_request.specs.TablesStands.{Stands, bounds_of}
use Rattle.alt_ttl.proofs.Deleting.{broke_is, count_is, leaves_is, made_is, search_broke}
use Rattle.alt_ttl.proofs.expiry.expire.Goals as goal

pub write_all-requires : goal.write_all-requires
write_all-requires g c = record {
  ready = ready_only c.in-Ok.ensures.only c.requires.ready;
  may = subst (λ (k : Texts TableSchema). Every (MayWrite k)
      (map written_at c.in-Ok.changes.items))
      (sym c.in-Ok.ensures.only.catalog.catalog) c.in-Ok.ensures.may;
  apart = c.in-Ok.ensures.apart;
  found = λ s stands. c.in-Ok.ensures.found s ((c.in-Ok.ensures.only.stays s).1 stands);
}

pub returns-in-Err-clause-writes : goal.returns-in-Err-clause-writes
returns-in-Err-clause-writes g c s stands =
    search_broke (bounds_of c.args.tables.now).file (Stands (g.D.Disk.state c.deletions.new.disk) c.deletions.new.tables)
    (expire_items s c.args.moment).wants s (expire_items s c.args.moment).atoms c.in-Err.fault
    (c.in-Err.ensures.fails.fault s stands)

pub returns-in-Err-clause-disk : goal.returns-in-Err-clause-disk
returns-in-Err-clause-disk g c s stands =
    leaves_reads (g.D.Disk.state c.args.disk.now) (g.D.Disk.state c.deletions.new.disk)
    c.args.tables.now s (expire_items s c.args.moment).atoms c.in-Err.ensures.only.disk stands

pub returns-in-Ok-write_all-clause-writes : goal.returns-in-Ok-write_all-clause-writes
returns-in-Ok-write_all-clause-writes g c s stands =
    made_is s c.args.moment c.in-Ok.changes.items (c.in-Ok.ensures.written s stands)
    (Stands (g.D.Disk.state c.write_all.new.disk) c.write_all.new.self)
    (c.in-Ok-write_all.ensures.writes s ((c.in-Ok.ensures.only.stays s).0 stands))

pub returns-in-Ok-write_all-clause-count : goal.returns-in-Ok-write_all-clause-count
returns-in-Ok-write_all-clause-count g c s stands = c.len-count.ensures
    ∙ c.in-Ok.changes.ok.0 ∙ count_is s c.args.moment c.in-Ok.changes.items (c.in-Ok.ensures.written s stands)

pub returns-in-Ok-write_all-clause-disk : goal.returns-in-Ok-write_all-clause-disk
returns-in-Ok-write_all-clause-disk g c s stands =
    leaves_after (g.D.Disk.state c.args.disk.now) (g.D.Disk.state c.deletions.new.disk)
    (g.D.Disk.state c.write_all.new.disk) c.args.tables.now s
    (expire_items s c.args.moment).atoms c.in-Ok.ensures.only.disk stands
    (leaves_is s c.args.moment c.in-Ok.changes.items (c.in-Ok.ensures.written s stands)
    (g.D.Disk.state c.deletions.new.disk) (g.D.Disk.state c.write_all.new.disk)
    (c.in-Ok-write_all.ensures.disk s ((c.in-Ok.ensures.only.stays s).0 stands)))

pub returns-in-Err-write_all-clause-writes : goal.returns-in-Err-write_all-clause-writes
returns-in-Err-write_all-clause-writes g c s stands =
    broke_is s c.args.moment c.in-Ok.changes.items (c.in-Ok.ensures.written s stands)
    (bounds_of c.args.tables.now).file
    (Stands (g.D.Disk.state c.write_all.new.disk) c.write_all.new.self) c.in-Err-write_all.fault
    stands.valid.next_number.1
    (subst (λ (n : ℕ). BreakOffAll n
    (Stands (g.D.Disk.state c.write_all.new.disk) c.write_all.new.self) s
    (writes_of_all_by s c.args.moment Expiry (map written_at c.in-Ok.changes.items))
    c.in-Err-write_all.fault)
    (file_stays c.args.tables.now c.deletions.new.tables c.in-Ok.ensures.only.catalog.limits)
    (c.in-Err-write_all.ensures.writes s ((c.in-Ok.ensures.only.stays s).0 stands)))

pub returns-in-Err-write_all-clause-disk : goal.returns-in-Err-write_all-clause-disk
returns-in-Err-write_all-clause-disk g c s stands =
    leaves_after (g.D.Disk.state c.args.disk.now) (g.D.Disk.state c.deletions.new.disk)
    (g.D.Disk.state c.write_all.new.disk) c.args.tables.now s
    (expire_items s c.args.moment).atoms c.in-Ok.ensures.only.disk stands
    (leaves_is s c.args.moment c.in-Ok.changes.items (c.in-Ok.ensures.written s stands)
    (g.D.Disk.state c.deletions.new.disk) (g.D.Disk.state c.write_all.new.disk)
    (c.in-Err-write_all.ensures.disk s ((c.in-Ok.ensures.only.stays s).0 stands)))
