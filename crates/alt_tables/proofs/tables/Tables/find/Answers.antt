-- What the row shows is the item, and nothing else changed.
use Rattle.std.proofs.Common.{sym, ap, ◌∙◌, Err}
use Rattle.alt_layout.specs.Layout.{shown}
use Rattle.std.specs.FinMap as map
use Rattle.alt_disk.proofs.Runs.{tells_of}
use Rattle.alt_tables.proofs.Standing.{there, item_found, item_reads, row_shows}
use Rattle.alt_tables.proofs.Looking.{fails_engine, only_rows}
use Rattle.alt_tables.proofs.tables.Tables.find.Goals as goal

pub returns-in-Err-clause-only : goal.returns-in-Err-clause-only
returns-in-Err-clause-only g c = only_rows (g.D.Disk.state c.args.disk.now)
    (g.D.Disk.state c.row.new.disk) c.args.self.now c.row.new.self c.row.ensures.goes
    c.row.ensures.quiet c.row.ensures.same c.row.ensures.next c.row.ensures.bounds c.requires.ready

pub returns-in-Ok-item_of-clause-only : goal.returns-in-Ok-item_of-clause-only
returns-in-Ok-item_of-clause-only g c = only_rows (g.D.Disk.state c.args.disk.now)
    (g.D.Disk.state c.row.new.disk) c.args.self.now c.row.new.self c.row.ensures.goes
    c.row.ensures.quiet c.row.ensures.same c.row.ensures.next c.row.ensures.bounds c.requires.ready

pub returns-in-Err-Bad-clause-only : goal.returns-in-Err-Bad-clause-only
returns-in-Err-Bad-clause-only g c = only_rows (g.D.Disk.state c.args.disk.now)
    (g.D.Disk.state c.row.new.disk) c.args.self.now c.row.new.self c.row.ensures.goes
    c.row.ensures.quiet c.row.ensures.same c.row.ensures.next c.row.ensures.bounds c.requires.ready

pub returns-in-Err-NoMemory-clause-only : goal.returns-in-Err-NoMemory-clause-only
returns-in-Err-NoMemory-clause-only g c = only_rows (g.D.Disk.state c.args.disk.now)
    (g.D.Disk.state c.row.new.disk) c.args.self.now c.row.new.self c.row.ensures.goes
    c.row.ensures.quiet c.row.ensures.same c.row.ensures.next c.row.ensures.bounds c.requires.ready

pub returns-in-Ok-item_of-clause-item : goal.returns-in-Ok-item_of-clause-item
returns-in-Ok-item_of-clause-item g c s stands t at =
    item_found (g.D.Disk.state c.args.disk.now) c.args.self.now s c.args.table.now t
    c.in-Some.schema.now stands at (sym c.in-Some.ensures.table) c.args.place c.in-Ok.row
    (λ l reads. c.in-Ok.ensures.row
    (tells_of (g.D.Disk.state c.args.disk.now) stands.rows.trusted) l reads
    ∙ ap (shown l c.in-Some.schema.now.family) c.as_slice.ensures.same)
    c.in-Ok-item_of.item c.in-Ok-item_of.ensures.item.0 c.in-Ok-item_of.ensures.item.1

pub returns-in-Err-Bad-clause-fails : goal.returns-in-Err-Bad-clause-fails
returns-in-Err-Bad-clause-fails g c = record {
  unspent = tt;
  fault = λ s stands.
      let (t, at, same) = there (g.D.Disk.state c.args.disk.now) c.args.self.now s c.args.table.now
      c.in-Some.schema.now stands (sym c.in-Some.ensures.table) in
      c.in-Err-Bad.ensures.none (ap (λ f. Err f) c.in-Err-Bad.field-0-is)
      (map.get t.items c.args.place)
      (item_reads (g.D.Disk.state c.args.disk.now) c.args.self.now s c.args.table.now t
      c.in-Some.schema.now stands at (sym c.in-Some.ensures.table) c.args.place c.in-Ok.row
      (λ l reads. c.in-Ok.ensures.row
      (tells_of (g.D.Disk.state c.args.disk.now) stands.rows.trusted) l reads
      ∙ ap (shown l c.in-Some.schema.now.family) c.as_slice.ensures.same))
      (row_shows (g.D.Disk.state c.args.disk.now) c.args.self.now s c.args.table.now t
      c.in-Some.schema.now stands at (sym c.in-Some.ensures.table) c.args.place c.in-Ok.row
      (λ l reads. c.in-Ok.ensures.row
      (tells_of (g.D.Disk.state c.args.disk.now) stands.rows.trusted) l reads
      ∙ ap (shown l c.in-Some.schema.now.family) c.as_slice.ensures.same));
  cause = λ failed. absurd (let g : ⊥ = cc in g);
}

pub returns-in-Err-clause-fails : goal.returns-in-Err-clause-fails
returns-in-Err-clause-fails g c = fails_engine (g.D.Disk.state c.args.disk.now)
    (g.D.Disk.state c.row.new.disk) c.args.self.now c.in-Err.fault c.from.result c.from.ensures
    c.in-Err.ensures.unspent c.in-Err.ensures.undamaged
    (λ failed. c.in-Err.ensures.cause (ap (λ f. Err f) failed))
