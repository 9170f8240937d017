-- The rows of the walk are those of the items, and nothing else changed.
use Rattle.std.proofs.Common.{◌≡◌, ◌∙◌, sym, ap, subst, IfOk, Err}
use Rattle.std.proofs.lemmas.Result.{on_ok_weaker}
use Rattle.std.specs.Prelude.{◌≤◌, ◌+◌}
use Rattle.alt_base.proofs.Options.{on_ok_holds}
use Rattle.alt_rowchanges.specs.OpeningEngineInHand.{hand_of}
use Rattle.alt_families.specs.Reads.{most_reads}
use Rattle.alt_rowchanges.specs.OpeningHandInHand.{file_rows}
use Rattle.alt_layout.specs.Layout.{rows_between, shown}
use Rattle.alt_schema.specs.declared.schema.TableSchema.{TableSchema}
use Rattle.alt_views.specs.ItemRows.{item_columns}
use Rattle.alt_tables.proofs.Pages.{page_items, page_reads, page_rows, same_table}
use Rattle.alt_tables.proofs.Paying.{last_given, walk_paid}
use Rattle.alt_tables.proofs.Standing.{there}
use Rattle.alt_tables.proofs.Looking.{fails_engine, fails_page, only_rows}
use Rattle.alt_disk.proofs.Runs.{tells_of}
use Rattle.alt_tables.proofs.tables.Tables.table_rows.Goals as goal

pub returns-in-Ok-clause-rows : goal.returns-in-Ok-clause-rows
returns-in-Ok-clause-rows g c s t stands at = on_ok_weaker c.read_page.result
    (page_items (g.D.Disk.state c.args.disk.now) c.args.self.now s c.args.table.now t
    c.in-Some.schema.now stands at (sym c.in-Some.ensures.table) c.args.range.now.from
    c.args.range.now.to c.args.forward c.args.most c.new-page.result.items c.rows.new.out.items
    c.new-page.ensures.items c.in-Ok.ensures.rows c.args.out.now.items
    c.read_page.new.out.items) c.read_page.ensures.items

pub returns-in-Ok-clause-last : goal.returns-in-Ok-clause-last
returns-in-Ok-clause-last g c s t stands at =
    let known_as = sym c.in-Some.ensures.table in
    let l = stands.rows.layout in
    let shows = stands.rows.shows.items c.args.table.now t at in
    subst (λ o. IfOk c.read_page.result (λ last. last ≡ o))
    (last_given item_columns l t.description.family t.items shows c.args.range.now.from
    c.args.range.now.to c.args.forward c.args.most c.rows.new.out.items
    (page_rows (g.D.Disk.state c.args.disk.now) c.args.self.now s c.args.table.now t
    c.in-Some.schema.now stands at known_as c.args.range.now.from c.args.range.now.to
    c.args.forward c.args.most c.new-page.result.items c.rows.new.out.items
    c.new-page.ensures.items c.in-Some.schema.now.family c.in-Ok.ensures.rows item_columns t.items
    (λ key. ap (λ (d : TableSchema). shown l d.family key)
    (same_table (g.D.Disk.state c.args.disk.now) c.args.self.now s c.args.table.now t
    c.in-Some.schema.now stands at known_as) ∙ shows key))) c.read_page.ensures.last

pub returns-in-Ok-clause-reads : goal.returns-in-Ok-clause-reads
returns-in-Ok-clause-reads g c s t maps stands at has =
    let known_as = sym c.in-Some.ensures.table in
    let l = stands.rows.layout in
    let reads = stands.rows.is.hand.reads in
    let same = same_table (g.D.Disk.state c.args.disk.now) c.args.self.now s c.args.table.now t
    c.in-Some.schema.now stands at known_as in
    let paid = c.in-Ok.ensures.reads
    (tells_of (g.D.Disk.state c.args.disk.now) stands.rows.trusted) l reads in
    on_ok_holds c.read_page.result (walk_paid item_columns l t.description.family t.items
    (stands.rows.shows.items c.args.table.now t at) c.args.range.now.from c.args.range.now.to
    c.args.forward (g.D.Disk.state c.args.disk.now) c.args.self.now.engine reads c.args.most
    (g.D.Disk.state c.args.disk.now).reads (g.D.Disk.state c.rows.new.disk).reads
    (subst (λ (d : TableSchema). (g.D.Disk.state c.rows.new.disk).reads
    ≤ (g.D.Disk.state c.args.disk.now).reads
    + most_reads c.args.forward c.args.range.now.from c.args.range.now.to c.args.most
    (rows_between l d.family c.args.range.now.from c.args.range.now.to c.args.forward)
    (file_rows (hand_of c.args.self.now.engine) reads.held d.family)) same paid) maps has)

pub returns-in-Ok-clause-fails : goal.returns-in-Ok-clause-fails
returns-in-Ok-clause-fails g c = fails_page (g.D.Disk.state c.args.disk.now)
    (g.D.Disk.state c.rows.new.disk) c.args.self.now c.read_page.result
    c.read_page.ensures.unspent (λ s stands.
    let (t, at, same) = there (g.D.Disk.state c.args.disk.now) c.args.self.now s c.args.table.now
    c.in-Some.schema.now stands (sym c.in-Some.ensures.table) in
    c.read_page.ensures.fault _
    (page_reads (g.D.Disk.state c.args.disk.now) c.args.self.now s c.args.table.now t
    c.in-Some.schema.now stands at (sym c.in-Some.ensures.table) c.args.range.now.from
    c.args.range.now.to c.args.forward c.args.most c.new-page.result.items c.rows.new.out.items
    c.new-page.ensures.items c.in-Ok.ensures.rows)) c.read_page.ensures.unfailed

pub returns-in-Ok-clause-only : goal.returns-in-Ok-clause-only
returns-in-Ok-clause-only g c = only_rows (g.D.Disk.state c.args.disk.now)
    (g.D.Disk.state c.rows.new.disk) c.args.self.now c.rows.new.self c.rows.ensures.goes
    c.rows.ensures.quiet c.rows.ensures.same c.rows.ensures.next c.rows.ensures.bounds c.requires.ready

pub returns-in-Err-clause-only : goal.returns-in-Err-clause-only
returns-in-Err-clause-only g c = only_rows (g.D.Disk.state c.args.disk.now)
    (g.D.Disk.state c.rows.new.disk) c.args.self.now c.rows.new.self c.rows.ensures.goes
    c.rows.ensures.quiet c.rows.ensures.same c.rows.ensures.next c.rows.ensures.bounds c.requires.ready

pub returns-in-Err-clause-fails : goal.returns-in-Err-clause-fails
returns-in-Err-clause-fails g c = fails_engine (g.D.Disk.state c.args.disk.now)
    (g.D.Disk.state c.rows.new.disk) c.args.self.now c.in-Err.fault c.from.result c.from.ensures
    c.in-Err.ensures.unspent c.in-Err.ensures.undamaged
    (λ failed. c.in-Err.ensures.cause (ap (λ f. Err f) failed))
