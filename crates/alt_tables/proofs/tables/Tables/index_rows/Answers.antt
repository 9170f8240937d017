-- The rows of the walk are those of what the index keeps, and nothing else changed.
use Rattle.std.proofs.Common.{◌≡◌, ◌++◌, ◌≤◌, ◌+◌, ℕ, true, List, Some, option_map, sym, ap, subst, ◌∙◌, take, OnOk, IfOk, Err}
use Rattle.std.proofs.lemmas.Option.{same_Some}
use Rattle.std.specs.FinMap as map
use Rattle.alt_base.proofs.Options.{on_ok_holds}
use Rattle.alt_rowchanges.specs.OpeningEngineInHand.{hand_of}
use Rattle.alt_families.specs.Reads.{most_reads}
use Rattle.alt_rowchanges.specs.OpeningHandInHand.{file_rows}
use Rattle.alt_layout.specs.Layout.{rows_between, shown}
use Rattle.alt_machine.specs.Indexed.{index_items}
use Rattle.alt_views.specs.IndexRows.{index_columns}
use Rattle.alt_tables.proofs.Paying.{last_given, walk_paid}
use Rattle.alt_machine.specs.Sources.{index_at}
use Rattle.alt_machine.specs.Walks.{items_between}
use Rattle.alt_schema.specs.Bare.{is_whole}
use Rattle.alt_schema.specs.declared.schema.IndexSchema.{IndexSchema}
use Rattle.alt_schema.specs.declared.schema.TableSchema.{TableSchema}
use Rattle.alt_tables.proofs.Pages.{page_kept, page_rows, same_table, whole_rows}
use Rattle.alt_tables.proofs.Standing.{there}
use Rattle.alt_tables.proofs.Looking.{fails_engine, fails_page, only_rows}
use Rattle.alt_disk.proofs.Runs.{tells_of}
use Rattle.alt_tables.proofs.tables.Tables.index_rows.Goals as goal

pub index_at-index-requires : goal.index_at-index-requires
index_at-index-requires g c = record {
  there = (c.requires.index c.in-Some.schema.now (sym c.in-Some.ensures.table)).0;
}

pub returns-in-Ok-clause-rows : goal.returns-in-Ok-clause-rows
returns-in-Ok-clause-rows g c s t i stands at at_index =
    let known_as = sym c.in-Some.ensures.table in
    let same : c.index_at-index.result.now ≡ i = same_Some _ _ (c.index_at-index.ensures.index
    ∙ ap (λ (d : TableSchema). index_at d (Some c.args.number))
    (same_table (g.D.Disk.state c.args.disk.now) c.args.self.now s c.args.table.now t
    c.in-Some.schema.now stands at known_as) ∙ at_index) in
    subst (λ (x : IndexSchema). OnOk c.read_index_page.result (c.read_index_page.new.out.items
    ≡ c.args.out.now.items ++ take c.args.most (items_between t (Some x) c.args.range.now.from
    c.args.range.now.to c.args.forward))) same
    (c.read_index_page.ensures.items _ (page_kept (g.D.Disk.state c.args.disk.now) c.args.self.now s
    c.args.table.now t c.in-Some.schema.now stands at known_as c.args.range.now.from
    c.args.range.now.to c.args.forward c.args.most c.new-page.result.items c.rows.new.out.items
    c.new-page.ensures.items c.args.number c.index_at-index.result.now
    (sym c.index_at-index.ensures.index)
    ((c.requires.index c.in-Some.schema.now known_as).1 c.index_at-index.result.now
    (sym c.index_at-index.ensures.index)) c.in-Ok.ensures.rows))

pub returns-in-Ok-clause-last : goal.returns-in-Ok-clause-last
returns-in-Ok-clause-last g c s t i stands at at_index =
    let known_as = sym c.in-Some.ensures.table in
    let l = stands.rows.layout in
    let items = index_items t.description i t.items in
    let same : c.index_at-index.result.now ≡ i = same_Some _ _ (c.index_at-index.ensures.index
    ∙ ap (λ (d : TableSchema). index_at d (Some c.args.number))
    (same_table (g.D.Disk.state c.args.disk.now) c.args.self.now s c.args.table.now t
    c.in-Some.schema.now stands at known_as) ∙ at_index) in
    let whole : is_whole i.built ≡ true =
    subst (λ (x : IndexSchema). is_whole x.built ≡ true) same
    ((c.requires.index c.in-Some.schema.now known_as).1 c.index_at-index.result.now
    (sym c.index_at-index.ensures.index)) in
    let shows : (key : List ℕ) → shown l i.family key
    ≡ option_map (index_columns t.description i) (map.get items key) =
    λ key. stands.rows.shows.indexes c.args.table.now t c.args.number i at at_index key
    ∙ whole_rows t i whole key in
    subst (λ o. IfOk c.read_index_page.result (λ last. last ≡ o))
    (last_given (index_columns t.description i) l i.family items shows c.args.range.now.from
    c.args.range.now.to c.args.forward c.args.most c.rows.new.out.items
    (page_rows (g.D.Disk.state c.args.disk.now) c.args.self.now s c.args.table.now t
    c.in-Some.schema.now stands at known_as c.args.range.now.from c.args.range.now.to
    c.args.forward c.args.most c.new-page.result.items c.rows.new.out.items
    c.new-page.ensures.items c.index_at-index.result.now.family c.in-Ok.ensures.rows
    (index_columns t.description i) items
    (λ key. ap (λ (x : IndexSchema). shown l x.family key) same ∙ shows key)))
    c.read_index_page.ensures.last

pub returns-in-Ok-clause-reads : goal.returns-in-Ok-clause-reads
returns-in-Ok-clause-reads g c s t i maps stands at at_index has =
    let known_as = sym c.in-Some.ensures.table in
    let l = stands.rows.layout in
    let reads = stands.rows.is.hand.reads in
    let same : c.index_at-index.result.now ≡ i = same_Some _ _ (c.index_at-index.ensures.index
    ∙ ap (λ (d : TableSchema). index_at d (Some c.args.number))
    (same_table (g.D.Disk.state c.args.disk.now) c.args.self.now s c.args.table.now t
    c.in-Some.schema.now stands at known_as) ∙ at_index) in
    let whole : is_whole i.built ≡ true =
    subst (λ (x : IndexSchema). is_whole x.built ≡ true) same
    ((c.requires.index c.in-Some.schema.now known_as).1 c.index_at-index.result.now
    (sym c.index_at-index.ensures.index)) in
    let paid = c.in-Ok.ensures.reads
    (tells_of (g.D.Disk.state c.args.disk.now) stands.rows.trusted) l reads in
    on_ok_holds c.read_index_page.result (walk_paid (index_columns t.description i) l i.family
    (index_items t.description i t.items)
    (λ key. stands.rows.shows.indexes c.args.table.now t c.args.number i at at_index key
    ∙ whole_rows t i whole key)
    c.args.range.now.from c.args.range.now.to c.args.forward (g.D.Disk.state c.args.disk.now)
    c.args.self.now.engine reads c.args.most (g.D.Disk.state c.args.disk.now).reads
    (g.D.Disk.state c.rows.new.disk).reads
    (subst (λ (x : IndexSchema). (g.D.Disk.state c.rows.new.disk).reads
    ≤ (g.D.Disk.state c.args.disk.now).reads
    + most_reads c.args.forward c.args.range.now.from c.args.range.now.to c.args.most
    (rows_between l x.family c.args.range.now.from c.args.range.now.to c.args.forward)
    (file_rows (hand_of c.args.self.now.engine) reads.held x.family)) same paid) maps has)

pub returns-in-Ok-clause-fails : goal.returns-in-Ok-clause-fails
returns-in-Ok-clause-fails g c = fails_page (g.D.Disk.state c.args.disk.now)
    (g.D.Disk.state c.rows.new.disk) c.args.self.now c.read_index_page.result
    c.read_index_page.ensures.unspent (λ s stands.
    let known_as = sym c.in-Some.ensures.table in
    let (t, at, same) = there (g.D.Disk.state c.args.disk.now) c.args.self.now s c.args.table.now
    c.in-Some.schema.now stands known_as in
    c.read_index_page.ensures.fault _
    (page_kept (g.D.Disk.state c.args.disk.now) c.args.self.now s c.args.table.now t
    c.in-Some.schema.now stands at known_as c.args.range.now.from
    c.args.range.now.to c.args.forward c.args.most c.new-page.result.items c.rows.new.out.items
    c.new-page.ensures.items c.args.number c.index_at-index.result.now
    (sym c.index_at-index.ensures.index)
    ((c.requires.index c.in-Some.schema.now known_as).1 c.index_at-index.result.now
    (sym c.index_at-index.ensures.index)) c.in-Ok.ensures.rows)) c.read_index_page.ensures.unfailed

pub returns-in-Ok-clause-only : goal.returns-in-Ok-clause-only
returns-in-Ok-clause-only g c = only_rows (g.D.Disk.state c.args.disk.now)
    (g.D.Disk.state c.rows.new.disk) c.args.self.now c.rows.new.self c.rows.ensures.goes
    c.rows.ensures.quiet c.rows.ensures.same c.rows.ensures.next c.rows.ensures.bounds c.requires.ready

pub returns-in-Err-clause-only : goal.returns-in-Err-clause-only
returns-in-Err-clause-only g c = only_rows (g.D.Disk.state c.args.disk.now)
    (g.D.Disk.state c.rows.new.disk) c.args.self.now c.rows.new.self c.rows.ensures.goes
    c.rows.ensures.quiet c.rows.ensures.same c.rows.ensures.next c.rows.ensures.bounds c.requires.ready

pub returns-in-Err-clause-fails : goal.returns-in-Err-clause-fails
returns-in-Err-clause-fails g c = fails_engine (g.D.Disk.state c.args.disk.now)
    (g.D.Disk.state c.rows.new.disk) c.args.self.now c.in-Err.fault c.from.result c.from.ensures
    c.in-Err.ensures.unspent c.in-Err.ensures.undamaged
    (λ failed. c.in-Err.ensures.cause (ap (λ f. Err f) failed))
