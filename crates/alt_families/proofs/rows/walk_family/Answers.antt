-- A merge of the table and the files, from the start of the range.
use Rattle.std.proofs.Common.{◌≡◌, ◌≤◌, ◌+◌, ◌∷◌, ◌++◌, ℕ, Bool, List, map, take, Option, Some, refl, subst, sym, ap, ◌∙◌}
use Rattle.std.proofs.lemmas.Result.{on_ok_weaker}
use Rattle.std.specs.Prelude.{IsTrue, OnOk}
use Rattle.alt_cells.specs.Walks.{RowMap, rows_from}
use Rattle.alt_disk.specs.Disk.{DiskState}
use Rattle.alt_disk.proofs.Staying.{tells_on}
use Rattle.alt_merge.specs.Costs.{HasLists}
use Rattle.alt_merge.specs.Merges.{HoldsEach}
use Rattle.alt_merge.specs.Whole.{heads_of, sources_of}
use Rattle.alt_families.specs.Opened.{FamilyReads}
use Rattle.alt_families.specs.Paying.{IsPaid}
use Rattle.alt_families.specs.Ranges.{shown_between, start_of}
use Rattle.alt_families.specs.Reads.{is_passed, most_reads}
use Rattle.alt_families.specs.Sources.{source_holds, source_left, source_width}
use Rattle.alt_families.specs.declared.source.Source.{Source}
use Rattle.alt_families.proofs.PayLaws.{paid_start}
use Rattle.alt_families.proofs.RangeLaws.{ahead_start}
use Rattle.alt_families.proofs.SourceLaws.{family_holds}
use Rattle.alt_families.proofs.rows.walk_family.Given.{Over}
use Rattle.alt_families.proofs.rows.walk_family.Goals as goal

-- the rows given, and what they cost
gathered : (g : Over) (c : goal.After-drop-walk-in-Ok g)
    → IsTrue (g.D.Disk.state c.args.disk.now).tells → (rows : RowMap)
    → (reads : FamilyReads (g.D.Disk.state c.args.disk.now) (Some c.args.family.now) rows)
    → OnOk c.gather.result ((c.gather.new.out.items ≡ c.args.out.now.items ++ take c.args.most
    (shown_between rows c.args.range.now.from c.args.range.now.to c.args.forward))
    × ((g.D.Disk.state c.gather.new.disk).reads ≤ (g.D.Disk.state c.args.disk.now).reads
    + most_reads c.args.forward c.args.range.now.from c.args.range.now.to c.args.most
    (shown_between rows c.args.range.now.from c.args.range.now.to c.args.forward) reads.maps))
gathered g c told rows reads =
    let s : DiskState = g.D.Disk.state c.args.disk.now in
    let b : DiskState = g.D.Disk.state c.seek.new.disk in
    let from = c.args.range.now.from in
    let to = c.args.range.now.to in
    let forward = c.args.forward in
    let shows = shown_between rows from to forward in
    let p : List ℕ → Bool = is_passed forward from to c.args.most shows in
    let bound : ℕ = s.reads + most_reads forward from to c.args.most shows reads.maps in
    let each = subst (λ (l : List Source). HoldsEach source_holds s l
    (c.args.family.now.table.0 ∷ reads.maps)) (sym c.new-walk.ensures)
    (c.in_ok-sources.ensures.holds s reads.maps reads.each) in
    let paid : IsPaid p bound b c.seek.new.self forward (rows_from rows (start_of forward from to) forward) =
    paid_start p s b c.new-walk.result c.seek.new.self forward (start_of forward from to)
    c.args.family.now.table.0 rows c.args.family.now.files.items reads.maps reads.is reads.each
    (ap (map source_width) c.new-walk.ensures ∙ c.in_ok-sources.ensures.widths)
    c.seek.ensures.widths c.seek.ensures.reads
    (subst (λ (o : Option (List ℕ)). HasLists (source_left b) (sources_of c.seek.new.self)
    (heads_of c.seek.new.self) forward (map (λ m. rows_from m o forward)
    (c.args.family.now.table.0 ∷ reads.maps))) c.start_of.ensures
    (c.in-Ok.ensures.begins told (c.args.family.now.table.0 ∷ reads.maps) each))
    c.in-Ok.ensures.way in
    c.gather.ensures.rows (tells_on s b c.seek.ensures.keeps.goes told) p bound shows
    (λ some key. refl)
    (ahead_start (IsPaid p bound b c.seek.new.self forward) rows forward from to paid)

pub returns-in-Ok-clause-rows : goal.returns-in-Ok-clause-rows
returns-in-Ok-clause-rows g c told rows reads =
    on_ok_weaker c.gather.result (λ both. both.0) (gathered g c told rows reads)

pub returns-in-Ok-clause-reads : goal.returns-in-Ok-clause-reads
returns-in-Ok-clause-reads g c told rows reads =
    on_ok_weaker c.gather.result (λ both. both.1) (gathered g c told rows reads)

pub returns-in-Ok-clause-undamaged : goal.returns-in-Ok-clause-undamaged
returns-in-Ok-clause-undamaged g c told rows reads =
    let s : DiskState = g.D.Disk.state c.args.disk.now in
    let b : DiskState = g.D.Disk.state c.seek.new.disk in
    let holds = family_holds s c.args.family.now rows c.in_ok-sources.sources.items
    c.new-walk.result.sources.items c.new-walk.ensures (c.in_ok-sources.ensures.holds s)
    reads in
    c.gather.ensures.undamaged (tells_on s b c.seek.ensures.keeps.goes told) rows
    (c.seek.ensures.keeps.holds told rows holds)

pub returns-clause-undamaged : goal.returns-clause-undamaged
returns-clause-undamaged g c told rows reads =
    let s : DiskState = g.D.Disk.state c.args.disk.now in
    let holds = family_holds s c.args.family.now rows c.in_ok-sources.sources.items
    c.new-walk.result.sources.items c.new-walk.ensures (c.in_ok-sources.ensures.holds s)
    reads in
    c.in-Err.ensures.fails.sound told rows holds
