-- One more is got ready behind the others.
use Rattle.std.proofs.Common.{sym, subst, List, [], ◌∷◌, arith}
use Rattle.std.proofs.Math.Nat.{le_refl}
use Rattle.std.specs.Vec.Iter.{into_iter_items}
use Rattle.std.proofs.lemmas.List.{nil_from_length}
use Rattle.alt_disk.specs.Disk.{DiskState}
use Rattle.alt_machine.specs.State.{Texts}
use Rattle.alt_schema.specs.declared.schema.TableSchema.{TableSchema}
use Rattle.alt_tables.specs.Several.{MayWrite, written_at}
use Rattle.alt_tables.specs.Stands.{catalog_of, next_write_of_tables}
use Rattle.alt_tables.specs.declared.several.ItemChange.{ItemChange}
use Rattle.alt_tables.specs.declared.several.Staged.{Staged}
use Rattle.alt_tables.specs.declared.tables.Tables.{Tables}
use Rattle.alt_tables.specs.private.Staging.{AreNotes}
use Rattle.alt_tables.proofs.Staged.{IsStaging, all_staged, staging_more, staging_none}
use Rattle.alt_tables.proofs.Standing.{keeps_then, ready_kept, rows_kept, stands_kept}
use Rattle.alt_tables.proofs.tables.Tables.stage_all.Goals as goal

pub loop-change-init : goal.loop-change-init
loop-change-init g c = staging_none (g.D.Disk.state c.args.disk.now) c.args.self.now c.args.moment
    c.args.by c.args.changes.items (into_iter_items c.into_iter-change-iterator.result) _
    c.into_iter-change-iterator.ensures.into_iter_gives.0 c.in_ok-with_capacity.ensures.items
    c.new.ensures.items c.requires.may c.requires.apart c.requires.differ c.requires.found

pub stage-requires-clause-ready : goal.stage-requires-clause-ready
stage-requires-clause-ready g c =
    let a : DiskState = g.D.Disk.state c.args.disk.now in
    let m : DiskState = g.D.Disk.state c.loop-change.disk in
    let old : Tables = c.args.self.now in
    let now : Tables = c.loop-change.self in
    let all : List ItemChange = c.args.changes.items in
    let rest : List ItemChange = into_iter_items c.next.new.self in
    let change : ItemChange = c.in-Some.change in
    let staged : Staged = c.loop-change.staged in
    let so : IsStaging a old m now c.args.moment c.args.by all (change ∷ rest) staged =
    subst (λ cs. IsStaging a old m now c.args.moment c.args.by all cs staged)
    c.in-Some.ensures.steps.0 c.loop-change.invariant in
    ready_kept a m old now so.keeps c.requires.ready

pub stage-requires-clause-may : goal.stage-requires-clause-may
stage-requires-clause-may g c =
    let a : DiskState = g.D.Disk.state c.args.disk.now in
    let m : DiskState = g.D.Disk.state c.loop-change.disk in
    let old : Tables = c.args.self.now in
    let now : Tables = c.loop-change.self in
    let all : List ItemChange = c.args.changes.items in
    let rest : List ItemChange = into_iter_items c.next.new.self in
    let change : ItemChange = c.in-Some.change in
    let staged : Staged = c.loop-change.staged in
    let so : IsStaging a old m now c.args.moment c.args.by all (change ∷ rest) staged =
    subst (λ cs. IsStaging a old m now c.args.moment c.args.by all cs staged)
    c.in-Some.ensures.steps.0 c.loop-change.invariant in
    subst (λ (k : Texts TableSchema). MayWrite k (written_at change)) (sym so.keeps.catalog)
    so.may.0

pub stage-requires-clause-notes : goal.stage-requires-clause-notes
stage-requires-clause-notes g c =
    let a : DiskState = g.D.Disk.state c.args.disk.now in
    let m : DiskState = g.D.Disk.state c.loop-change.disk in
    let old : Tables = c.args.self.now in
    let now : Tables = c.loop-change.self in
    let all : List ItemChange = c.args.changes.items in
    let rest : List ItemChange = into_iter_items c.next.new.self in
    let change : ItemChange = c.in-Some.change in
    let staged : Staged = c.loop-change.staged in
    let so : IsStaging a old m now c.args.moment c.args.by all (change ∷ rest) staged =
    subst (λ cs. IsStaging a old m now c.args.moment c.args.by all cs staged)
    c.in-Some.ensures.steps.0 c.loop-change.invariant in
    subst (λ n. AreNotes (catalog_of now) n staged.notes.items) (sym so.keeps.number)
    (subst (λ (k : Texts TableSchema). AreNotes k (next_write_of_tables old) staged.notes.items)
    (sym so.keeps.catalog) so.notes)

pub stage-requires-clause-room : goal.stage-requires-clause-room
stage-requires-clause-room g c =
    let a : DiskState = g.D.Disk.state c.args.disk.now in
    let m : DiskState = g.D.Disk.state c.loop-change.disk in
    let old : Tables = c.args.self.now in
    let now : Tables = c.loop-change.self in
    let all : List ItemChange = c.args.changes.items in
    let rest : List ItemChange = into_iter_items c.next.new.self in
    let change : ItemChange = c.in-Some.change in
    let staged : Staged = c.loop-change.staged in
    let so : IsStaging a old m now c.args.moment c.args.by all (change ∷ rest) staged =
    subst (λ cs. IsStaging a old m now c.args.moment c.args.by all cs staged)
    c.in-Some.ensures.steps.0 c.loop-change.invariant in
    let count = so.count in
    let number = so.keeps.number in
    omega (arith, count, number, c.requires.room)

pub loop-change-preserved : goal.loop-change-preserved
loop-change-preserved g c =
    let a : DiskState = g.D.Disk.state c.args.disk.now in
    let m : DiskState = g.D.Disk.state c.loop-change.disk in
    let old : Tables = c.args.self.now in
    let now : Tables = c.loop-change.self in
    let all : List ItemChange = c.args.changes.items in
    let rest : List ItemChange = into_iter_items c.next.new.self in
    let change : ItemChange = c.in-Some.change in
    let staged : Staged = c.loop-change.staged in
    let so : IsStaging a old m now c.args.moment c.args.by all (change ∷ rest) staged =
    subst (λ cs. IsStaging a old m now c.args.moment c.args.by all cs staged)
    c.in-Some.ensures.steps.0 c.loop-change.invariant in
    staging_more a m (g.D.Disk.state c.stage.new.disk) old now c.stage.new.self c.args.moment
    c.args.by all rest change staged c.stage.new.staged so c.stage.ensures.keeps
    c.in-Ok.ensures.staged (c.in-Ok.ensures.distinct so.distinct) c.in-Ok.ensures.count
    c.in-Ok.ensures.notes c.in-Ok.ensures.foretold c.in-Ok.ensures.fits

pub returns-in-Err-clause-keeps : goal.returns-in-Err-clause-keeps
returns-in-Err-clause-keeps g c =
    let a : DiskState = g.D.Disk.state c.args.disk.now in
    let m : DiskState = g.D.Disk.state c.loop-change.disk in
    let old : Tables = c.args.self.now in
    let now : Tables = c.loop-change.self in
    let all : List ItemChange = c.args.changes.items in
    let rest : List ItemChange = into_iter_items c.next.new.self in
    let change : ItemChange = c.in-Some.change in
    let staged : Staged = c.loop-change.staged in
    let so : IsStaging a old m now c.args.moment c.args.by all (change ∷ rest) staged =
    subst (λ cs. IsStaging a old m now c.args.moment c.args.by all cs staged)
    c.in-Some.ensures.steps.0 c.loop-change.invariant in
    keeps_then a m (g.D.Disk.state c.stage.new.disk) old now c.stage.new.self so.keeps
    c.stage.ensures.keeps

pub returns-in-Err-clause-fault : goal.returns-in-Err-clause-fault
returns-in-Err-clause-fault g c s stands =
    let a : DiskState = g.D.Disk.state c.args.disk.now in
    let m : DiskState = g.D.Disk.state c.loop-change.disk in
    let old : Tables = c.args.self.now in
    let now : Tables = c.loop-change.self in
    let all : List ItemChange = c.args.changes.items in
    let rest : List ItemChange = into_iter_items c.next.new.self in
    let change : ItemChange = c.in-Some.change in
    let staged : Staged = c.loop-change.staged in
    let so : IsStaging a old m now c.args.moment c.args.by all (change ∷ rest) staged =
    subst (λ cs. IsStaging a old m now c.args.moment c.args.by all cs staged)
    c.in-Some.ensures.steps.0 c.loop-change.invariant in
    let under = so.so s stands.rows.layout stands stands.rows.is in
    c.in-Err.ensures.fault s under.state stands.rows.layout (stands_kept a m old now so.keeps s stands)
    (rows_kept a m old now so.keeps stands.rows.trusted stands.rows.layout stands.rows.is)
    under.ahead

pub returns-clause-staged : goal.returns-clause-staged
returns-clause-staged g c s l stands rows =
    let a : DiskState = g.D.Disk.state c.args.disk.now in
    let m : DiskState = g.D.Disk.state c.loop-change.disk in
    let old : Tables = c.args.self.now in
    let now : Tables = c.loop-change.self in
    let all : List ItemChange = c.args.changes.items in
    let staged : Staged = c.loop-change.staged in
    let so : IsStaging a old m now c.args.moment c.args.by all [] staged =
    subst (λ cs. IsStaging a old m now c.args.moment c.args.by all cs staged)
    (nil_from_length (into_iter_items c.loop-change.change-iterator)
    (omega (arith, c.loop-change.change-iterator.rest.ok, c.in-None.ensures.steps.0)))
    c.loop-change.invariant in
    all_staged l s c.args.moment c.args.by all staged (so.so s l stands rows)

pub returns-clause-distinct : goal.returns-clause-distinct
returns-clause-distinct g c = c.loop-change.invariant.distinct

pub returns-clause-count : goal.returns-clause-count
returns-clause-count g c =
    let a : DiskState = g.D.Disk.state c.args.disk.now in
    let m : DiskState = g.D.Disk.state c.loop-change.disk in
    let old : Tables = c.args.self.now in
    let now : Tables = c.loop-change.self in
    let all : List ItemChange = c.args.changes.items in
    let staged : Staged = c.loop-change.staged in
    let so : IsStaging a old m now c.args.moment c.args.by all [] staged =
    subst (λ cs. IsStaging a old m now c.args.moment c.args.by all cs staged)
    (nil_from_length (into_iter_items c.loop-change.change-iterator)
    (omega (arith, c.loop-change.change-iterator.rest.ok, c.in-None.ensures.steps.0)))
    c.loop-change.invariant in
    let count = so.count in
    omega (arith, count)

pub returns-clause-foretold : goal.returns-clause-foretold
returns-clause-foretold g c =
    let a : DiskState = g.D.Disk.state c.args.disk.now in
    let m : DiskState = g.D.Disk.state c.loop-change.disk in
    let old : Tables = c.args.self.now in
    let now : Tables = c.loop-change.self in
    let all : List ItemChange = c.args.changes.items in
    let staged : Staged = c.loop-change.staged in
    let so : IsStaging a old m now c.args.moment c.args.by all [] staged =
    subst (λ cs. IsStaging a old m now c.args.moment c.args.by all cs staged)
    (nil_from_length (into_iter_items c.loop-change.change-iterator)
    (omega (arith, c.loop-change.change-iterator.rest.ok, c.in-None.ensures.steps.0)))
    c.loop-change.invariant in
    so.told now.due (λ moment spot knows. knows) tt

pub returns-clause-fits : goal.returns-clause-fits
returns-clause-fits g c =
    let a : DiskState = g.D.Disk.state c.args.disk.now in
    let m : DiskState = g.D.Disk.state c.loop-change.disk in
    let old : Tables = c.args.self.now in
    let now : Tables = c.loop-change.self in
    let all : List ItemChange = c.args.changes.items in
    let staged : Staged = c.loop-change.staged in
    let so : IsStaging a old m now c.args.moment c.args.by all [] staged =
    subst (λ cs. IsStaging a old m now c.args.moment c.args.by all cs staged)
    (nil_from_length (into_iter_items c.loop-change.change-iterator)
    (omega (arith, c.loop-change.change-iterator.rest.ok, c.in-None.ensures.steps.0)))
    c.loop-change.invariant in
    so.fits now.largest (le_refl now.largest) tt

pub returns-clause-notes : goal.returns-clause-notes
returns-clause-notes g c = c.loop-change.invariant.notes

pub returns-clause-keeps : goal.returns-clause-keeps
returns-clause-keeps g c = c.loop-change.invariant.keeps
