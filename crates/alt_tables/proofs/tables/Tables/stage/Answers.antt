-- The row changes of the write are put behind the others, and what it takes before what they take.
use Rattle.std.proofs.Common.{◌+◌, refl, sym, ap, subst, ◌∙◌, rules, arith}
use Rattle.std.specs.FinMap as map
use Rattle.alt_disk.specs.Disk.{DiskState}
use Rattle.alt_machine.specs.State.{Texts}
use Rattle.alt_schema.specs.declared.schema.TableSchema.{TableSchema}
use Rattle.alt_tables.specs.Stands.{KeepsTables, catalog_of, next_write_of_tables}
use Rattle.alt_tables.specs.declared.several.Staged.{Staged}
use Rattle.alt_tables.specs.declared.tables.Tables.{Tables}
use Rattle.alt_tables.specs.private.Staging.{IsStateAhead}
use Rattle.alt_tables.proofs.Staged.{described_by, one_staged, within_later}
use Rattle.alt_tables.proofs.Standing.{keeps_on}
use Rattle.alt_tables.proofs.tables.Tables.stage.Goals as goal

pub returns-in-Err-clause-fault : goal.returns-in-Err-clause-fault
returns-in-Err-clause-fault g c s r l stands rows ahead =
    c.in-Err.ensures.fault s r l c.args.staged.now.batches.items stands rows
    (subst (λ ns. IsStateAhead l s c.args.moment ns c.args.staged.now.batches.items r)
    (sym c.as_slice-notes.ensures.value) ahead)

pub returns-clause-staged : goal.returns-clause-staged
returns-clause-staged g c s r l stands rows distinct ahead found =
    let a : DiskState = g.D.Disk.state c.args.disk.now in
    let old : Tables = c.args.self.now in
    let before : Staged = c.args.staged.now in
    let told : Tables = c.foretell.new.self in
    let keeps : KeepsTables a (g.D.Disk.state c.trim_behind.new.disk) old told =
    keeps_on a (g.D.Disk.state c.trim_behind.new.disk) old c.trim_behind.new.self told
    c.trim_behind.ensures.keeps c.foretell.ensures.keeps in
    let (d, described) = described_by (catalog_of old) c.args.change.table c.requires.may.there in
    one_staged a old s stands l c.args.moment before.notes.items before.batches.items r ahead
    c.args.by rows c.args.change c.requires.may c.requires.differ found
    c.requires.room d described c.in-Ok.read
    (λ t at. c.in-Ok.ensures.trim s r l before.batches.items t stands rows distinct
    (subst (λ ns. IsStateAhead l s c.args.moment ns before.batches.items r)
    (sym c.as_slice-notes.ensures.value) ahead)
    (ap (map.get r.tables) c.as_str.ensures.same ∙ at))
    (next_write_of_tables told + c.len-count.result)
    (omega (arith, keeps.number, c.len-count.ensures, before.batches.ok.0))
    c.in_ok-batch.batch
    (c.in_ok-batch.ensures.changes d
    (ap (map.get (catalog_of told)) c.as_str-3.ensures.same
    ∙ ap (λ (k : Texts TableSchema). map.get k c.args.change.table)
    keeps.catalog ∙ described))
    c.as_slice-changes.ensures.distinct c.in_ok-batch.ensures.held (search rules) before
    (record { batches = c.push.new.self; notes = c.insert.new.self }) refl refl
    c.in_ok-insert.ensures.items c.in_ok-push.ensures.items

-- ---- what is asked of the batch

pub batch-requires-clause-there : goal.batch-requires-clause-there
batch-requires-clause-there g c =
    let a : DiskState = g.D.Disk.state c.args.disk.now in
    let m : DiskState = g.D.Disk.state c.trim_behind.new.disk in
    let old : Tables = c.args.self.now in
    let told : Tables = c.foretell.new.self in
    let keeps : KeepsTables a m old told = keeps_on a m old c.trim_behind.new.self told
    c.trim_behind.ensures.keeps c.foretell.ensures.keeps in
    ap (λ (k : Texts TableSchema). map.contains_key k c.as_str-3.result.now) keeps.catalog
    ∙ ap (map.contains_key (catalog_of old)) c.as_str-3.ensures.same ∙ c.requires.may.there

pub batch-requires-clause-room : goal.batch-requires-clause-room
batch-requires-clause-room g c =
    let a : DiskState = g.D.Disk.state c.args.disk.now in
    let m : DiskState = g.D.Disk.state c.trim_behind.new.disk in
    let old : Tables = c.args.self.now in
    let told : Tables = c.foretell.new.self in
    let keeps : KeepsTables a m old told = keeps_on a m old c.trim_behind.new.self told
    c.trim_behind.ensures.keeps c.foretell.ensures.keeps in
    omega (arith, keeps.number, c.requires.room, c.len-count.ensures, c.args.staged.now.batches.ok.0)

pub batch-requires-clause-within : goal.batch-requires-clause-within
batch-requires-clause-within g c d at has =
    let a : DiskState = g.D.Disk.state c.args.disk.now in
    let m : DiskState = g.D.Disk.state c.trim_behind.new.disk in
    let old : Tables = c.args.self.now in
    let told : Tables = c.foretell.new.self in
    let keeps : KeepsTables a m old told = keeps_on a m old c.trim_behind.new.self told
    c.trim_behind.ensures.keeps c.foretell.ensures.keeps in
    within_later c.in-Ok.read.0 (next_write_of_tables old) (next_write_of_tables told + c.len-count.result) c.in-Ok.read.1
    (omega (arith, keeps.number)) (c.in-Ok.ensures.within d
    (ap (map.get (catalog_of old)) (c.as_str.ensures.same ∙ sym c.as_str-3.ensures.same)
    ∙ ap (λ (k : Texts TableSchema). map.get k c.as_str-3.result.now) (sym keeps.catalog) ∙ at) has)

-- ---- what is kept

pub returns-in_err-batch-clause-keeps : goal.returns-in_err-batch-clause-keeps
returns-in_err-batch-clause-keeps g c = keeps_on (g.D.Disk.state c.args.disk.now)
    (g.D.Disk.state c.trim_behind.new.disk) c.args.self.now c.trim_behind.new.self
    c.foretell.new.self c.trim_behind.ensures.keeps c.foretell.ensures.keeps

pub returns-in_err-push-clause-keeps : goal.returns-in_err-push-clause-keeps
returns-in_err-push-clause-keeps g c = keeps_on (g.D.Disk.state c.args.disk.now)
    (g.D.Disk.state c.trim_behind.new.disk) c.args.self.now c.trim_behind.new.self
    c.foretell.new.self c.trim_behind.ensures.keeps c.foretell.ensures.keeps

pub returns-in_err-insert-clause-keeps : goal.returns-in_err-insert-clause-keeps
returns-in_err-insert-clause-keeps g c = keeps_on (g.D.Disk.state c.args.disk.now)
    (g.D.Disk.state c.trim_behind.new.disk) c.args.self.now c.trim_behind.new.self
    c.foretell.new.self c.trim_behind.ensures.keeps c.foretell.ensures.keeps

pub returns-clause-keeps : goal.returns-clause-keeps
returns-clause-keeps g c = keeps_on (g.D.Disk.state c.args.disk.now)
    (g.D.Disk.state c.trim_behind.new.disk) c.args.self.now c.trim_behind.new.self
    c.foretell.new.self c.trim_behind.ensures.keeps c.foretell.ensures.keeps
