-- The write at the place of the key.
use Rattle.std.proofs.Common.{◌≡◌, ◌∙◌, subst, ℕ, List, Option, Some, Result, Ok, Err, IfOk, IsSome, option_map}
use Rattle.std.specs.FinMap as map
use Rattle.alt_cells.specs.declared.batch.RowChange.{RowChange}
use Rattle.alt_codec.specs.declared.writer.Writer.TheVariants.{User}
use Rattle.alt_disk.specs.Disk.{DiskState, IsTrusted}
use Rattle.alt_layout.specs.Layout.{Layout}
use Rattle.alt_schema.specs.declared.schema.TableSchema.{TableSchema}
use Rattle.alt_rowchanges.specs.RowChanges.{changed_rows, write_changes}
use Rattle.alt_tables.specs.declared.tables.Tables.{Tables}
use Rattle.alt_value.specs.Tree.{Pair}
use Rattle.alt_disk.proofs.Runs.{quiet_start}
use Rattle.alt_machine.specs.Keys.{place_of}
use Rattle.alt_machine.specs.Outcomes.{a_number}
use Rattle.alt_machine.specs.State.{State}
use Rattle.alt_machine.specs.Writes.{item_writes}
use Rattle.alt_tables.specs.Faults.{Writes}
use Rattle.alt_tables.specs.Found.{number_taken}
use Rattle.alt_rowchanges.specs.OpeningTrimmed.{number_at}
use Rattle.alt_tables.specs.Images.{Leaves}
use Rattle.alt_rowchanges.specs.Leftovers.{lowest_left}
use Rattle.alt_tables.specs.Stands.{HasRows, Stands, bounds_of, catalog_of, next_write_of_tables, trimmed_of}
use Rattle.alt_tables.proofs.Holding.{leaves_quiet}
use Rattle.alt_tables.proofs.Standing.{known, one_place}
use Rattle.alt_tables.proofs.tables.Tables.write_item.Goals as goal

pub write-requires-clause-found : goal.write-requires-clause-found
write-requires-clause-found g c s stands t at =
    let described = known (g.D.Disk.state c.args.disk.now) c.args.self.now s c.args.table.now t
    stands at in
    c.in-Ok-copy_of.ensures ∙ c.requires.old s t c.in-Ok.place stands at
    (c.in-Ok.ensures.place t.description described)

pub returns-clause-writes : goal.returns-clause-writes
returns-clause-writes g c s t place stands at here =
    let described = known (g.D.Disk.state c.args.disk.now) c.args.self.now s c.args.table.now t
    stands at in
    let same = one_place (place_of t.description c.args.key.now) c.in-Ok.place place
    (c.in-Ok.ensures.place t.description described) here in
    subst (λ (ts : List State). Writes (bounds_of c.args.self.now).file
    (Stands (g.D.Disk.state c.write.new.disk) c.write.new.self) a_number s ts c.write.result)
    (λ i. item_writes s c.args.moment c.args.table.now t (same i) (c.in-Ok-copy_of-2.ensures i))
    (c.write.ensures.writes s t stands at)

pub returns-clause-disk : goal.returns-clause-disk
returns-clause-disk g c s t place stands at here =
    let described = known (g.D.Disk.state c.args.disk.now) c.args.self.now s c.args.table.now t
    stands at in
    let same = one_place (place_of t.description c.args.key.now) c.in-Ok.place place
    (c.in-Ok.ensures.place t.description described) here in
    subst (λ (ts : List State). Leaves (g.D.Disk.state c.args.disk.now)
    (g.D.Disk.state c.write.new.disk) s ts)
    (λ i. item_writes s c.args.moment c.args.table.now t (same i) (c.in-Ok-copy_of-2.ensures i))
    (c.write.ensures.disk s t stands at)

pub returns-clause-number : goal.returns-clause-number
returns-clause-number g c s t place stands at here =
    let described = known (g.D.Disk.state c.args.disk.now) c.args.self.now s c.args.table.now t
    stands at in
    let same = one_place (place_of t.description c.args.key.now) c.in-Ok.place place
    (c.in-Ok.ensures.place t.description described) here in
    subst (λ (ts : List State). IfOk c.write.result (λ n. n
    ≡ number_taken (next_write_of_tables c.args.self.now) ts))
    (λ i. item_writes s c.args.moment c.args.table.now t (same i) (c.in-Ok-copy_of-2.ensures i))
    (c.write.ensures.number s t stands at)

pub returns-in-Err-clause-disk : goal.returns-in-Err-clause-disk
returns-in-Err-clause-disk g c s t place stands at here =
    leaves_quiet (g.D.Disk.state c.args.disk.now) (g.D.Disk.state c.args.disk.now)
    c.args.self.now.engine s _ stands.rows stands.valid
    (quiet_start (g.D.Disk.state c.args.disk.now))

pub returns-in_default-clause-disk : goal.returns-in_default-clause-disk
returns-in_default-clause-disk g c s t place stands at here =
    leaves_quiet (g.D.Disk.state c.args.disk.now) (g.D.Disk.state c.args.disk.now)
    c.args.self.now.engine s _ stands.rows stands.valid
    (quiet_start (g.D.Disk.state c.args.disk.now))

pub returns-in_default-copy_of-clause-disk : goal.returns-in_default-copy_of-clause-disk
returns-in_default-copy_of-clause-disk g c s t place stands at here =
    leaves_quiet (g.D.Disk.state c.args.disk.now) (g.D.Disk.state c.args.disk.now)
    c.args.self.now.engine s _ stands.rows stands.valid
    (quiet_start (g.D.Disk.state c.args.disk.now))

pub returns-in_default-row_of-clause-disk : goal.returns-in_default-row_of-clause-disk
returns-in_default-row_of-clause-disk g c s t place stands at here =
    leaves_quiet (g.D.Disk.state c.args.disk.now) (g.D.Disk.state c.args.disk.now)
    c.args.self.now.engine s _ stands.rows stands.valid
    (quiet_start (g.D.Disk.state c.args.disk.now))

-- what holds at Ok may be weakened
at_ok : {A E : Type 0} (P Q : A → Type 0) → ((x : A) → P x → Q x) → (r : Result A E) → IfOk r P
    → IfOk r Q
at_ok P Q leads (Ok x) h = leads x h
at_ok P Q leads (Err e) h = tt

pub returns-clause-rows : goal.returns-clause-rows
returns-clause-rows g c =
    let a : DiskState = g.D.Disk.state c.args.disk.now in
    let b : DiskState = g.D.Disk.state c.write.new.disk in
    let old : Tables = c.args.self.now in
    let new : Tables = c.write.new.self in
    let name : List ℕ = c.args.table.now in
    let changes : TableSchema → List ℕ → Option (List Pair) → Option (List Pair) → Layout
    → List RowChange = λ d place was to l. write_changes d (next_write_of_tables old) c.args.moment User place
    was to
    (number_at name (trimmed_of old)) (number_at name (trimmed_of new))
    (lowest_left l d (number_at name (trimmed_of new))) in
    at_ok (λ n. IsSome n → IsTrusted a → (d : TableSchema) (l : Layout)
    → map.get (catalog_of old) name ≡ Some d → HasRows a old l
    → HasRows b new (changed_rows l (changes d c.in-Ok.place c.in-Ok-copy_of.item
    c.in-Ok-copy_of-2.new l)))
    (λ n. IsSome n → IsTrusted a → (d : TableSchema) (place : List ℕ) (l : Layout)
    → map.get (catalog_of old) name ≡ Some d
    → place_of d c.args.key.now ≡ Some place → HasRows a old l
    → HasRows b new (changed_rows l (changes d place (option_map (λ i. i.now) c.args.old)
    (option_map (λ i. i.now) c.args.new) l)))
    (λ n h some trusted d place l there here rows.
    let same = one_place (place_of d c.args.key.now) c.in-Ok.place place
    (c.in-Ok.ensures.place d there) here in
    subst (λ cs. HasRows b new (changed_rows l cs))
    (λ i. changes d (same i) (c.in-Ok-copy_of.ensures i) (c.in-Ok-copy_of-2.ensures i) l)
    (h some trusted d l there rows))
    c.write.result c.write.ensures.rows
