-- What the write takes from the front of the stream is read, and then one write is made where what is there differs.
use Rattle.std.proofs.Common.{◌≡◌, ◌<◌, ◌^◌, refl, sym, ap, ◌∙◌, ℕ, List, [], ◌∷◌, Option, Some, subst, arith, IfOk, IfSome}
use Rattle.std.specs.FinMap as map
use Rattle.std.specs.Prelude.{IsSome, drop}
use Rattle.alt_cells.specs.declared.batch.RowChange.{RowChange}
use Rattle.alt_codec.specs.declared.writer.Writer.TheVariants.{User}
use Rattle.alt_disk.specs.Disk.{DiskState, IsTrusted}
use Rattle.alt_disk.proofs.Runs.{quiet_start, trusted_on}
use Rattle.alt_rowchanges.specs.OpeningEngineInHand.{Bounds}
use Rattle.alt_layout.specs.Layout.{Layout}
use Rattle.alt_machine.specs.Outcomes.{a_number}
use Rattle.alt_machine.specs.State.{State}
use Rattle.alt_machine.specs.Wanted.{number_lack}
use Rattle.alt_machine.specs.Writes.{after_item, item_writes}
use Rattle.alt_machine.proofs.Lacks.{has_number, lacks_number}
use Rattle.alt_rowchanges.specs.OpeningTrimmed.{number_at}
use Rattle.alt_schema.specs.declared.schema.TableSchema.{TableSchema}
use Rattle.alt_tables.specs.Faults.{BreakOff, Writes}
use Rattle.alt_tables.specs.Foreseen.{ForeseesItem}
use Rattle.alt_tables.specs.Found.{number_taken}
use Rattle.alt_tables.specs.Images.{Leaves}
use Rattle.alt_rowchanges.specs.Leftovers.{leftovers, lowest_left}
use Rattle.alt_rowchanges.specs.RowChanges.{changed_rows, write_changes}
use Rattle.alt_tables.specs.Stands.{HasRows, Reads, Stands, bounds_of, catalog_of, due_of, next_write_of_tables, trimmed_of}
use Rattle.alt_rowchanges.specs.declared.faults.TableFault.TheVariants.{Spent}
use Rattle.alt_tables.specs.declared.tables.Tables.{Tables}
use Rattle.alt_rowchanges.specs.declared.trimming.Trim.{Trim}
use Rattle.alt_rowchanges.specs.Trims.{TrimIsWithin}
use Rattle.alt_tables.specs.private.Written.{IsWrittenAs}
use Rattle.alt_tables.proofs.Holding.{leaves_quiet}
use Rattle.alt_tables.proofs.Left.{leaves_after, leaves_reads}
use Rattle.alt_tables.proofs.Making.{broke, item_differs, spent, spent_file}
use Rattle.alt_tables.proofs.Standing.{keeps_on, ready_kept, rows_kept, stands_kept, stays_kept, there}
use Rattle.alt_tables.proofs.Trimmed.{made_is, made_leftovers, ok_both, rows_back}
use Rattle.alt_tables.proofs.tables.Tables.write.Goals as goal

pub returns-then-number-ge-NUMBERS_END-clause-disk :
    goal.returns-then-number-ge-NUMBERS_END-clause-disk
returns-then-number-ge-NUMBERS_END-clause-disk g c s t stands at =
    leaves_quiet (g.D.Disk.state c.args.disk.now)
    (g.D.Disk.state c.args.disk.now) c.args.self.now.engine s
    (item_writes s c.args.moment c.args.table.now t c.args.found.place c.args.new)
    stands.rows stands.valid (quiet_start (g.D.Disk.state c.args.disk.now))

pub returns-then-number-ge-NUMBERS_END-clause-writes :
    goal.returns-then-number-ge-NUMBERS_END-clause-writes
returns-then-number-ge-NUMBERS_END-clause-writes g c s t stands at =
    subst (λ (ts : List State). BreakOff (bounds_of c.args.self.now).file
    (Stands (g.D.Disk.state c.args.disk.now) c.args.self.now)
    a_number s ts (Spent c.next_number-number.result))
    (sym (item_differs (g.D.Disk.state c.args.disk.now) c.args.self.now s t stands
    c.args.moment User c.args.table.now c.args.found.place c.args.found.item c.args.new at
    (c.requires.found s stands t at) (sym c.if-same.ensures)))
    (spent (Stands (g.D.Disk.state c.args.disk.now) c.args.self.now) a_number s
    (after_item s c.args.moment c.args.table.now t c.args.found.place c.args.new)
    c.next_number-number.result
    (ap number_lack (sym (c.next_number-number.ensures.next ∙ stands.number))
    ∙ lacks_number c.next_number-number.result
    (omega (arith, c.if-number-ge-NUMBERS_END.true))) stands)

-- ---- there is no file for its segment

pub returns-in-Some-clause-writes : goal.returns-in-Some-clause-writes
returns-in-Some-clause-writes g c s t stands at =
    subst (λ (ts : List State). BreakOff (bounds_of c.args.self.now).file
    (Stands (g.D.Disk.state c.args.disk.now) c.args.self.now) a_number s ts
    (Spent c.in-Some.number))
    (sym (item_differs (g.D.Disk.state c.args.disk.now) c.args.self.now s t stands
    c.args.moment User c.args.table.now c.args.found.place c.args.found.item c.args.new at
    (c.requires.found s stands t at) (sym c.if-same.ensures)))
    (spent_file (Stands (g.D.Disk.state c.args.disk.now) c.args.self.now) a_number s
    (after_item s c.args.moment c.args.table.now t c.args.found.place c.args.new)
    c.in-Some.number (has_number s.next_number (omega (
      arith,
      stands.number,
      c.next_number-number.ensures.next,
      c.if-number-ge-NUMBERS_END.false,
    )))
    c.in-Some.ensures.last stands)

pub returns-in-Some-clause-disk : goal.returns-in-Some-clause-disk
returns-in-Some-clause-disk g c s t stands at =
    leaves_quiet (g.D.Disk.state c.args.disk.now)
    (g.D.Disk.state c.args.disk.now) c.args.self.now.engine s
    (item_writes s c.args.moment c.args.table.now t c.args.found.place c.args.new)
    stands.rows stands.valid (quiet_start (g.D.Disk.state c.args.disk.now))

-- ---- the front couldn't be read

pub returns-in-Err-clause-writes : goal.returns-in-Err-clause-writes
returns-in-Err-clause-writes g c s t stands at =
    subst (λ (ts : List State). BreakOff (bounds_of c.args.self.now).file
    (Stands (g.D.Disk.state c.trim.new.disk) c.trim.new.self)
    a_number s ts c.in-Err.fault)
    (sym (item_differs (g.D.Disk.state c.args.disk.now) c.args.self.now s t stands
    c.args.moment User c.args.table.now c.args.found.place c.args.found.item c.args.new at
    (c.requires.found s stands t at) (sym c.if-same.ensures)))
    (broke (bounds_of c.args.self.now).file
    (Stands (g.D.Disk.state c.trim.new.disk) c.trim.new.self) a_number s
    (after_item s c.args.moment c.args.table.now t c.args.found.place c.args.new) c.in-Err.fault
    (c.in-Err.ensures.fails.fault s stands))

pub returns-in-Err-clause-disk : goal.returns-in-Err-clause-disk
returns-in-Err-clause-disk g c s t stands at =
    leaves_reads (g.D.Disk.state c.args.disk.now) (g.D.Disk.state c.trim.new.disk)
    c.args.self.now s
    (item_writes s c.args.moment c.args.table.now t c.args.found.place c.args.new)
    c.in-Err.ensures.keeps.reads stands

-- ---- what is asked of the write

pub write_trimmed-requires-clause-ready : goal.write_trimmed-requires-clause-ready
write_trimmed-requires-clause-ready g c = ready_kept (g.D.Disk.state c.args.disk.now)
    (g.D.Disk.state c.trim.new.disk) c.args.self.now c.foretell.new.self (keeps_on (g.D.Disk.state c.args.disk.now) (g.D.Disk.state c.trim.new.disk)
    c.args.self.now c.trim.new.self c.foretell.new.self c.trim.ensures.keeps
    c.foretell.ensures.keeps)
    c.requires.ready

pub write_trimmed-requires-clause-there : goal.write_trimmed-requires-clause-there
write_trimmed-requires-clause-there g c =
    ap (λ m. map.contains_key m c.args.table.now) (keeps_on (g.D.Disk.state c.args.disk.now) (g.D.Disk.state c.trim.new.disk)
    c.args.self.now c.trim.new.self c.foretell.new.self c.trim.ensures.keeps
    c.foretell.ensures.keeps).catalog ∙ c.requires.there

pub write_trimmed-requires-clause-found : goal.write_trimmed-requires-clause-found
write_trimmed-requires-clause-found g c s stands = c.requires.found s
    ((stays_kept (g.D.Disk.state c.args.disk.now) (g.D.Disk.state c.trim.new.disk)
    c.args.self.now c.foretell.new.self (keeps_on (g.D.Disk.state c.args.disk.now) (g.D.Disk.state c.trim.new.disk)
    c.args.self.now c.trim.new.self c.foretell.new.self c.trim.ensures.keeps
    c.foretell.ensures.keeps) c.requires.ready s).1 stands)

pub write_trimmed-requires-clause-new : goal.write_trimmed-requires-clause-new
write_trimmed-requires-clause-new g c s stands d there = c.requires.new s
    ((stays_kept (g.D.Disk.state c.args.disk.now) (g.D.Disk.state c.trim.new.disk)
    c.args.self.now c.foretell.new.self (keeps_on (g.D.Disk.state c.args.disk.now) (g.D.Disk.state c.trim.new.disk)
    c.args.self.now c.trim.new.self c.foretell.new.self c.trim.ensures.keeps
    c.foretell.ensures.keeps) c.requires.ready s).1 stands) d
    (ap (λ m. map.get m c.args.table.now) (sym (keeps_on (g.D.Disk.state c.args.disk.now) (g.D.Disk.state c.trim.new.disk)
    c.args.self.now c.trim.new.self c.foretell.new.self c.trim.ensures.keeps
    c.foretell.ensures.keeps).catalog) ∙ there)

pub write_trimmed-requires-clause-room : goal.write_trimmed-requires-clause-room
write_trimmed-requires-clause-room g c = omega (
  arith,
  (keeps_on (g.D.Disk.state c.args.disk.now) (g.D.Disk.state c.trim.new.disk)
      c.args.self.now c.trim.new.self c.foretell.new.self c.trim.ensures.keeps
      c.foretell.ensures.keeps).number,
  c.next_number-number.ensures.next,
  c.if-number-ge-NUMBERS_END.false,
)

pub write_trimmed-requires-clause-file : goal.write_trimmed-requires-clause-file
write_trimmed-requires-clause-file g c = subst (λ (b : Bounds). b.file < 2 ^ 32)
    (sym (keeps_on (g.D.Disk.state c.args.disk.now) (g.D.Disk.state c.trim.new.disk)
    c.args.self.now c.trim.new.self c.foretell.new.self c.trim.ensures.keeps
    c.foretell.ensures.keeps).limits) (c.in_default.ensures.none refl)

pub write_trimmed-requires-clause-trim : goal.write_trimmed-requires-clause-trim
write_trimmed-requires-clause-trim g c s t l stands at rows =
    let before = (stays_kept (g.D.Disk.state c.args.disk.now) (g.D.Disk.state c.trim.new.disk)
    c.args.self.now c.foretell.new.self (keeps_on (g.D.Disk.state c.args.disk.now) (g.D.Disk.state c.trim.new.disk)
    c.args.self.now c.trim.new.self c.foretell.new.self c.trim.ensures.keeps
    c.foretell.ensures.keeps) c.requires.ready s).1 stands in
    c.in-Ok.ensures.trim s t l before at
    (rows_back (g.D.Disk.state c.args.disk.now) (g.D.Disk.state c.trim.new.disk)
    c.args.self.now c.foretell.new.self (keeps_on (g.D.Disk.state c.args.disk.now) (g.D.Disk.state c.trim.new.disk)
    c.args.self.now c.trim.new.self c.foretell.new.self c.trim.ensures.keeps
    c.foretell.ensures.keeps) s before l rows)

pub write_trimmed-requires-clause-within : goal.write_trimmed-requires-clause-within
write_trimmed-requires-clause-within g c d there has =
    subst (λ (known : _). TrimIsWithin (number_at c.args.table.now known) (next_write_of_tables c.foretell.new.self)
    c.in-Ok.trim) (ap (λ v. v.items) (sym (keeps_on (g.D.Disk.state c.args.disk.now) (g.D.Disk.state c.trim.new.disk)
    c.args.self.now c.trim.new.self c.foretell.new.self c.trim.ensures.keeps
    c.foretell.ensures.keeps).trimmed))
    (subst (λ n. TrimIsWithin (number_at c.args.table.now (trimmed_of c.args.self.now)) n c.in-Ok.trim)
    (sym (keeps_on (g.D.Disk.state c.args.disk.now) (g.D.Disk.state c.trim.new.disk)
    c.args.self.now c.trim.new.self c.foretell.new.self c.trim.ensures.keeps
    c.foretell.ensures.keeps).number)
    (c.in-Ok.ensures.within d
    (ap (λ m. map.get m c.args.table.now) (sym (keeps_on (g.D.Disk.state c.args.disk.now) (g.D.Disk.state c.trim.new.disk)
    c.args.self.now c.trim.new.self c.foretell.new.self c.trim.ensures.keeps
    c.foretell.ensures.keeps).catalog) ∙ there) has))

pub write_trimmed-requires-clause-foretold : goal.write_trimmed-requires-clause-foretold
write_trimmed-requires-clause-foretold g c d at =
    subst (λ p. IfSome c.args.new (ForeseesItem d c.args.table.now p (due_of c.foretell.new.self)))
    c.as_slice.ensures.same (c.foretell.ensures.known d (ap (λ m. map.get m c.args.table.now)
    (sym (c.foretell.ensures.keeps (g.D.Disk.state c.trim.new.disk)).catalog) ∙ at))

-- ---- what it leaves

pub returns-clause-writes : goal.returns-clause-writes
returns-clause-writes g c s t stands at =
    subst (λ (ts : List State). Writes (bounds_of c.args.self.now).file
    (Stands (g.D.Disk.state c.write_trimmed.new.disk) c.write_trimmed.new.self) a_number s ts
    c.write_trimmed.result)
    (sym (item_differs (g.D.Disk.state c.args.disk.now) c.args.self.now s t stands
    c.args.moment User c.args.table.now c.args.found.place c.args.found.item c.args.new at
    (c.requires.found s stands t at) (sym c.if-same.ensures)))
    (subst (λ (b : Bounds). Writes b.file
    (Stands (g.D.Disk.state c.write_trimmed.new.disk) c.write_trimmed.new.self) a_number s
    (after_item s c.args.moment c.args.table.now t c.args.found.place c.args.new ∷ [])
    c.write_trimmed.result) (keeps_on (g.D.Disk.state c.args.disk.now) (g.D.Disk.state c.trim.new.disk)
    c.args.self.now c.trim.new.self c.foretell.new.self c.trim.ensures.keeps
    c.foretell.ensures.keeps).limits
    (c.write_trimmed.ensures.writes s t
    (stands_kept (g.D.Disk.state c.args.disk.now) (g.D.Disk.state c.trim.new.disk)
    c.args.self.now c.foretell.new.self (keeps_on (g.D.Disk.state c.args.disk.now) (g.D.Disk.state c.trim.new.disk)
    c.args.self.now c.trim.new.self c.foretell.new.self c.trim.ensures.keeps
    c.foretell.ensures.keeps) s stands) at))

pub returns-clause-number : goal.returns-clause-number
returns-clause-number g c s t stands at =
    subst (λ (ts : List State). IfOk c.write_trimmed.result
    (λ n. n ≡ number_taken (next_write_of_tables c.args.self.now) ts))
    (sym (item_differs (g.D.Disk.state c.args.disk.now) c.args.self.now s t stands
    c.args.moment User c.args.table.now c.args.found.place c.args.found.item c.args.new at
    (c.requires.found s stands t at) (sym c.if-same.ensures)))
    (subst (λ k. IfOk c.write_trimmed.result (λ n. n ≡ Some k)) (keeps_on (g.D.Disk.state c.args.disk.now) (g.D.Disk.state c.trim.new.disk)
    c.args.self.now c.trim.new.self c.foretell.new.self c.trim.ensures.keeps
    c.foretell.ensures.keeps).number
    c.write_trimmed.ensures.number)

pub returns-clause-disk : goal.returns-clause-disk
returns-clause-disk g c s t stands at =
    subst (λ (ts : List State). Leaves (g.D.Disk.state c.args.disk.now)
    (g.D.Disk.state c.write_trimmed.new.disk) s ts)
    (sym (item_differs (g.D.Disk.state c.args.disk.now) c.args.self.now s t stands
    c.args.moment User c.args.table.now c.args.found.place c.args.found.item c.args.new at
    (c.requires.found s stands t at) (sym c.if-same.ensures)))
    (leaves_after (g.D.Disk.state c.args.disk.now) (g.D.Disk.state c.trim.new.disk)
    (g.D.Disk.state c.write_trimmed.new.disk) c.args.self.now s
    (after_item s c.args.moment c.args.table.now t c.args.found.place c.args.new ∷ [])
    (keeps_on (g.D.Disk.state c.args.disk.now) (g.D.Disk.state c.trim.new.disk)
    c.args.self.now c.trim.new.self c.foretell.new.self c.trim.ensures.keeps
    c.foretell.ensures.keeps).reads stands
    (c.write_trimmed.ensures.disk s t
    (stands_kept (g.D.Disk.state c.args.disk.now) (g.D.Disk.state c.trim.new.disk)
    c.args.self.now c.foretell.new.self (keeps_on (g.D.Disk.state c.args.disk.now) (g.D.Disk.state c.trim.new.disk)
    c.args.self.now c.trim.new.self c.foretell.new.self c.trim.ensures.keeps
    c.foretell.ensures.keeps) s stands) at))

pub returns-clause-rows : goal.returns-clause-rows
returns-clause-rows g c =
    let a : DiskState = g.D.Disk.state c.args.disk.now in
    let m : DiskState = g.D.Disk.state c.trim.new.disk in
    let b : DiskState = g.D.Disk.state c.write_trimmed.new.disk in
    let old : Tables = c.args.self.now in
    let mid : Tables = c.foretell.new.self in
    let new : Tables = c.write_trimmed.new.self in
    let name : List ℕ = c.args.table.now in
    let r : Trim = c.in-Ok.trim in
    let changes : TableSchema → ℕ → ℕ → List RowChange = λ d number before. write_changes d number
    c.args.moment User c.args.found.place c.args.found.item c.args.new before r.number
    r.leftovers.items in
    let in_old : (d : TableSchema) → changes d (next_write_of_tables mid) (number_at name (trimmed_of mid))
    ≡ changes d (next_write_of_tables old) (number_at name (trimmed_of old)) =
    λ d i. changes d ((keeps_on (g.D.Disk.state c.args.disk.now) (g.D.Disk.state c.trim.new.disk)
    c.args.self.now c.trim.new.self c.foretell.new.self c.trim.ensures.keeps
    c.foretell.ensures.keeps).number i)
    (number_at name ((keeps_on (g.D.Disk.state c.args.disk.now) (g.D.Disk.state c.trim.new.disk)
    c.args.self.now c.trim.new.self c.foretell.new.self c.trim.ensures.keeps
    c.foretell.ensures.keeps).trimmed i).items) in
    ok_both (λ (n : Option ℕ). IsTrusted m → (d : TableSchema) (l : Layout)
    → map.get (catalog_of mid) name ≡ Some d → HasRows m mid l
    → IsWrittenAs b new l (changes d (next_write_of_tables mid) (number_at name (trimmed_of mid))))
    (λ (n : Option ℕ). IsSome n → IsTrusted a → (d : TableSchema) (l : Layout)
    → map.get (catalog_of old) name ≡ Some d → HasRows a old l
    → HasRows b new (changed_rows l (write_changes d (next_write_of_tables old) c.args.moment
    User c.args.found.place c.args.found.item c.args.new (number_at name (trimmed_of old))
    (number_at name (trimmed_of new)) (lowest_left l d (number_at name (trimmed_of new))))))
    (number_at name (trimmed_of new) ≡ r.number)
    c.write_trimmed.result c.write_trimmed.ensures.rows c.write_trimmed.ensures.trimmed
    (λ n rows after some trusted d l there_d rows_l.
    let (s, stands) = c.requires.ready trusted in
    let (t, at, same) = there a old s name d stands there_d in
    subst (λ (cs : List RowChange). HasRows b new (changed_rows l cs))
    (in_old d
    ∙ made_is a b old new s t stands c.args.moment User name c.args.found.place c.args.found.item
    c.args.new at (c.requires.found s stands t at) r
    (λ x has. c.in-Ok.ensures.trim s t x stands at has) d there_d (sym c.if-same.ensures)
    (number_at name (trimmed_of new)) after l rows_l)
    (rows (trusted_on a m (keeps_on (g.D.Disk.state c.args.disk.now) (g.D.Disk.state c.trim.new.disk)
    c.args.self.now c.trim.new.self c.foretell.new.self c.trim.ensures.keeps
    c.foretell.ensures.keeps).reads.goes trusted) d l
    (ap (λ x. map.get x name) (keeps_on (g.D.Disk.state c.args.disk.now) (g.D.Disk.state c.trim.new.disk)
    c.args.self.now c.trim.new.self c.foretell.new.self c.trim.ensures.keeps
    c.foretell.ensures.keeps).catalog ∙ there_d)
    (rows_kept a m old mid (keeps_on (g.D.Disk.state c.args.disk.now) (g.D.Disk.state c.trim.new.disk)
    c.args.self.now c.trim.new.self c.foretell.new.self c.trim.ensures.keeps
    c.foretell.ensures.keeps) trusted l rows_l)).rows)

pub returns-clause-leftovers : goal.returns-clause-leftovers
returns-clause-leftovers g c =
    let a : DiskState = g.D.Disk.state c.args.disk.now in
    let m : DiskState = g.D.Disk.state c.trim.new.disk in
    let b : DiskState = g.D.Disk.state c.write_trimmed.new.disk in
    let old : Tables = c.args.self.now in
    let mid : Tables = c.foretell.new.self in
    let new : Tables = c.write_trimmed.new.self in
    let name : List ℕ = c.args.table.now in
    let r : Trim = c.in-Ok.trim in
    let changes : TableSchema → ℕ → ℕ → List RowChange = λ d number before. write_changes d number
    c.args.moment User c.args.found.place c.args.found.item c.args.new before r.number
    r.leftovers.items in
    let in_old : (d : TableSchema) → changes d (next_write_of_tables mid) (number_at name (trimmed_of mid))
    ≡ changes d (next_write_of_tables old) (number_at name (trimmed_of old)) =
    λ d i. changes d ((keeps_on (g.D.Disk.state c.args.disk.now) (g.D.Disk.state c.trim.new.disk)
    c.args.self.now c.trim.new.self c.foretell.new.self c.trim.ensures.keeps
    c.foretell.ensures.keeps).number i)
    (number_at name ((keeps_on (g.D.Disk.state c.args.disk.now) (g.D.Disk.state c.trim.new.disk)
    c.args.self.now c.trim.new.self c.foretell.new.self c.trim.ensures.keeps
    c.foretell.ensures.keeps).trimmed i).items) in
    ok_both (λ (n : Option ℕ). IsTrusted m → (d : TableSchema) (l : Layout)
    → map.get (catalog_of mid) name ≡ Some d → HasRows m mid l
    → IsWrittenAs b new l (changes d (next_write_of_tables mid) (number_at name (trimmed_of mid))))
    (λ (n : Option ℕ). IsSome n → IsTrusted a → (d : TableSchema) (family : ℕ) (l x : Layout)
    → map.get (catalog_of old) name ≡ Some d → d.stream_family ≡ Some family → HasRows a old l
    → HasRows b new x → leftovers x family (number_at name (trimmed_of new))
    ≡ drop 2 (leftovers l family (number_at name (trimmed_of new))))
    (number_at name (trimmed_of new) ≡ r.number)
    c.write_trimmed.result c.write_trimmed.ensures.rows c.write_trimmed.ensures.trimmed
    (λ n rows after some trusted d family l x there_d stream rows_l rows_x.
    let (s, stands) = c.requires.ready trusted in
    let (t, at, same) = there a old s name d stands there_d in
    let written : IsWrittenAs b new l (changes d (next_write_of_tables old) (number_at name (trimmed_of old))) =
    subst (IsWrittenAs b new l) (in_old d)
    (rows (trusted_on a m (keeps_on (g.D.Disk.state c.args.disk.now) (g.D.Disk.state c.trim.new.disk)
    c.args.self.now c.trim.new.self c.foretell.new.self c.trim.ensures.keeps
    c.foretell.ensures.keeps).reads.goes trusted) d l
    (ap (λ x. map.get x name) (keeps_on (g.D.Disk.state c.args.disk.now) (g.D.Disk.state c.trim.new.disk)
    c.args.self.now c.trim.new.self c.foretell.new.self c.trim.ensures.keeps
    c.foretell.ensures.keeps).catalog ∙ there_d)
    (rows_kept a m old mid (keeps_on (g.D.Disk.state c.args.disk.now) (g.D.Disk.state c.trim.new.disk)
    c.args.self.now c.trim.new.self c.foretell.new.self c.trim.ensures.keeps
    c.foretell.ensures.keeps) trusted l rows_l)) in
    made_leftovers a b old new s t stands c.args.moment User name c.args.found.place
    c.args.found.item
    c.args.new at (c.requires.found s stands t at) r
    (λ x has. c.in-Ok.ensures.trim s t x stands at has) d there_d (sym c.if-same.ensures)
    (number_at name (trimmed_of new)) after written.distinct family stream l x rows_l written.rows
    rows_x)

-- where memory was wanting for the write, the reading is all there was
pub returns-clause-no_memory : goal.returns-clause-no_memory
returns-clause-no_memory g c none =
    subst (λ (d : DiskState). Reads (g.D.Disk.state c.args.disk.now) d)
    (sym (c.write_trimmed.ensures.no_memory none)) (keeps_on (g.D.Disk.state c.args.disk.now) (g.D.Disk.state c.trim.new.disk)
    c.args.self.now c.trim.new.self c.foretell.new.self c.trim.ensures.keeps
    c.foretell.ensures.keeps).reads

pub returns-clause-catalog : goal.returns-clause-catalog
returns-clause-catalog g c = c.write_trimmed.ensures.catalog ∙ (keeps_on (g.D.Disk.state c.args.disk.now) (g.D.Disk.state c.trim.new.disk)
    c.args.self.now c.trim.new.self c.foretell.new.self c.trim.ensures.keeps
    c.foretell.ensures.keeps).catalog

pub returns-clause-limits : goal.returns-clause-limits
returns-clause-limits g c = c.write_trimmed.ensures.limits ∙ (keeps_on (g.D.Disk.state c.args.disk.now) (g.D.Disk.state c.trim.new.disk)
    c.args.self.now c.trim.new.self c.foretell.new.self c.trim.ensures.keeps
    c.foretell.ensures.keeps).limits
