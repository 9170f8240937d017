-- What is trimmed and what is left over are read one after the other.
use Rattle.std.proofs.Common.{◌≡◌, ◌≤◌, ◌<◌, sym, ap, subst, ◌∙◌, ℕ, List, true, Some, None, Err, All, arith}
use Rattle.std.proofs.lemmas.Bool.{false≢true}
use Rattle.std.proofs.lemmas.Bool.Decides.{nat_tests}
use Rattle.std.specs.FinMap as map
use Rattle.std.specs.Prelude.{◌&&◌, nat_le, nat_lt}
use Rattle.alt_disk.specs.Disk.{DiskState}
use Rattle.alt_machine.specs.State.{State, Table}
use Rattle.alt_schema.specs.declared.schema.TableSchema.{TableSchema}
use Rattle.alt_rowchanges.specs.Leftovers.{leftovers}
use Rattle.alt_rowchanges.specs.declared.faults.TableFault.TheVariants.{Failed}
use Rattle.alt_tables.specs.Stands.{Stands, catalog_of}
use Rattle.alt_tables.specs.declared.tables.Tables.{Tables}
use Rattle.alt_tables.proofs.Looking.{rose_on}
use Rattle.alt_tables.proofs.Pages.{same_table}
use Rattle.alt_tables.proofs.Standing.{keeps_then, ready_kept, rows_kept, stands_kept, there}
use Rattle.alt_tables.proofs.TrimSteps.{is_rest, is_trim, left_above, no_trim, trimmed_known, trimmed_rises, trimmed_stays_below}
use Rattle.alt_tables.proofs.tables.Tables.trim.Goals as goal

-- a number between two passes the test
passes : (before number next : ℕ) → before ≤ number → number < next
    → (nat_le before number && nat_lt number next) ≡ true
passes before number next low high = grind (arith, nat_tests)

pub returns-in_default-stream_family-clause-trim :
    goal.returns-in_default-stream_family-clause-trim
returns-in_default-stream_family-clause-trim g c s t l stands at rows =
    no_trim (g.D.Disk.state c.args.disk.now) c.args.self.now s c.args.table.now t stands at
    (ap (λ (x : TableSchema). x.stream_family)
    (sym (same_table (g.D.Disk.state c.args.disk.now) c.args.self.now s c.args.table.now t
    c.in-Some.schema.now stands at (sym c.in-Some.ensures.table)))
    ∙ c.in_default-stream_family.is) l c.args.moment c.trimmed-before.result
    c.trimmed-before.ensures.trimmed c.new.result c.new.ensures.items

pub lowest-requires-clause-ready : goal.lowest-requires-clause-ready
lowest-requires-clause-ready g c = ready_kept (g.D.Disk.state c.args.disk.now)
    (g.D.Disk.state c.kept_from.new.disk) c.args.self.now c.kept_from.new.self
    c.kept_from.ensures.keeps c.requires.ready

pub returns-in-Ok-lowest-clause-keeps : goal.returns-in-Ok-lowest-clause-keeps
returns-in-Ok-lowest-clause-keeps g c = keeps_then (g.D.Disk.state c.args.disk.now)
    (g.D.Disk.state c.kept_from.new.disk) (g.D.Disk.state c.lowest.new.disk) c.args.self.now
    c.kept_from.new.self c.lowest.new.self c.kept_from.ensures.keeps c.lowest.ensures.keeps

pub returns-in-Err-lowest-clause-keeps : goal.returns-in-Err-lowest-clause-keeps
returns-in-Err-lowest-clause-keeps g c = keeps_then (g.D.Disk.state c.args.disk.now)
    (g.D.Disk.state c.kept_from.new.disk) (g.D.Disk.state c.lowest.new.disk) c.args.self.now
    c.kept_from.new.self c.lowest.new.self c.kept_from.ensures.keeps c.lowest.ensures.keeps

-- the stream of the table of the state
stream_of : (a : DiskState) (old : Tables) (s : State) (name : List ℕ) (t : Table)
    (d : TableSchema) → Stands a old s → map.get s.tables name ≡ Some t
    → map.get (catalog_of old) name ≡ Some d → (family : ℕ) → d.stream_family ≡ Some family
    → t.description.stream_family ≡ Some family
stream_of a old s name t d stands at known family stream =
    ap (λ (x : TableSchema). x.stream_family) (sym (same_table a old s name t d stands at known))
    ∙ stream

pub returns-in-Ok-lowest-clause-trim : goal.returns-in-Ok-lowest-clause-trim
returns-in-Ok-lowest-clause-trim g c s t l stands at rows =
    let a : DiskState = g.D.Disk.state c.args.disk.now in
    let m : DiskState = g.D.Disk.state c.kept_from.new.disk in
    let old : Tables = c.args.self.now in
    let mid : Tables = c.kept_from.new.self in
    let name : List ℕ = c.args.table.now in
    let stream = stream_of a old s name t c.in-Some.schema.now stands at
    (sym c.in-Some.ensures.table) c.in-Some-stream_family.family c.in-Some-stream_family.is in
    let there = stands_kept a m old mid c.kept_from.ensures.keeps s stands in
    let rows_there = rows_kept a m old mid c.kept_from.ensures.keeps stands.rows.trusted l rows in
    let told = c.in-Ok.ensures.kept s t stands at in
    let number : ℕ = c.in-Ok.kept.0 in
    let above = left_above m mid s name t there at c.in-Some-stream_family.family stream l
    rows_there number (subst (λ n. t.trimmed ≤ n) (sym told.number)
    (trimmed_rises a old s name t stands at c.args.moment)) in
    is_trim a old s name t stands at c.in-Some-stream_family.family stream l c.args.moment number
    c.in-Ok.kept.1 c.in-Ok-lowest.leftovers c.in-Ok-lowest.from told
    (c.in-Ok-lowest.ensures.lowest s name t l there at stream rows_there
    (subst (λ n. 1 ≤ n) (sym c.left_from-from.ensures.known) above.0)
    (subst (λ n. All (λ k. n ≤ k) (leftovers l c.in-Some-stream_family.family number))
    (sym c.left_from-from.ensures.known) above.1))

-- the rows that are left over behind those that are read
pub returns-in_default-stream_family-clause-rest :
    goal.returns-in_default-stream_family-clause-rest
returns-in_default-stream_family-clause-rest g c s t l stands at rows family stream =
    absurd (let none : None ≡ Some family = sym (ap (λ (x : TableSchema). x.stream_family)
    (sym (same_table (g.D.Disk.state c.args.disk.now) c.args.self.now s c.args.table.now t
    c.in-Some.schema.now stands at (sym c.in-Some.ensures.table)))
    ∙ c.in_default-stream_family.is) ∙ stream in let e : ⊥ = cc none in e)

pub returns-in-Ok-lowest-clause-rest : goal.returns-in-Ok-lowest-clause-rest
returns-in-Ok-lowest-clause-rest g c s t l stands at rows =
    let a : DiskState = g.D.Disk.state c.args.disk.now in
    let m : DiskState = g.D.Disk.state c.kept_from.new.disk in
    let old : Tables = c.args.self.now in
    let mid : Tables = c.kept_from.new.self in
    let name : List ℕ = c.args.table.now in
    let stream = stream_of a old s name t c.in-Some.schema.now stands at
    (sym c.in-Some.ensures.table) c.in-Some-stream_family.family c.in-Some-stream_family.is in
    let there = stands_kept a m old mid c.kept_from.ensures.keeps s stands in
    let rows_there = rows_kept a m old mid c.kept_from.ensures.keeps stands.rows.trusted l rows in
    let told = c.in-Ok.ensures.kept s t stands at in
    let number : ℕ = c.in-Ok.kept.0 in
    let above = left_above m mid s name t there at c.in-Some-stream_family.family stream l
    rows_there number (subst (λ n. t.trimmed ≤ n) (sym told.number)
    (trimmed_rises a old s name t stands at c.args.moment)) in
    let low = subst (λ n. 1 ≤ n) (sym c.left_from-from.ensures.known) above.0 in
    is_rest a old s name t stands at c.in-Some-stream_family.family stream l number c.in-Ok.kept.1
    c.in-Ok-lowest.leftovers c.left_from-from.result c.in-Ok-lowest.from low
    (subst (λ n. All (λ k. n ≤ k) (leftovers l c.in-Some-stream_family.family number))
    (sym c.left_from-from.ensures.known) above.1)
    (c.in-Ok-lowest.ensures.lowest_from s name t l there at stream rows_there low)

pub returns-in-Err-lowest-clause-fails : goal.returns-in-Err-lowest-clause-fails
returns-in-Err-lowest-clause-fails g c = record {
  unspent = c.in-Err-lowest.ensures.unspent;
  fault = λ s stands.
      let a : DiskState = g.D.Disk.state c.args.disk.now in
      let m : DiskState = g.D.Disk.state c.kept_from.new.disk in
      let old : Tables = c.args.self.now in
      let mid : Tables = c.kept_from.new.self in
      let name : List ℕ = c.args.table.now in
      let (t, at, same) = there a old s name c.in-Some.schema.now stands
      (sym c.in-Some.ensures.table) in
      let stream = stream_of a old s name t c.in-Some.schema.now stands at
      (sym c.in-Some.ensures.table) c.in-Some-stream_family.family c.in-Some-stream_family.is in
      let there_m = stands_kept a m old mid c.kept_from.ensures.keeps s stands in
      let above = left_above m mid s name t there_m at c.in-Some-stream_family.family stream
      there_m.rows.layout there_m.rows.is t.trimmed (omega arith) in
      c.in-Err-lowest.ensures.fault s name t there_m at stream
      (subst (λ n. 1 ≤ n) (sym c.left_from-from.ensures.known) above.0);
  cause = λ failed. rose_on (g.D.Disk.state c.args.disk.now) (g.D.Disk.state c.kept_from.new.disk)
      (g.D.Disk.state c.lowest.new.disk) c.kept_from.ensures.keeps.reads.goes
      (c.in-Err-lowest.ensures.cause (ap (λ f. Err f) (let is : c.in-Err-lowest.fault ≡ Failed = cc in is)));
}

-- what is read passes the test
pub returns-then-not-is_within-clause-fails : goal.returns-then-not-is_within-clause-fails
returns-then-not-is_within-clause-fails g c = record {
  unspent = tt;
  fault = λ s stands.
      let a : DiskState = g.D.Disk.state c.args.disk.now in
      let old : Tables = c.args.self.now in
      let name : List ℕ = c.args.table.now in
      let (t, at, same) = there a old s name c.in-Some.schema.now stands
      (sym c.in-Some.ensures.table) in
      let told = c.in-Ok.ensures.kept s t stands at in
      let rises = trimmed_rises a old s name t stands at c.args.moment in
      let stays = trimmed_stays_below a old s name t stands at c.args.moment in
      let known = c.trimmed-before.ensures.trimmed ∙ trimmed_known a old s name t stands at in
      let is = told.number in
      let next = c.next_number.ensures.next ∙ c.kept_from.ensures.keeps.number ∙ stands.number in
      absurd (false≢true (c.if-not-is_within.ensures
      ∙ passes c.trimmed-before.result c.in-Ok.kept.0 c.next_number.result
      (omega (arith, known, is, rises)) (omega (arith, is, stays, next))));
  cause = λ failed. absurd (let g : ⊥ = cc in g);
}

pub lowest-requires-clause-room : goal.lowest-requires-clause-room
lowest-requires-clause-room g c = omega (arith, c.requires.room, c.kept_from.ensures.keeps.number)
