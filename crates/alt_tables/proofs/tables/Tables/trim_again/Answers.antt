-- The next rows that are left over are read, and nothing is trimmed.
use Rattle.std.proofs.Common.{◌≡◌, refl, sym, ap, subst, ◌∙◌, ℕ, Some, IsSome}
use Rattle.std.proofs.lemmas.Option.{same_Some}
use Rattle.alt_disk.specs.Disk.{DiskState}
use Rattle.alt_schema.specs.declared.schema.TableSchema.{TableSchema}
use Rattle.alt_tables.specs.declared.tables.Tables.{Tables}
use Rattle.alt_tables.proofs.Ahead.{again_with}
use Rattle.alt_tables.proofs.Standing.{there}
use Rattle.alt_tables.proofs.tables.Tables.trim_again.Goals as goal

pub lowest-requires-clause-number : goal.lowest-requires-clause-number
lowest-requires-clause-number g c = c.requires.last c.in-Some.schema.now (sym c.in-Some.ensures.table)
    (subst IsSome (sym c.in-Some-stream_family.is) refl)

pub returns-in-Ok-clause-trim : goal.returns-in-Ok-clause-trim
returns-in-Ok-clause-trim g c s l m t stands rows known touched =
    let a : DiskState = g.D.Disk.state c.args.disk.now in
    let old : Tables = c.args.self.now in
    let schema : TableSchema = c.in-Some.schema.now in
    let family : ℕ = c.in-Some-stream_family.family in
    let same : t.description ≡ schema = same_Some _ _ (sym known ∙ sym c.in-Some.ensures.table) in
    let (u, at, of_u) = there a old s c.args.table.now schema stands (sym c.in-Some.ensures.table) in
    again_with l m t c.args.moment c.args.last.now touched _ refl
    (ap (λ n. Some n) c.unwrap_or.ensures) family
    (ap (λ (x : TableSchema). x.stream_family) same ∙ c.in-Some-stream_family.is)
    (c.in-Ok.ensures.lowest_from s c.args.table.now u l stands at
    (ap (λ (x : TableSchema). x.stream_family) of_u ∙ c.in-Some-stream_family.is) rows
    touched.low.0)

pub returns-in-Err-clause-fault : goal.returns-in-Err-clause-fault
returns-in-Err-clause-fault g c s l m t stands touched =
    let a : DiskState = g.D.Disk.state c.args.disk.now in
    let old : Tables = c.args.self.now in
    let (u, at, of_u) = there a old s c.args.table.now c.in-Some.schema.now stands
    (sym c.in-Some.ensures.table) in
    c.in-Err.ensures.fault s c.args.table.now u stands at
    (ap (λ (x : TableSchema). x.stream_family) of_u ∙ c.in-Some-stream_family.is) touched.low.0
