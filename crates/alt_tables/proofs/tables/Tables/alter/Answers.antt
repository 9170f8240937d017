-- A number, a family or a file is lacked, or one write gives the table the other description.
use Rattle.std.proofs.Common.{◌≡◌, ◌<◌, ◌&&◌, ◌||◌, nat_le, Bool, true, false, [], ◌∷◌, refl, sym, ap, subst, ◌∙◌, ℕ, List, Some, length, arith}
use Rattle.std.specs.FinMap as map
use Rattle.std.specs.List.{list_any}
use Rattle.std.specs.Prelude.{◌==◌, ◌+◌, if◌then◌else◌}
use Rattle.alt_disk.proofs.Runs.{quiet_start}
use Rattle.alt_machine.specs.Ops.UpdateTable.{with_description}
use Rattle.alt_machine.specs.State.{Texts, families_of}
use Rattle.alt_machine.specs.declared.TheConstants.{FAMILIES_END}
use Rattle.alt_rowchanges.specs.OpeningLive.{with_all}
use Rattle.alt_schema.specs.declared.schema.TableSchema.{TableSchema}
use Rattle.alt_rowchanges.specs.Altering.{alter_wants, family_left, has_more}
use Rattle.alt_tables.specs.Faults.{BreakOff}
use Rattle.alt_tables.specs.Stands.{Stands, bounds_of, catalog_of}
use Rattle.alt_rowchanges.specs.declared.faults.TableFault.TheVariants.{Spent}
use Rattle.alt_tables.proofs.Altered.{alter_enough, alter_family, alter_number, alter_stands, alter_turned, is_free, own_families, same_name}
use Rattle.alt_tables.proofs.Holding.{leaves_quiet}
use Rattle.alt_tables.proofs.Making.{broke, spent, spent_file}
use Rattle.alt_tables.proofs.TableMaking.{one_made}
use Rattle.alt_tables.proofs.Standing.{known}
use Rattle.alt_tables.proofs.tables.Tables.alter.Goals as goal

-- the description from before stands under the name
described_at : (catalog : Texts TableSchema) (n m : List ℕ) (d : TableSchema) → n ≡ m
    → Some d ≡ map.get catalog n → map.get catalog m ≡ Some d
described_at catalog n m d same there = ap (map.get catalog) (sym same) ∙ sym there

pub returns-then-number-ge-NUMBERS_END-clause-writes :
    goal.returns-then-number-ge-NUMBERS_END-clause-writes
returns-then-number-ge-NUMBERS_END-clause-writes g c s t stands at =
    let here = known (g.D.Disk.state c.args.disk.now) c.args.self.now s c.args.schema.name t stands at in
    spent (Stands (g.D.Disk.state c.args.disk.now) c.args.self.now)
    (alter_wants t.description c.args.schema) s
    (with_description s c.args.schema.name t c.args.schema
    (family_left s.next_family t.description c.args.schema)) c.next_number-number.result
    (alter_number (g.D.Disk.state c.args.disk.now) c.args.self.now s stands c.args.schema.name t at
    c.args.schema refl t.description here (c.requires.alters t.description here)
    c.next_number-number.result c.next_number-number.ensures.next
    (omega (arith, c.if-number-ge-NUMBERS_END.true)))
    stands

pub returns-then-number-ge-NUMBERS_END-clause-disk :
    goal.returns-then-number-ge-NUMBERS_END-clause-disk
returns-then-number-ge-NUMBERS_END-clause-disk g c s t stands at =
    leaves_quiet (g.D.Disk.state c.args.disk.now) (g.D.Disk.state c.args.disk.now)
    c.args.self.now.engine s
    (with_description s c.args.schema.name t c.args.schema
    (family_left s.next_family t.description c.args.schema) ∷ []) stands.rows stands.valid
    (quiet_start (g.D.Disk.state c.args.disk.now))

pub returns-then-lacks_family-clause-writes : goal.returns-then-lacks_family-clause-writes
returns-then-lacks_family-clause-writes g c s t stands at =
    let d = c.in-Some.old.now in
    let here : map.get (catalog_of c.args.self.now) c.args.schema.name ≡ Some d =
    described_at (catalog_of c.args.self.now) c.as_str.result.now c.args.schema.name d
    c.as_str.ensures.same c.in-Some.ensures.table in
    subst (λ (n : ℕ). BreakOff (bounds_of c.args.self.now).file
    (Stands (g.D.Disk.state c.args.disk.now) c.args.self.now)
    (alter_wants t.description c.args.schema) s
    (with_description s c.args.schema.name t c.args.schema
    (family_left s.next_family t.description c.args.schema) ∷ []) (Spent n))
    (sym c.from.ensures)
    (spent (Stands (g.D.Disk.state c.args.disk.now) c.args.self.now)
    (alter_wants t.description c.args.schema) s
    (with_description s c.args.schema.name t c.args.schema
    (family_left s.next_family t.description c.args.schema)) c.args.self.now.family
    (alter_family (g.D.Disk.state c.args.disk.now) c.args.self.now s stands c.args.schema.name t at
    c.args.schema refl d here (c.requires.alters d here) c.lacks_family.result
    (c.lacks_family.ensures ∙ ap (λ b. b && (nat_le FAMILIES_END c.args.self.now.family
    || list_any (λ f. f == c.args.self.now.family) (families_of d))) c.has_more-more.ensures)
    c.if-lacks_family.true
    (omega (arith, c.next_number-number.ensures.next, c.if-number-ge-NUMBERS_END.false)))
    stands)

pub returns-then-lacks_family-clause-disk : goal.returns-then-lacks_family-clause-disk
returns-then-lacks_family-clause-disk g c s t stands at =
    leaves_quiet (g.D.Disk.state c.args.disk.now) (g.D.Disk.state c.args.disk.now)
    c.args.self.now.engine s
    (with_description s c.args.schema.name t c.args.schema
    (family_left s.next_family t.description c.args.schema) ∷ []) stands.rows stands.valid
    (quiet_start (g.D.Disk.state c.args.disk.now))

pub returns-in-Some-wanting_file-clause-writes : goal.returns-in-Some-wanting_file-clause-writes
returns-in-Some-wanting_file-clause-writes g c s t stands at =
    let d = c.in-Some.old.now in
    let here : map.get (catalog_of c.args.self.now) c.args.schema.name ≡ Some d =
    described_at (catalog_of c.args.self.now) c.as_str.result.now c.args.schema.name d
    c.as_str.ensures.same c.in-Some.ensures.table in
    spent_file (Stands (g.D.Disk.state c.args.disk.now) c.args.self.now)
    (alter_wants t.description c.args.schema) s
    (with_description s c.args.schema.name t c.args.schema
    (family_left s.next_family t.description c.args.schema)) c.in-Some-wanting_file.number
    (alter_enough (g.D.Disk.state c.args.disk.now) c.args.self.now s stands c.args.schema.name t at
    c.args.schema refl d here (c.requires.alters d here) c.lacks_family.result
    (c.lacks_family.ensures ∙ ap (λ b. b && (nat_le FAMILIES_END c.args.self.now.family
    || list_any (λ f. f == c.args.self.now.family) (families_of d))) c.has_more-more.ensures)
    c.if-lacks_family.false
    (omega (arith, c.next_number-number.ensures.next, c.if-number-ge-NUMBERS_END.false)))
    c.in-Some-wanting_file.ensures.last stands

pub returns-in-Some-wanting_file-clause-disk : goal.returns-in-Some-wanting_file-clause-disk
returns-in-Some-wanting_file-clause-disk g c s t stands at =
    leaves_quiet (g.D.Disk.state c.args.disk.now) (g.D.Disk.state c.args.disk.now)
    c.args.self.now.engine s
    (with_description s c.args.schema.name t c.args.schema
    (family_left s.next_family t.description c.args.schema) ∷ []) stands.rows stands.valid
    (quiet_start (g.D.Disk.state c.args.disk.now))

pub alteration-requires : goal.alteration-requires
alteration-requires g c =
    let d = c.in-Some.old.now in
    let here : map.get (catalog_of c.args.self.now) c.args.schema.name ≡ Some d =
    described_at (catalog_of c.args.self.now) c.as_str.result.now c.args.schema.name d
    c.as_str.ensures.same c.in-Some.ensures.table in
    record {
      named = subst (λ (n : List ℕ). 0 < length n)
          (same_name c.args.self.now.family d c.args.schema (c.requires.alters d here))
          c.requires.named;
    }

pub returns-in_err-batch-clause-disk : goal.returns-in_err-batch-clause-disk
returns-in_err-batch-clause-disk g c s t stands at =
    leaves_quiet (g.D.Disk.state c.args.disk.now) (g.D.Disk.state c.args.disk.now)
    c.args.self.now.engine s
    (with_description s c.args.schema.name t c.args.schema
    (family_left s.next_family t.description c.args.schema) ∷ []) stands.rows stands.valid
    (quiet_start (g.D.Disk.state c.args.disk.now))

pub returns-in_err-live-clause-disk : goal.returns-in_err-live-clause-disk
returns-in_err-live-clause-disk g c s t stands at =
    leaves_quiet (g.D.Disk.state c.args.disk.now) (g.D.Disk.state c.args.disk.now)
    c.args.self.now.engine s
    (with_description s c.args.schema.name t c.args.schema
    (family_left s.next_family t.description c.args.schema) ∷ []) stands.rows stands.valid
    (quiet_start (g.D.Disk.state c.args.disk.now))

pub returns-in_err-live-2-clause-disk : goal.returns-in_err-live-2-clause-disk
returns-in_err-live-2-clause-disk g c s t stands at =
    leaves_quiet (g.D.Disk.state c.args.disk.now) (g.D.Disk.state c.args.disk.now)
    c.args.self.now.engine s
    (with_description s c.args.schema.name t c.args.schema
    (family_left s.next_family t.description c.args.schema) ∷ []) stands.rows stands.valid
    (quiet_start (g.D.Disk.state c.args.disk.now))

pub make-requires-clause-ready : goal.make-requires-clause-ready
make-requires-clause-ready g c trusted =
    let (s, stands) = c.requires.ready trusted in (s, stands.rows)

pub replace-requires-clause-families : goal.replace-requires-clause-families
replace-requires-clause-families g c =
    let d = c.in-Some.old.now in
    let here : map.get (catalog_of c.args.self.now) c.args.schema.name ≡ Some d =
    described_at (catalog_of c.args.self.now) c.as_str.result.now c.args.schema.name d
    c.as_str.ensures.same c.in-Some.ensures.table in
    own_families c.args.self.now.family d c.args.schema (c.requires.alters d here)
    c.in-Some.ensures.families
    (is_free c.lacks_family.result (has_more d c.args.schema)
    (nat_le FAMILIES_END c.args.self.now.family)
    (list_any (λ f. f == c.args.self.now.family) (families_of d))
    (c.lacks_family.ensures ∙ ap (λ b. b && (nat_le FAMILIES_END c.args.self.now.family
    || list_any (λ f. f == c.args.self.now.family) (families_of d))) c.has_more-more.ensures)
    c.if-lacks_family.false)

pub returns-in-Ok-clause-writes : goal.returns-in-Ok-clause-writes
returns-in-Ok-clause-writes g c s t stands at =
    let d = c.in-Some.old.now in
    let here : map.get (catalog_of c.args.self.now) c.args.schema.name ≡ Some d =
    described_at (catalog_of c.args.self.now) c.as_str.result.now c.args.schema.name d
    c.as_str.ensures.same c.in-Some.ensures.table in
    let enough = alter_enough (g.D.Disk.state c.args.disk.now) c.args.self.now s stands
    c.args.schema.name t at c.args.schema refl d here (c.requires.alters d here)
    c.lacks_family.result
    (c.lacks_family.ensures ∙ ap (λ b. b && (nat_le FAMILIES_END c.args.self.now.family
    || list_any (λ f. f == c.args.self.now.family) (families_of d))) c.has_more-more.ensures)
    c.if-lacks_family.false
    (omega (arith, c.next_number-number.ensures.next, c.if-number-ge-NUMBERS_END.false)) in
    let left : c.family_after-after.result ≡ family_left c.args.self.now.family d c.args.schema =
    c.family_after-after.ensures
    ∙ ap (λ (b : Bool). if b then c.args.self.now.family + 1 else c.args.self.now.family)
    c.has_more-more.ensures in
    let turned = alter_turned (g.D.Disk.state c.args.disk.now) c.args.self.now s stands
    c.args.schema.name t at c.args.schema refl d here (c.requires.alters d here)
    c.family_after-after.result left c.in_ok-batch.batch c.in_ok-batch.ensures.changes
    (c.requires.made s stands) c.held.ensures.held enough in
    one_made (Stands (g.D.Disk.state c.make.new.disk) _) (alter_wants t.description c.args.schema) s
    (with_description s c.args.schema.name t c.args.schema
    (family_left s.next_family t.description c.args.schema))
    (alter_stands (g.D.Disk.state c.args.disk.now) c.args.self.now s stands
    c.args.schema.name t at c.args.schema refl d here (c.requires.alters d here)
    c.family_after-after.result left c.in_ok-batch.batch c.in_ok-batch.ensures.changes
    (g.D.Disk.state c.make.new.disk) _
    (c.in-Ok.ensures.ok s
    (with_description s c.args.schema.name t c.args.schema
    (family_left s.next_family t.description c.args.schema)) stands.rows turned) turned.valid
    (c.replace.ensures.replaced
    ∙ ap (λ (m : Texts TableSchema). map.insert m c.args.schema.name c.args.schema)
    c.make.ensures.kept.0)
    (c.in_ok-live-2.ensures ∙ ap (with_all (families_of c.args.schema)) c.in_ok-live.ensures)
    refl c.make.ensures.kept.3 c.make.ensures.kept.4 c.make.ensures.kept.5 c.make.ensures.kept.7 refl
    c.in-Ok.ensures.next c.in-Ok.ensures.distinct
    (c.in-Ok.ensures.rows stands.rows.trusted stands.rows.layout stands.rows.is))
    enough

pub returns-in-Ok-clause-disk : goal.returns-in-Ok-clause-disk
returns-in-Ok-clause-disk g c s t stands at =
    let d = c.in-Some.old.now in
    let here : map.get (catalog_of c.args.self.now) c.args.schema.name ≡ Some d =
    described_at (catalog_of c.args.self.now) c.as_str.result.now c.args.schema.name d
    c.as_str.ensures.same c.in-Some.ensures.table in
    let enough = alter_enough (g.D.Disk.state c.args.disk.now) c.args.self.now s stands
    c.args.schema.name t at c.args.schema refl d here (c.requires.alters d here)
    c.lacks_family.result
    (c.lacks_family.ensures ∙ ap (λ b. b && (nat_le FAMILIES_END c.args.self.now.family
    || list_any (λ f. f == c.args.self.now.family) (families_of d))) c.has_more-more.ensures)
    c.if-lacks_family.false
    (omega (arith, c.next_number-number.ensures.next, c.if-number-ge-NUMBERS_END.false)) in
    let left : c.family_after-after.result ≡ family_left c.args.self.now.family d c.args.schema =
    c.family_after-after.ensures
    ∙ ap (λ (b : Bool). if b then c.args.self.now.family + 1 else c.args.self.now.family)
    c.has_more-more.ensures in
    c.make.ensures.disk s
    (with_description s c.args.schema.name t c.args.schema
    (family_left s.next_family t.description c.args.schema)) stands.rows stands.valid
    (alter_turned (g.D.Disk.state c.args.disk.now) c.args.self.now s stands
    c.args.schema.name t at c.args.schema refl d here (c.requires.alters d here)
    c.family_after-after.result left c.in_ok-batch.batch c.in_ok-batch.ensures.changes
    (c.requires.made s stands) c.held.ensures.held enough)

pub returns-in-Err-clause-disk : goal.returns-in-Err-clause-disk
returns-in-Err-clause-disk g c s t stands at =
    let d = c.in-Some.old.now in
    let here : map.get (catalog_of c.args.self.now) c.args.schema.name ≡ Some d =
    described_at (catalog_of c.args.self.now) c.as_str.result.now c.args.schema.name d
    c.as_str.ensures.same c.in-Some.ensures.table in
    let enough = alter_enough (g.D.Disk.state c.args.disk.now) c.args.self.now s stands
    c.args.schema.name t at c.args.schema refl d here (c.requires.alters d here)
    c.lacks_family.result
    (c.lacks_family.ensures ∙ ap (λ b. b && (nat_le FAMILIES_END c.args.self.now.family
    || list_any (λ f. f == c.args.self.now.family) (families_of d))) c.has_more-more.ensures)
    c.if-lacks_family.false
    (omega (arith, c.next_number-number.ensures.next, c.if-number-ge-NUMBERS_END.false)) in
    let left : c.family_after-after.result ≡ family_left c.args.self.now.family d c.args.schema =
    c.family_after-after.ensures
    ∙ ap (λ (b : Bool). if b then c.args.self.now.family + 1 else c.args.self.now.family)
    c.has_more-more.ensures in
    c.make.ensures.disk s
    (with_description s c.args.schema.name t c.args.schema
    (family_left s.next_family t.description c.args.schema)) stands.rows stands.valid
    (alter_turned (g.D.Disk.state c.args.disk.now) c.args.self.now s stands
    c.args.schema.name t at c.args.schema refl d here (c.requires.alters d here)
    c.family_after-after.result left c.in_ok-batch.batch c.in_ok-batch.ensures.changes
    (c.requires.made s stands) c.held.ensures.held enough)

pub returns-in-Err-clause-writes : goal.returns-in-Err-clause-writes
returns-in-Err-clause-writes g c s t stands at =
    broke (bounds_of c.args.self.now).file
    (Stands (g.D.Disk.state c.make.new.disk) c.make.new.self)
    (alter_wants t.description c.args.schema) s
    (with_description s c.args.schema.name t c.args.schema
    (family_left s.next_family t.description c.args.schema)) c.in-Err.fault c.in-Err.ensures.fault
