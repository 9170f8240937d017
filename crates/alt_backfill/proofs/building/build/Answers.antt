-- Nothing is built, or the first table of which an index is being built is built further.
use Rattle.std.proofs.Common.{◌≡◌, sym, ap, subst, ◌∙◌, ℕ, Bool, true, List, [], ◌∷◌, Some, is_some, IsTrue, Result, IfOk, arith}
use Rattle.std.specs.Prelude.{◌↔◌}
use Rattle.std.specs.FinMap as map
use Rattle.alt_backfill.proofs.Builds.{found, idle_leaves, idle_made, idle_told, one_told, unbuilt, unfound}
use Rattle.alt_backfill.proofs.Naming.{none_built}
use Rattle.alt_backfill.proofs.building.build.Goals as goal
use Rattle.alt_machine.specs.Building.{build, building_in, with_built}
use Rattle.alt_machine.specs.Outcomes.{a_number}
use Rattle.alt_machine.specs.State.{State}
use Rattle.alt_machine.specs.declared.TheConstants.{BUILT_AT_ONCE}
use Rattle.alt_ops_table.proofs.Asking.{none_there}
use Rattle.alt_schema.specs.declared.schema.TableSchema.{TableSchema}
use Rattle.alt_request.specs.TablesFaults.{AreMade, BreakOff, Writes}
use Rattle.alt_request.specs.TablesImages.{Leaves}
use Rattle.alt_request.proofs.Reaching.{err_is}
use Rattle.alt_request.specs.TablesStands.{Stands, bounds_of, catalog_of}
use Rattle.alt_request.specs.TablesDeclaredTableFault.{TableFault}

-- values that are equal as options are equal
some_same : {A : Type 0} (a b : A) → Some a ≡ Some b → a ≡ b
some_same a b h = cc

pub returns-then-not-may_build-clause-builds : goal.returns-then-not-may_build-clause-builds
returns-then-not-may_build-clause-builds g c = λ s stands.
    idle_made s (unbuilt (g.D.Disk.state c.args.disk.now) c.args.tables.now s stands
    (c.may_build.ensures.none (g.D.Disk.state c.args.disk.now) s stands c.if-not-may_build.true))
    (Stands (g.D.Disk.state c.args.disk.now) c.args.tables.now) stands

pub returns-then-not-may_build-clause-disk : goal.returns-then-not-may_build-clause-disk
returns-then-not-may_build-clause-disk g c = λ s stands.
    idle_leaves (g.D.Disk.state c.args.disk.now) c.args.tables.now s stands

pub returns-then-not-may_build-clause-told : goal.returns-then-not-may_build-clause-told
returns-then-not-may_build-clause-told g c = λ s stands.
    idle_told s (unbuilt (g.D.Disk.state c.args.disk.now) c.args.tables.now s stands
    (c.may_build.ensures.none (g.D.Disk.state c.args.disk.now) s stands c.if-not-may_build.true))

pub returns-then-is_some-clause-builds : goal.returns-then-is_some-clause-builds
returns-then-is_some-clause-builds g c = λ s stands.
    idle_made s (unfound (g.D.Disk.state c.args.disk.now) c.args.tables.now s stands
    c.in_default.ensures.first) (Stands (g.D.Disk.state c.args.disk.now) c.args.tables.now) stands

pub returns-then-is_some-clause-disk : goal.returns-then-is_some-clause-disk
returns-then-is_some-clause-disk g c = λ s stands.
    idle_leaves (g.D.Disk.state c.args.disk.now) c.args.tables.now s stands

pub returns-then-is_some-clause-told : goal.returns-then-is_some-clause-told
returns-then-is_some-clause-told g c = λ s stands.
    idle_told s (unfound (g.D.Disk.state c.args.disk.now) c.args.tables.now s stands
    c.in_default.ensures.first)

pub note_none_builds-requires : goal.note_none_builds-requires
note_none_builds-requires g c = record {
  none = none_built (catalog_of c.args.tables.now) (sym (c.in_default.ensures.first
      (none_there (λ d. d.now) c.table.result _ c.table.ensures.table
      (sym c.is_some.ensures ∙ c.if-is_some.false))));
}

pub returns-in_default-clause-builds : goal.returns-in_default-clause-builds
returns-in_default-clause-builds g c = λ s stands.
    idle_made s (unfound (g.D.Disk.state c.args.disk.now) c.args.tables.now s stands
    c.in_default.ensures.first)
    (Stands (g.D.Disk.state c.args.disk.now) c.note_none_builds.new.self)
    (c.note_none_builds.ensures.stands (g.D.Disk.state c.args.disk.now) s stands)

pub returns-in_default-clause-disk : goal.returns-in_default-clause-disk
returns-in_default-clause-disk g c = λ s stands.
    idle_leaves (g.D.Disk.state c.args.disk.now) c.args.tables.now s stands

pub returns-in_default-clause-told : goal.returns-in_default-clause-told
returns-in_default-clause-told g c = λ s stands.
    idle_told s (unfound (g.D.Disk.state c.args.disk.now) c.args.tables.now s stands
    c.in_default.ensures.first)

pub returns-in_err-name-clause-disk : goal.returns-in_err-name-clause-disk
returns-in_err-name-clause-disk g c = λ s stands.
    idle_leaves (g.D.Disk.state c.args.disk.now) c.args.tables.now s stands

pub build_rows-requires-clause-there : goal.build_rows-requires-clause-there
build_rows-requires-clause-there g c = ap is_some
    (ap (map.get (catalog_of c.args.tables.now)) (c.as_str.ensures.same ∙ c.in_ok-name.ensures.same)
    ∙ c.in-Some.ensures.building.there)

pub build_rows-requires-clause-building : goal.build_rows-requires-clause-building
build_rows-requires-clause-building g c = λ d at.
    let same : c.in-Some.schema.now ≡ d = some_same c.in-Some.schema.now d
    (sym (ap (map.get (catalog_of c.args.tables.now))
    (c.as_str.ensures.same ∙ c.in_ok-name.ensures.same) ∙ c.in-Some.ensures.building.there) ∙ at) in
    subst (λ (x : TableSchema). is_some (building_in x) ≡ true) same c.in-Some.ensures.building.builds

pub returns-in_err-build_rows-clause-builds : goal.returns-in_err-build_rows-clause-builds
returns-in_err-build_rows-clause-builds g c = λ s stands.
    let (t, i, at, b, is) = found (g.D.Disk.state c.args.disk.now) c.args.tables.now s stands
    c.in-Some.schema.now c.in-Some.ensures.first in
    let now : State → Type 0 = Stands (g.D.Disk.state c.build_rows.new.disk) c.build_rows.new.self in
    subst (λ (r : Result Bool TableFault). Writes (bounds_of c.args.tables.now).file now a_number s
    (build s) r)
    (sym (err_is c.from_residual-in_err-build_rows.result c.in_err-build_rows.field-0.0
    c.from_residual-in_err-build_rows.ensures))
    (subst (λ (rs : List State). BreakOff (bounds_of c.args.tables.now).file now a_number s rs
    c.in_err-build_rows.field-0.0) (sym is)
    (subst (λ (n : List ℕ). BreakOff (bounds_of c.args.tables.now).file now a_number s
    (with_built s BUILT_AT_ONCE n t i ∷ []) c.in_err-build_rows.field-0.0)
    (c.as_str.ensures.same ∙ c.in_ok-name.ensures.same)
    (c.in_err-build_rows.ensures.writes s t i stands
    (ap (map.get s.tables) (c.as_str.ensures.same ∙ c.in_ok-name.ensures.same) ∙ at) b)))

pub returns-in_err-build_rows-clause-disk : goal.returns-in_err-build_rows-clause-disk
returns-in_err-build_rows-clause-disk g c = λ s stands.
    let (t, i, at, b, is) = found (g.D.Disk.state c.args.disk.now) c.args.tables.now s stands
    c.in-Some.schema.now c.in-Some.ensures.first in
    subst (λ (rs : List State). Leaves (g.D.Disk.state c.args.disk.now)
    (g.D.Disk.state c.build_rows.new.disk) s rs) (sym is)
    (subst (λ (n : List ℕ). Leaves (g.D.Disk.state c.args.disk.now)
    (g.D.Disk.state c.build_rows.new.disk) s (with_built s BUILT_AT_ONCE n t i ∷ []))
    (c.as_str.ensures.same ∙ c.in_ok-name.ensures.same)
    (c.in_err-build_rows.ensures.disk s t i stands
    (ap (map.get s.tables) (c.as_str.ensures.same ∙ c.in_ok-name.ensures.same) ∙ at) b))

pub returns-in_err-build_rows-clause-told : goal.returns-in_err-build_rows-clause-told
returns-in_err-build_rows-clause-told g c = λ s stands.
    subst (λ (r : Result Bool TableFault). IfOk r (λ built. IsTrue built ↔ (build s ≡ [] → ⊥)))
    (sym (err_is c.from_residual-in_err-build_rows.result c.in_err-build_rows.field-0.0
    c.from_residual-in_err-build_rows.ensures)) tt

pub returns-clause-builds : goal.returns-clause-builds
returns-clause-builds g c = λ s stands.
    let (t, i, at, b, is) = found (g.D.Disk.state c.args.disk.now) c.args.tables.now s stands
    c.in-Some.schema.now c.in-Some.ensures.first in
    let now : State → Type 0 = Stands (g.D.Disk.state c.build_rows.new.disk) c.build_rows.new.self in
    subst (AreMade now a_number s) (sym is)
    (subst (λ (n : List ℕ). AreMade now a_number s (with_built s BUILT_AT_ONCE n t i ∷ []))
    (c.as_str.ensures.same ∙ c.in_ok-name.ensures.same)
    (c.in_ok-build_rows.ensures.writes s t i stands
    (ap (map.get s.tables) (c.as_str.ensures.same ∙ c.in_ok-name.ensures.same) ∙ at) b))

pub returns-clause-disk : goal.returns-clause-disk
returns-clause-disk g c = λ s stands.
    let (t, i, at, b, is) = found (g.D.Disk.state c.args.disk.now) c.args.tables.now s stands
    c.in-Some.schema.now c.in-Some.ensures.first in
    subst (λ (rs : List State). Leaves (g.D.Disk.state c.args.disk.now)
    (g.D.Disk.state c.build_rows.new.disk) s rs) (sym is)
    (subst (λ (n : List ℕ). Leaves (g.D.Disk.state c.args.disk.now)
    (g.D.Disk.state c.build_rows.new.disk) s (with_built s BUILT_AT_ONCE n t i ∷ []))
    (c.as_str.ensures.same ∙ c.in_ok-name.ensures.same)
    (c.in_ok-build_rows.ensures.disk s t i stands
    (ap (map.get s.tables) (c.as_str.ensures.same ∙ c.in_ok-name.ensures.same) ∙ at) b))

pub returns-clause-told : goal.returns-clause-told
returns-clause-told g c = λ s stands.
    let (t, i, at, b, is) = found (g.D.Disk.state c.args.disk.now) c.args.tables.now s stands
    c.in-Some.schema.now c.in-Some.ensures.first in
    one_told s (with_built s BUILT_AT_ONCE c.in-Some.schema.now.name t i) is
