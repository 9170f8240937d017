-- The families that are live while a store is open: that of the catalog, and those of its tables.
use Rattle.std.specs.Prelude.{◌≡◌, ◌⊎◌, ◌==◌, ◌||◌, ℕ, List, [], ◌∷◌, Some, Contains, if◌then◌else◌, nat_lt, not}
use Rattle.std.specs.List.{list_any}
use Rattle.std.specs.FinMap as map
use Rattle.alt_manifest.specs.Versions.{IsIn}
use Rattle.alt_machine.specs.State.{Texts, families_of}
use Rattle.alt_opening.specs.StateRows.{catalog_family}
use Rattle.alt_schema.specs.declared.schema.TableSchema.{TableSchema}

-- One of the tables has the family.
pub record IsOfTable (catalog : Texts TableSchema) (family : ℕ) : Type 0 where
  pub name : List ℕ
  pub description : TableSchema
  pub there : map.get catalog name ≡ Some description
  pub has : Contains (families_of description) family

-- These are the family of the catalog and those of its tables, and no others.
pub record AreLiveIn (catalog : Texts TableSchema) (live : List ℕ) : Type 0 where
  pub each : (family : ℕ) → IsOfTable catalog family → IsIn live family
  pub only : (family : ℕ) → IsIn live family
      → (family ≡ catalog_family) ⊎ IsOfTable catalog family

-- ---- tables that come and go

-- A family in front of others that aren't below it, unless it is the first of them already.
abbrev pub with_first : ℕ → List ℕ → List ℕ
with_first family [] = family ∷ []
with_first family (g ∷ gs) = if g == family then g ∷ gs else family ∷ g ∷ gs

-- Families in their order with one more at its place.
abbrev pub with_one : ℕ → List ℕ → List ℕ
with_one family [] = with_first family []
with_one family (g ∷ gs) =
    if nat_lt g family then g ∷ with_one family gs else with_first family (g ∷ gs)

-- With each of several.
abbrev pub with_all : List ℕ → List ℕ → List ℕ
with_all [] live = live
with_all (f ∷ fs) live = with_all fs (with_one f live)

-- Without any of several; that of the catalog stays.
abbrev pub without_all : List ℕ → List ℕ → List ℕ
without_all fs [] = []
without_all fs (g ∷ gs) = if g == catalog_family || not (list_any (λ f. f == g) fs)
    then g ∷ without_all fs gs else without_all fs gs

-- With those of each of these tables.
abbrev pub with_tables : List TableSchema → List ℕ → List ℕ
with_tables [] live = live
with_tables (d ∷ ds) live = with_tables ds (with_all (families_of d) live)
