-- What a step of building reads and changes.
use Rattle.std.specs.Prelude.{◌≡◌, ◌++◌, ◌∷◌, [], ℕ, List, Option, Some, None, slice_get}
use Rattle.std.specs.List.{flat_map}
use Rattle.alt_cells.specs.Changes.{change_between}
use Rattle.alt_cells.specs.declared.batch.RowChange.{RowChange}
use Rattle.alt_machine.specs.Building.{built_place}
use Rattle.alt_machine.specs.Indexed.{index_entry}
use Rattle.alt_opening.specs.StateRows.{catalog_family, table_row}
use Rattle.alt_schema.specs.declared.schema.Built.{Built}
use Rattle.alt_schema.specs.declared.schema.Built.TheVariants.{Whole, UpTo}
use Rattle.alt_schema.specs.declared.schema.IndexSchema.{IndexSchema}
use Rattle.alt_schema.specs.declared.schema.TableSchema.{TableSchema}
use Rattle.alt_value.specs.Tree.{Pair}
use Rattle.alt_views.specs.IndexRows.{moves_in}

-- the place up to which an index is built, none where it isn't begun
abbrev pub built_to : TableSchema → Built → Option (List ℕ)
built_to d Whole = None
built_to d (UpTo None) = None
built_to d (UpTo (Some key)) = built_place d key

-- the least key behind a place, or the least of all
abbrev pub first_behind : Option (List ℕ) → List ℕ
first_behind None = []
first_behind (Some place) = place ++ 0 ∷ []

-- no two of these items have one key in an index
abbrev pub AreApartIn : TableSchema → IndexSchema → List (List Pair) → Type 0
AreApartIn d i items = (n m : ℕ) (x y : List Pair) (key : List ℕ) (v w : List Pair)
    → slice_get items n ≡ Some x → slice_get items m ≡ Some y
    → index_entry d i x ≡ Some (key, v) → index_entry d i y ≡ Some (key, w) → n ≡ m

-- the row changes of a step with these items
abbrev pub step_row_changes : TableSchema → TableSchema → IndexSchema → List (List Pair) → List RowChange
step_row_changes d e i items = change_between catalog_family d.name (Some (table_row d)) (Some (table_row e))
    ∷ flat_map (λ x. moves_in d None (Some x) i) items
