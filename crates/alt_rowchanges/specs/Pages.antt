-- What is read of the rows that a walk over the family of a table, of an index or of a stream gives.
use Rattle.std.specs.Prelude.{◌≡◌, ◌++◌, ℕ, List, [], ◌∷◌, map, All}
use Rattle.alt_cells.specs.Changes.{Columns}
use Rattle.alt_machine.specs.State.{Change}
use Rattle.alt_views.specs.ItemRows.{IsReadItem, item_columns}
use Rattle.alt_schema.specs.declared.schema.IndexSchema.{IndexSchema}
use Rattle.alt_schema.specs.declared.schema.TableSchema.{TableSchema}
use Rattle.alt_value.specs.Tree.{Pair}
use Rattle.alt_views.specs.Read.{IsKeptAt}
use Rattle.alt_opening.specs.StreamScans.{IsChangeAt}

-- These are the rows of the items, one by one, and each of the items can be read.
pub record AreItemsOf (page : List (List ℕ × Columns)) (items : List (List Pair)) : Type 0 where
  pub read : All IsReadItem items
  pub rows : map (λ e. e.1) page ≡ map item_columns items

-- At each of these rows an index keeps the item beside it.
abbrev pub AreKept : TableSchema → IndexSchema → List (List ℕ × Columns) → List (List Pair) → Type 0
AreKept d i [] [] = Unit {0}
AreKept d i [] (x ∷ xs) = ⊥
AreKept d i (e ∷ es) [] = ⊥
AreKept d i (e ∷ es) (x ∷ xs) = IsKeptAt d i x e.0 e.1 × AreKept d i es xs

-- The items of rows stand at the end of a list.
pub record ArePut (page : List (List ℕ × Columns)) (old new : List (List Pair)) : Type 0 where
  pub items : List (List Pair)
  pub are : AreItemsOf page items
  pub put : new ≡ old ++ items

-- ---- changes

-- These are the rows of the changes, one by one.
abbrev pub AreChangesOf : List (List ℕ × Columns) → List Change → Type 0
AreChangesOf [] [] = Unit {0}
AreChangesOf [] (c ∷ cs) = ⊥
AreChangesOf (e ∷ es) [] = ⊥
AreChangesOf (e ∷ es) (c ∷ cs) = IsChangeAt e.0 e.1 c × AreChangesOf es cs
