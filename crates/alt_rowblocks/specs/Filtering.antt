-- The filters of the blocks of a row file in hand, which are never in the file.
use Rattle.std.specs.Prelude.{List, [], ◌∷◌, ℕ, Option, Some, None}
use Rattle.std.specs.List.{AllByRecursion}
use Rattle.alt_filter.specs.Filters.{Holds}
use Rattle.alt_filter.specs.declared.filter.Filter.{Filter}
use Rattle.alt_rowblocks.specs.Format.{Entry}

-- the filter holds the keys of these rows
abbrev pub FilterHoldsRows : Filter → List Entry → Type 0
FilterHoldsRows filter rows = AllByRecursion (λ e. Holds filter e.0) rows

-- one filter a block, in their order, and each holds the keys of its block
abbrev pub AreFilters : List Filter → List (List Entry) → Type 0
AreFilters [] [] = Unit {0}
AreFilters [] (b ∷ bs) = ⊥
AreFilters (f ∷ fs) [] = ⊥
AreFilters (f ∷ fs) (b ∷ bs) = FilterHoldsRows f b × AreFilters fs bs

-- there is a filter, and it doesn't hold this key
abbrev pub IsDenied : Option Filter → List ℕ → Type 0
IsDenied None key = ⊥
IsDenied (Some filter) key = Holds filter key → ⊥
