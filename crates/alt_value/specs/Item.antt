-- Items, and maps within values, as lists of pairs with rising names.
use Rattle.std.specs.Prelude.{ℕ, not, T, List, [], ◌∷◌, Option}
use Rattle.std.specs.Ordering.{eq_by_cmp}
use Rattle.std.specs.FinMap.Entries.{find, put, where_key, below_all, is_sorted}
use Rattle.alt_value.specs.Members.{text_order}
use Rattle.alt_value.specs.Tree.{Tree, Pair}

-- The names rise, so none stands twice, and all are above the empty one, so none is empty.
abbrev pub IsItem : List Pair → Type 0
IsItem item = T (is_sorted text_order item) × T (below_all text_order [] item)

-- the value of a name, if it has one
abbrev pub at_name : List ℕ → List Pair → Option Tree
at_name name item = find text_order name item

-- the item with that value at the name, in the place of the value that was there
abbrev pub with_pair : List ℕ → Tree → List Pair → List Pair
with_pair name t item = put text_order name t item

-- the item with the values of these pairs put in turn, so that the last at a name counts
abbrev pub with_pairs : List Pair → List Pair → List Pair
with_pairs [] item = item
with_pairs (p ∷ ps) item = with_pairs ps (with_pair p.0 p.1 item)

-- the item without that name
abbrev pub without : List ℕ → List Pair → List Pair
without name item = where_key text_order (λ other. not (eq_by_cmp text_order name other)) item
