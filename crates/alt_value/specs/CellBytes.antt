-- The one spelling of each value in bytes (docs/formats/cell-bytes.md).
use Rattle.std.specs.Prelude.{ℕ, ℤ, Bool, true, false, List, [], ◌∷◌, ◌++◌, length}
use Rattle.std.specs.Int.{w64, to_be_bytes}
use Rattle.alt_fields.specs.Field.{field}
use Rattle.alt_decimal.specs.Spelled.{spelled}
use Rattle.alt_value.specs.Tree.{Tree, S_tree, N_tree, B_tree, BOOL_tree, NULL_tree, SS_tree, NS_tree, BS_tree, L_tree, M_tree, Trees, no_trees, tree_then, Fields, no_fields, field_then, elements, pairs}

-- 0 for false, 1 for true
abbrev pub truth_byte : Bool → ℕ
truth_byte false = 0
truth_byte true = 1

-- a count in 8 bytes, high byte first
abbrev pub counted : ℕ → List ℕ
counted n = to_be_bytes w64 n

-- byte strings one after another, each as a field
abbrev pub fields_bytes : List (List ℕ) → List ℕ
fields_bytes [] = []
fields_bytes (s ∷ ss) = field s ++ fields_bytes ss

-- numbers one after another, each spelled
abbrev pub numbers_bytes : List ℤ → List ℕ
numbers_bytes [] = []
numbers_bytes (z ∷ zs) = spelled z ++ numbers_bytes zs

-- a byte for the kind, and then the value; sets and maps in their rising order
abbrev mutual
  pub cell_bytes : Tree → List ℕ
  cell_bytes (S_tree s) = 1 ∷ field s
  cell_bytes (N_tree z) = 2 ∷ spelled z
  cell_bytes (B_tree b) = 3 ∷ field b
  cell_bytes (BOOL_tree b) = 4 ∷ truth_byte b ∷ []
  cell_bytes NULL_tree = 5 ∷ []
  cell_bytes (SS_tree ss) = 6 ∷ (counted (length ss) ++ fields_bytes ss)
  cell_bytes (NS_tree zs) = 7 ∷ (counted (length zs) ++ numbers_bytes zs)
  cell_bytes (BS_tree bs) = 8 ∷ (counted (length bs) ++ fields_bytes bs)
  cell_bytes (L_tree ts) = 9 ∷ (counted (length (elements ts)) ++ elements_bytes ts)
  cell_bytes (M_tree fs) = 10 ∷ (counted (length (pairs fs)) ++ entries_bytes fs)

  -- the elements of a list, one after another
  elements_bytes : Trees → List ℕ
  elements_bytes no_trees = []
  elements_bytes (tree_then t ts) = cell_bytes t ++ elements_bytes ts

  -- the pairs of a map, each its name and its value
  entries_bytes : Fields → List ℕ
  entries_bytes no_fields = []
  entries_bytes (field_then name t fs) = field name ++ cell_bytes t ++ entries_bytes fs
