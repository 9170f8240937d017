-- How large a value is, and how deep. Sizes count bytes as DynamoDB's Developer Guide does ("DynamoDB item sizes and formats").
use Rattle.std.specs.Prelude.{ℕ, suc, ◌+◌, ◌-◌, nat_le, if◌then◌else◌, Option, Some, None, ◌/◌, max, ℤ, nat_abs, List, length, sum_by}
use Rattle.alt_decimal.specs.Digits.{digit_count}
use Rattle.alt_value.specs.Tree.{Tree, S_tree, N_tree, B_tree, BOOL_tree, NULL_tree, SS_tree, NS_tree, BS_tree, L_tree, M_tree, Trees, no_trees, tree_then, Fields, no_fields, field_then, Pair, fields_of, elements, pairs}

-- 1, and half the digits rounded up
abbrev pub number_size : ℤ → ℕ
number_size z = 1 + (digit_count (nat_abs z) + 1) / 2

-- A list or a map counts 3, 1 for each element, and its elements; each name in a map counts its bytes.
abbrev mutual
  pub size : Tree → ℕ
  size (S_tree s) = length s
  size (N_tree z) = number_size z
  size (B_tree b) = length b
  size (BOOL_tree b) = 1
  size NULL_tree = 1
  size (SS_tree ss) = sum_by length ss
  size (NS_tree zs) = sum_by number_size zs
  size (BS_tree bs) = sum_by length bs
  size (L_tree ts) = 3 + length (elements ts) + elements_size ts
  size (M_tree fs) = 3 + length (pairs fs) + fields_size fs

  -- the sum of the elements of a list
  pub elements_size : Trees → ℕ
  elements_size no_trees = 0
  elements_size (tree_then t ts) = size t + elements_size ts

  -- the sum of the names and values of a map
  pub fields_size : Fields → ℕ
  fields_size no_fields = 0
  fields_size (field_then name t fs) = length name + size t + fields_size fs

-- the names and the values
abbrev pub item_size : List Pair → ℕ
item_size item = fields_size (fields_of item)

-- A list or a map is one deeper than its deepest element, and 1 where it is empty.
abbrev mutual
  pub depth : Tree → ℕ
  depth (S_tree s) = 0
  depth (N_tree z) = 0
  depth (B_tree b) = 0
  depth (BOOL_tree b) = 0
  depth NULL_tree = 0
  depth (SS_tree ss) = 0
  depth (NS_tree zs) = 0
  depth (BS_tree bs) = 0
  depth (L_tree ts) = suc (elements_depth ts)
  depth (M_tree fs) = suc (fields_depth fs)

  -- the depth of the deepest element of a list, and 0 where there is none
  pub elements_depth : Trees → ℕ
  elements_depth no_trees = 0
  elements_depth (tree_then t ts) = max (depth t) (elements_depth ts)

  -- the same of the values of a map
  pub fields_depth : Fields → ℕ
  fields_depth no_fields = 0
  fields_depth (field_then name t fs) = max (depth t) (fields_depth fs)

-- a size, where it is at most so much
abbrev pub within : ℕ → ℕ → Option ℕ
within most n = if nat_le n most then Some n else None

-- what is left of a budget, where it is enough
abbrev pub left_after : ℕ → ℕ → Option ℕ
left_after budget n = if nat_le n budget then Some (budget - n) else None
