-- Which trees are values, and which items are items of values (DynamoDB API Reference, "AttributeValue"): what a program can hold.
-- A set may be empty in a value; that none is, as in all that is stored and sent, is told beside it.
use Rattle.std.specs.Prelude.{ℕ, Bool, true, false, ◌&&◌, T, List, [], ◌∷◌}
use Rattle.std.specs.List.{AllByRecursion}
use Rattle.std.specs.Ordering.{int_cmp}
use Rattle.std.specs.Str.{IsUtf8}
use Rattle.std.specs.declared.cmp.Ordering.{Ordering}
use Rattle.alt_decimal.specs.Number.{FitsDecimal}
use Rattle.alt_fields.specs.Bytes.{IsShort, IsBytes}
use Rattle.alt_value.specs.Item.{IsItem}
use Rattle.alt_value.specs.Members.{IsSet, text_order}
use Rattle.alt_value.specs.Tree.{Tree, S_tree, N_tree, B_tree, BOOL_tree, NULL_tree, SS_tree, NS_tree, BS_tree, L_tree, M_tree, Trees, no_trees, tree_then, Fields, no_fields, field_then, Pair, trees_of, fields_of, elements, pairs}

-- a text is UTF-8
abbrev pub IsText : List ℕ → Type 0
IsText s = IsUtf8 s × IsShort s

-- the members of a set: each is of one kind, and they rise without repeats
abbrev pub AreMembers : {K : Type 0} → (K → Type 0) → (K → K → Ordering) → List K → Type 0
AreMembers P R ks = AllByRecursion P ks × IsSet R ks × IsShort ks

-- At every level texts and names are UTF-8, numbers are such as a `Decimal` holds, binaries are bytes, the members of a set rise, and
-- so do the names of a map, of which none is empty.
abbrev mutual
  pub IsValue : Tree → Type 0
  IsValue (S_tree s) = IsText s
  IsValue (N_tree z) = FitsDecimal z
  IsValue (B_tree b) = IsBytes b
  IsValue (BOOL_tree b) = Unit {0}
  IsValue NULL_tree = Unit {0}
  IsValue (SS_tree ss) = AreMembers IsText text_order ss
  IsValue (NS_tree zs) = AreMembers FitsDecimal int_cmp zs
  IsValue (BS_tree bs) = AreMembers IsBytes text_order bs
  IsValue (L_tree ts) = AreValues ts × IsShort (elements ts)
  IsValue (M_tree fs) = IsItem (pairs fs) × AreFields fs × IsShort (pairs fs)

  -- each element of a list is a value
  pub AreValues : Trees → Type 0
  AreValues no_trees = Unit {0}
  AreValues (tree_then t ts) = IsValue t × AreValues ts

  -- each name of a map is a text, and has a value
  pub AreFields : Fields → Type 0
  AreFields no_fields = Unit {0}
  AreFields (field_then name t fs) = IsText name × IsValue t × AreFields fs

-- the elements of a list: each is a value
abbrev pub IsListOfValues : List Tree → Type 0
IsListOfValues ts = AreValues (trees_of ts) × IsShort ts

-- an item is the pairs of a map: its names rise, none is empty, each is a text and has a value
pub record IsItemOfValues (item : List Pair) : Type 0 where
  pub names : IsItem item
  pub fields : AreFields (fields_of item)
  pub count : IsShort item

-- a set with one member at least
abbrev pub is_nonempty_set : {K : Type 0} → List K → Bool
is_nonempty_set [] = false
is_nonempty_set (k ∷ ks) = true

-- no set in the value is empty
abbrev mutual
  pub sets_full : Tree → Bool
  sets_full (S_tree s) = true
  sets_full (N_tree z) = true
  sets_full (B_tree b) = true
  sets_full (BOOL_tree b) = true
  sets_full NULL_tree = true
  sets_full (SS_tree ss) = is_nonempty_set ss
  sets_full (NS_tree zs) = is_nonempty_set zs
  sets_full (BS_tree bs) = is_nonempty_set bs
  sets_full (L_tree ts) = elements_full ts
  sets_full (M_tree fs) = fields_full fs

  -- nor in an element of a list
  pub elements_full : Trees → Bool
  elements_full no_trees = true
  elements_full (tree_then t ts) = sets_full t && elements_full ts

  -- nor in a value of a map
  pub fields_full : Fields → Bool
  fields_full no_fields = true
  fields_full (field_then name t fs) = sets_full t && fields_full fs

-- a value as it is stored and sent: no set in it is empty
abbrev pub IsWhole : Tree → Type 0
IsWhole t = IsValue t × T (sets_full t)

-- an item as it is stored and sent
abbrev pub IsWholeItem : List Pair → Type 0
IsWholeItem item = IsItemOfValues item × T (fields_full (fields_of item))
