-- The JSON tree that a value is written as: one for each value, sets in value order.
use Rattle.std.specs.Prelude.{ℕ, true, List, [], ◌∷◌, map, codes}
use Rattle.base64.specs.Engines.{standard}
use Rattle.base64.specs.GeneralPurpose.{encode_of}
use Rattle.serde_json.specs.Data.{Data, boolean, string, array, object, Items, no_items, item, Members, no_members, member}
use Rattle.alt_decimal.specs.Printed.{printed}
use Rattle.alt_value.specs.Tree.{Tree, S_tree, N_tree, B_tree, BOOL_tree, NULL_tree, SS_tree, NS_tree, BS_tree, L_tree, M_tree, Trees, no_trees, tree_then, Fields, no_fields, field_then, Pair, fields_of}

-- an object of one member, a kind and its payload
abbrev pub of_kind : List ℕ → Data → Data
of_kind kind payload = object (member kind payload no_members)

-- an array of texts
abbrev pub strings : List (List ℕ) → Items
strings [] = no_items
strings (s ∷ ss) = item (string s) (strings ss)

-- kind by kind; a number in plain notation, a binary in padded base64
abbrev mutual
  pub json_of : Tree → Data
  json_of (S_tree s) = of_kind (codes "S") (string s)
  json_of (N_tree z) = of_kind (codes "N") (string (printed z))
  json_of (B_tree b) = of_kind (codes "B") (string (encode_of standard b))
  json_of (BOOL_tree b) = of_kind (codes "BOOL") (boolean b)
  json_of NULL_tree = of_kind (codes "NULL") (boolean true)
  json_of (SS_tree ss) = of_kind (codes "SS") (array (strings ss))
  json_of (NS_tree zs) = of_kind (codes "NS") (array (strings (map printed zs)))
  json_of (BS_tree bs) = of_kind (codes "BS") (array (strings (map (encode_of standard) bs)))
  json_of (L_tree ts) = of_kind (codes "L") (array (json_items ts))
  json_of (M_tree fs) = of_kind (codes "M") (object (json_members fs))

  -- the elements of a list, each as its value is written
  pub json_items : Trees → Items
  json_items no_trees = no_items
  json_items (tree_then t ts) = item (json_of t) (json_items ts)

  -- the names of a map, each with its value as that is written
  pub json_members : Fields → Members
  json_members no_fields = no_members
  json_members (field_then name t fs) = member name (json_of t) (json_members fs)

-- an item is written as the object of its names
abbrev pub json_of_pairs : List Pair → Data
json_of_pairs pairs = object (json_members (fields_of pairs))
