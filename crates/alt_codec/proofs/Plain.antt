-- No float stands in what is written.
use Rattle.std.proofs.Common.{◌≡◌, refl, ap, ◌∙◌, ℕ, false, List, [], ◌∷◌, map, Result, Ok, Err}
use Rattle.std.specs.Prelude.{IfOk}
use Rattle.alt_base.specs.declared.NoMemory.{NoMemory}
use Rattle.serde_json.specs.View.{view}
use Rattle.serde_json.specs.declared.value.Value.{Value}
use Rattle.std.specs.Prelude.{◌||◌}
use Rattle.serde_json.specs.Written.{has_float, items_have_float, members_have_float}
use Rattle.alt_value.specs.Tree.{Tree, S_tree, N_tree, B_tree, BOOL_tree, NULL_tree, SS_tree, NS_tree, BS_tree, L_tree, M_tree, Trees, no_trees, tree_then, Fields, no_fields, field_then, Pair, fields_of}
use Rattle.base64.specs.Engines.{standard}
use Rattle.base64.specs.GeneralPurpose.{encode_of}
use Rattle.alt_decimal.specs.Printed.{printed}
use Rattle.alt_codec.specs.Writing.{strings, json_of, json_items, json_members, json_of_pairs}

-- no text is a float
pub strings_plain : (ss : List (List ℕ)) → items_have_float (strings ss) ≡ false
strings_plain [] = refl
strings_plain (s ∷ ss) = strings_plain ss

or_false : (b : _) → b ≡ false → (b || false) ≡ false
or_false b e = rw e refl

mutual
  -- nor is what a value is written as
  pub json_plain : (t : Tree) → has_float (json_of t) ≡ false
  json_plain (S_tree s) = refl
  json_plain (N_tree z) = refl
  json_plain (B_tree b) = refl
  json_plain (BOOL_tree b) = refl
  json_plain NULL_tree = refl
  json_plain (SS_tree ss) = or_false _ (strings_plain ss)
  json_plain (NS_tree zs) = or_false _ (strings_plain (map printed zs))
  json_plain (BS_tree bs) = or_false _ (strings_plain (map (encode_of standard) bs))
  json_plain (L_tree ts) = or_false _ (elements_plain ts)
  json_plain (M_tree fs) = or_false _ (fields_plain fs)

  -- nor are the elements of a list
  elements_plain : (ts : Trees) → items_have_float (json_items ts) ≡ false
  elements_plain no_trees = refl
  elements_plain (tree_then t ts) = rw (json_plain t) (elements_plain ts)

  -- nor the values of a map
  pub fields_plain : (fs : Fields) → members_have_float (json_members fs) ≡ false
  fields_plain no_fields = refl
  fields_plain (field_then name t fs) = rw (json_plain t) (fields_plain fs)

-- nor stands one in an item
pub pairs_plain : (ps : List Pair) → has_float (json_of_pairs ps) ≡ false
pairs_plain ps = fields_plain (fields_of ps)

-- nor in what was written, where it was
pub written_plain : (r : Result Value NoMemory) (t : Tree) → IfOk r (λ v. view v ≡ json_of t)
    → IfOk r (λ v. has_float (view v) ≡ false)
written_plain (Ok v) t h = ap has_float h ∙ json_plain t
written_plain (Err e) t h = h
