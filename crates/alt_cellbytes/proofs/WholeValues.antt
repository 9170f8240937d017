-- A value that is stored or sent has cell bytes, and no set is empty in one that has them.
use Rattle.std.proofs.Common.{ap, ◌<◌, ◌≤◌, T, List, [], ◌∷◌, ◌++◌, length, length-append, arith}
use Rattle.std.specs.List.{flat_map}
use Rattle.alt_base.proofs.Bools.{both_hold, first_holds, second_holds}
use Rattle.alt_fields.specs.Bytes.{IsShort, IsBytes}
use Rattle.alt_fields.specs.Field.{field}
use Rattle.alt_fields.proofs.Apart.{all_map}
use Rattle.alt_value.specs.CellBytes.{cell_bytes, counted}
use Rattle.alt_value.specs.Size.{depth, elements_depth, fields_depth}
use Rattle.alt_value.specs.Tree.{Tree, S_tree, N_tree, B_tree, BOOL_tree, NULL_tree, SS_tree, NS_tree, BS_tree, L_tree, M_tree, Trees, no_trees, tree_then, Fields, no_fields, field_then, elements, pairs}
use Rattle.alt_value.specs.Values.{IsValue, AreValues, AreFields, is_nonempty_set, sets_full, elements_full, fields_full, IsWhole}
use Rattle.alt_cellbytes.specs.Places.{entry_bytes}
use Rattle.alt_cellbytes.specs.Values.{HasBytes, HaveBytes, FieldsHaveBytes}
use Rattle.alt_cellbytes.proofs.Apart.{list_front, map_front}

-- a set with a member, by its test and by its count
some_member : {K : Type 0} (ks : List K) → T (is_nonempty_set ks) → 0 < length ks
some_member [] h = absurd h
some_member (k ∷ ks) h = omega arith

is_some : {K : Type 0} (ks : List K) → 0 < length ks → T (is_nonempty_set ks)
is_some [] h = absurd (omega arith)
is_some (k ∷ ks) h = tt

mutual
  has_bytes : (t : Tree) → IsValue t → T (sets_full t) → HasBytes t
  has_bytes (S_tree s) v full = v
  has_bytes (N_tree z) v full = v
  has_bytes (B_tree b) v full = v.1
  has_bytes (BOOL_tree b) v full = tt
  has_bytes NULL_tree v full = tt
  has_bytes (SS_tree ss) v full = (some_member ss full, v.2, (v.0, v.1))
  has_bytes (NS_tree zs) v full = (some_member zs full, v.2, (v.0, v.1))
  has_bytes (BS_tree bs) v full = (
    some_member bs full,
    v.2,
    (all_map IsBytes IsShort bs (λ b h. h.1) v.0, v.1),
  )
  has_bytes (L_tree ts) v full = (v.1, have_bytes ts v.0 full)
  has_bytes (M_tree fs) v full = (v.2, v.0, fields_have fs v.1 full)

  have_bytes : (ts : Trees) → AreValues ts → T (elements_full ts) → HaveBytes ts
  have_bytes no_trees v full = tt
  have_bytes (tree_then t ts) v full = (
    has_bytes t v.0 (first_holds (sets_full t) (elements_full ts) full),
    have_bytes ts v.1 (second_holds (sets_full t) (elements_full ts) full),
  )

  fields_have : (fs : Fields) → AreFields fs → T (fields_full fs) → FieldsHaveBytes fs
  fields_have no_fields v full = tt
  fields_have (field_then name t fs) v full = (
    v.0,
    has_bytes t v.1 (first_holds (sets_full t) (fields_full fs) full),
    fields_have fs v.2 (second_holds (sets_full t) (fields_full fs) full),
  )

-- a value that is stored or sent has cell bytes
pub whole_has : (t : Tree) → IsWhole t → HasBytes t
whole_has t w = has_bytes t w.0 w.1

-- in a value that has cell bytes no set is empty
mutual
  pub full_of : (t : Tree) → HasBytes t → T (sets_full t)
  full_of (S_tree s) h = tt
  full_of (N_tree z) h = tt
  full_of (B_tree b) h = tt
  full_of (BOOL_tree b) h = tt
  full_of NULL_tree h = tt
  full_of (SS_tree ss) h = is_some ss h.0
  full_of (NS_tree zs) h = is_some zs h.0
  full_of (BS_tree bs) h = is_some bs h.0
  full_of (L_tree ts) h = full_elements ts h.1
  full_of (M_tree fs) h = full_fields fs h.2

  -- nor in its elements or the values of its names
  full_elements : (ts : Trees) → HaveBytes ts → T (elements_full ts)
  full_elements no_trees h = tt
  full_elements (tree_then t ts) h = both_hold (sets_full t) (elements_full ts) (full_of t h.0)
      (full_elements ts h.1)

  full_fields : (fs : Fields) → FieldsHaveBytes fs → T (fields_full fs)
  full_fields no_fields h = tt
  full_fields (field_then name t fs) h = both_hold (sets_full t) (fields_full fs) (full_of t h.1)
      (full_fields fs h.2)

-- each level of a value takes a byte at least
mutual
  -- so its depth is no more than its bytes
  pub depth-short : (t : Tree) → depth t ≤ length (cell_bytes t)
  depth-short (S_tree s) = omega arith
  depth-short (N_tree z) = omega arith
  depth-short (B_tree b) = omega arith
  depth-short (BOOL_tree b) = omega arith
  depth-short NULL_tree = omega arith
  depth-short (SS_tree ss) = omega arith
  depth-short (NS_tree zs) = omega arith
  depth-short (BS_tree bs) = omega arith
  depth-short (L_tree ts) =
      let n = length (elements ts) in
      let behind = flat_map cell_bytes (elements ts) in
      omega (
        arith,
        elements-short ts,
        ap length (list_front ts []),
        length-append (cell_bytes (L_tree ts)) [],
        length-append (counted n) (behind ++ []),
        length-append behind [],
      )
  depth-short (M_tree fs) =
      let n = length (pairs fs) in
      let behind = flat_map entry_bytes (pairs fs) in
      omega (
        arith,
        fields-short fs,
        ap length (map_front fs []),
        length-append (cell_bytes (M_tree fs)) [],
        length-append (counted n) (behind ++ []),
        length-append behind [],
      )

  -- nor is that of elements or of fields
  elements-short : (ts : Trees) → elements_depth ts ≤ length (flat_map cell_bytes (elements ts))
  elements-short no_trees = omega arith
  elements-short (tree_then t ts) =
      omega (
        arith,
        depth-short t,
        elements-short ts,
        length-append (cell_bytes t) (flat_map cell_bytes (elements ts)),
      )

  fields-short : (fs : Fields) → fields_depth fs ≤ length (flat_map entry_bytes (pairs fs))
  fields-short no_fields = omega arith
  fields-short (field_then name t fs) =
      omega (
        arith,
        depth-short t,
        fields-short fs,
        length-append (entry_bytes (name, t)) (flat_map entry_bytes (pairs fs)),
        length-append (field name) (cell_bytes t),
      )
