-- No other value's cell bytes stand where a value's do.
use Rattle.std.proofs.Common.{◌≡◌, refl, sym, ap, subst, ◌∙◌, ℕ, ◌<◌, ◌^◌, List, ◌∷◌, ◌++◌, length, arith, append_assoc}
use Rattle.std.specs.Prelude.{ℤ, Bool, true, false}
use Rattle.std.specs.List.{AllByRecursion, flat_map}
use Rattle.std.specs.Ordering.{int_cmp}
use Rattle.alt_base.proofs.Lists.{cons_rest, cons_first}
use Rattle.alt_decimal.specs.Number.{FitsDecimal}
use Rattle.alt_decimal.specs.Spelled.{spelled}
use Rattle.alt_fields.specs.Field.{field}
use Rattle.alt_value.specs.CellBytes.{cell_bytes, counted, truth_byte}
use Rattle.alt_value.specs.Members.{text_order}
use Rattle.alt_value.specs.Tree.{Tree, S_tree, N_tree, B_tree, BOOL_tree, NULL_tree, SS_tree, NS_tree, BS_tree, L_tree, M_tree, Trees, no_trees, tree_then, Fields, no_fields, field_then, Pair, trees_of, fields_of, elements, pairs}
use Rattle.alt_cellbytes.specs.Places.{entry_bytes, IsMapEntry}
use Rattle.alt_fields.specs.Bytes.{IsShort}
use Rattle.alt_value.specs.Values.{IsText}
use Rattle.alt_cellbytes.specs.Values.{IsWholeSet, HasBytes, HaveBytes, FieldsHaveBytes}
use Rattle.alt_decimal.proofs.Normals.{spelled_apart}
use Rattle.alt_value.proofs.Trees.{elements-trees_of, pairs-fields_of, fields_of-pairs, trees_of-elements}
use Rattle.alt_cellbytes.proofs.Shapes.{kind_of, behind_count, list_bytes, map_bytes, texts_bytes, numbers_bytes-set, binaries_bytes, all_values, all_entries}
use Rattle.alt_fields.proofs.Apart.{IsApart, same_many, number-apart, field-apart, all_map}

-- fields of texts and byte strings, and spelled numbers, are apart
pub text_apart : (s : List ℕ) → IsText s → IsApart field IsText s
text_apart s h = λ t x y k e. field-apart s t x y h.1 k.1 e

-- so are fields of byte strings
pub binary_apart : (s : List ℕ) → IsShort s → IsApart field IsShort s
binary_apart s h = λ t x y k e. field-apart s t x y h k e

-- and spelled numbers
pub number_apart : (z : ℤ) → FitsDecimal z → IsApart spelled FitsDecimal z
number_apart z h = λ v x y k e. spelled_apart z v x y h k e

-- behind counts, members and what follows them
pub counted_many : {K : Type 0} (spell : K → List ℕ) (P : K → Type 0) (ks ls : List K)
    (x y : List ℕ) → length ks < 2 ^ 64 → length ls < 2 ^ 64
    → AllByRecursion (IsApart spell P) ks → AllByRecursion P ls
    → behind_count spell ks x ≡ behind_count spell ls y → (ks ≡ ls) × (x ≡ y)
counted_many spell P ks ls x y m n a b e =
    let c = number-apart (length ks) (length ls) (flat_map spell ks ++ x)
    (flat_map spell ls ++ y) m n e in
    same_many spell P ks ls x y a b c.0 c.1

-- so are truth bytes
truths_apart : (a b : Bool) (x y : List ℕ) → truth_byte a ∷ x ≡ truth_byte b ∷ y → (a ≡ b) × (x ≡ y)
truths_apart true true x y e = (refl, cons_rest 1 1 x y e)
truths_apart false false x y e = (refl, cons_rest 0 0 x y e)
truths_apart true false x y e = absurd (omega (arith, cons_first 1 0 x y e))
truths_apart false true x y e = absurd (omega (arith, cons_first 0 1 x y e))

-- a list's or a map's own bytes, with its members as a list
pub list_front : (ts : Trees) (x : List ℕ) → cell_bytes (L_tree ts) ++ x
    ≡ 9 ∷ behind_count cell_bytes (elements ts) x
list_front ts x =
    ap (λ us. cell_bytes (L_tree us) ++ x) (sym (trees_of-elements ts))
    ∙ ap (λ s. s ++ x) (list_bytes (elements ts))
    ∙ ap (λ s. 9 ∷ s) (append_assoc (counted (length (elements ts)))
    (flat_map cell_bytes (elements ts)) x)

-- and a map's, with its entries as a list
pub map_front : (fs : Fields) (x : List ℕ) → cell_bytes (M_tree fs) ++ x
    ≡ 10 ∷ behind_count entry_bytes (pairs fs) x
map_front fs x =
    ap (λ gs. cell_bytes (M_tree gs) ++ x) (sym (fields_of-pairs fs))
    ∙ ap (λ s. s ++ x) (map_bytes (pairs fs))
    ∙ ap (λ s. 10 ∷ s) (append_assoc (counted (length (pairs fs)))
    (flat_map entry_bytes (pairs fs)) x)

-- an entry is apart where its value is
entry_apart : (name : List ℕ) (t : Tree) → IsText name → IsApart cell_bytes HasBytes t
    → IsApart entry_bytes IsMapEntry (name, t)
entry_apart name t h a = λ q x y k e.
    let f = field-apart name q.0 (cell_bytes t ++ x) (cell_bytes q.1 ++ y) h.1 k.0.1
    (sym (append_assoc (field name) (cell_bytes t) x) ∙ e
    ∙ append_assoc (field q.0) (cell_bytes q.1) y) in
    let g = a q.1 x y k.1 f.1 in
    (rw (f.0, g.0) refl, g.1)

-- so values are, kind by kind
mutual
  -- whatever follows a value, no other one stands there
  pub value_apart : (t : Tree) → HasBytes t → IsApart cell_bytes HasBytes t
  value_apart (S_tree s) h = λ u x y k e.
      let d = kind_of u 1 (field s ++ x) y e in
      let f = field-apart s d.0 x y h.1 (subst HasBytes d.1 k).1 d.2 in
      (ap S_tree f.0 ∙ sym d.1, f.1)
  value_apart (N_tree z) h = λ u x y k e.
      let d = kind_of u 2 (spelled z ++ x) y e in
      let f = spelled_apart z d.0 x y h (subst HasBytes d.1 k) d.2 in
      (ap N_tree f.0 ∙ sym d.1, f.1)
  value_apart (B_tree b) h = λ u x y k e.
      let d = kind_of u 3 (field b ++ x) y e in
      let f = field-apart b d.0 x y h (subst HasBytes d.1 k) d.2 in
      (ap B_tree f.0 ∙ sym d.1, f.1)
  value_apart (BOOL_tree b) h = λ u x y k e.
      let d = kind_of u 4 (truth_byte b ∷ x) y e in
      let f = truths_apart b d.0 x y d.2 in
      (ap BOOL_tree f.0 ∙ sym d.1, f.1)
  value_apart NULL_tree h = λ u x y k e.
      let d = kind_of u 5 x y e in
      (sym d.0, d.1)
  value_apart (SS_tree ss) h = λ u x y k e.
      let d = kind_of u 6 (behind_count field ss x) y
      (sym (ap (λ s. s ++ x) (texts_bytes ss)
      ∙ ap (λ s. 6 ∷ s) (append_assoc (counted (length ss)) (flat_map field ss) x)) ∙ e) in
      let w : IsWholeSet IsText text_order d.0 = subst HasBytes d.1 k in
      let f = counted_many field IsText ss d.0 x y h.1 w.1
      (all_map IsText (IsApart field IsText) ss text_apart h.2.0) w.2.0 d.2 in
      (ap SS_tree f.0 ∙ sym d.1, f.1)
  value_apart (NS_tree zs) h = λ u x y k e.
      let d = kind_of u 7 (behind_count spelled zs x) y
      (sym (ap (λ s. s ++ x) (numbers_bytes-set zs)
      ∙ ap (λ s. 7 ∷ s) (append_assoc (counted (length zs)) (flat_map spelled zs) x)) ∙ e) in
      let w : IsWholeSet FitsDecimal int_cmp d.0 = subst HasBytes d.1 k in
      let f = counted_many spelled FitsDecimal zs d.0 x y h.1 w.1
      (all_map FitsDecimal (IsApart spelled FitsDecimal) zs number_apart h.2.0) w.2.0 d.2 in
      (ap NS_tree f.0 ∙ sym d.1, f.1)
  value_apart (BS_tree bs) h = λ u x y k e.
      let d = kind_of u 8 (behind_count field bs x) y
      (sym (ap (λ s. s ++ x) (binaries_bytes bs)
      ∙ ap (λ s. 8 ∷ s) (append_assoc (counted (length bs)) (flat_map field bs) x)) ∙ e) in
      let w : IsWholeSet IsShort text_order d.0 = subst HasBytes d.1 k in
      let f = counted_many field IsShort bs d.0 x y h.1 w.1
      (all_map IsShort (IsApart field IsShort) bs binary_apart h.2.0) w.2.0 d.2 in
      (ap BS_tree f.0 ∙ sym d.1, f.1)
  value_apart (L_tree ts) h = λ u x y k e.
      let d = kind_of u 9 (behind_count cell_bytes (elements ts) x) y (sym (list_front ts x) ∙ e) in
      let w = subst HasBytes d.1 k in
      let n : length d.0 < 2 ^ 64 = subst (λ us. length us < 2 ^ 64) (elements-trees_of d.0) w.0 in
      let f = counted_many cell_bytes HasBytes (elements ts) d.0 x y h.0 n (values_apart ts h.1)
      (all_values d.0 w.1) d.2 in
      (sym (ap L_tree (trees_of-elements ts)) ∙ ap (λ us. L_tree (trees_of us)) f.0 ∙ sym d.1, f.1)
  value_apart (M_tree fs) h = λ u x y k e.
      let d = kind_of u 10 (behind_count entry_bytes (pairs fs) x) y (sym (map_front fs x) ∙ e) in
      let w = subst HasBytes d.1 k in
      let n : length d.0 < 2 ^ 64 = subst (λ qs. length qs < 2 ^ 64) (pairs-fields_of d.0) w.0 in
      let f = counted_many entry_bytes IsMapEntry (pairs fs) d.0 x y h.0 n (fields_apart fs h.2)
      (all_entries d.0 w.2) d.2 in
      (sym (ap M_tree (fields_of-pairs fs)) ∙ ap (λ qs. M_tree (fields_of qs)) f.0 ∙ sym d.1, f.1)

  -- nor where an element of a list or an entry of a map does
  values_apart : (ts : Trees) → HaveBytes ts → AllByRecursion (IsApart cell_bytes HasBytes)
      (elements ts)
  values_apart no_trees h = tt
  values_apart (tree_then t ts) h = (value_apart t h.0, values_apart ts h.1)

  fields_apart : (fs : Fields) → FieldsHaveBytes fs
      → AllByRecursion (IsApart entry_bytes IsMapEntry) (pairs fs)
  fields_apart no_fields h = tt
  fields_apart (field_then name t fs) h = (
    entry_apart name t h.0 (value_apart t h.1),
    fields_apart fs h.2,
  )

-- so each entry is
pub pair_apart : (p : Pair) → IsMapEntry p → IsApart entry_bytes IsMapEntry p
pair_apart p h = entry_apart p.0 p.1 h.0 (value_apart p.1 h.1)

-- whatever follows them, cell bytes are those of one value
pub cell_bytes-apart : (t u : Tree) (x y : List ℕ) → HasBytes t → HasBytes u
    → cell_bytes t ++ x ≡ cell_bytes u ++ y
    → (t ≡ u) × (x ≡ y)
cell_bytes-apart t u x y h k e = value_apart t h u x y k e
