-- Lists and maps that are whole, and the places that `attr_of` names.
use Rattle.std.proofs.Common.{◌≡◌, sym, ap, subst, ◌∙◌, ℕ, ◌-◌, ◌<◌, ◌≤◌, ◌^◌, List, [], ◌∷◌, ◌++◌, length, inl, inr, arith, append_assoc, length-append, Result, OnOk}
use Rattle.std.specs.List.{AllByRecursion, flat_map}
use Rattle.std.proofs.lemmas.Result.{on_ok_weaker}
use Rattle.std.proofs.lemmas.List.{append-nil}
use Rattle.alt_value.specs.CellBytes.{cell_bytes, counted}
use Rattle.alt_value.specs.Item.{IsItem}
use Rattle.alt_value.specs.Tree.{Tree, L_tree, M_tree, Pair, trees_of, fields_of}
use Rattle.alt_cellbytes.specs.Places.{AreMapEntries, entry_bytes, ValueStops, TooDeep, IsBadValueAt, IsDeepAt, IsFirstDeepAt}
use Rattle.alt_cellbytes.specs.Values.{HasBytes}
use Rattle.alt_cellbytes.proofs.Apart.{cell_bytes-apart}
use Rattle.alt_value.proofs.Trees.{elements-trees_of, pairs-fields_of}
use Rattle.alt_cellbytes.proofs.Shapes.{list_bytes, map_bytes, values_all, entries_all}
use Rattle.alt_cellbytes.proofs.Stopped.{stops-refuted}
use Rattle.alt_cellbytes.proofs.StopsWithin.{stops-left, deep-left}

-- ---- written

-- a list that was written
pub put_list : {T E : Type 0} (r : Result T E) (ts : List Tree) (t : Tree) (old new : List ℕ)
    → t ≡ L_tree (trees_of ts)
    → OnOk r (new ≡ old ++ 9 ∷ (counted (length ts) ++ flat_map cell_bytes ts))
    → OnOk r (new ≡ old ++ cell_bytes t)
put_list r ts t old new is h = on_ok_weaker r
    (λ e. e ∙ ap (λ s. old ++ s) (sym (list_bytes ts) ∙ ap cell_bytes (sym is))) h

-- and a map that was
pub put_map : {T E : Type 0} (r : Result T E) (ps : List Pair) (t : Tree) (old new : List ℕ)
    → t ≡ M_tree (fields_of ps)
    → OnOk r (new ≡ old ++ 10 ∷ (counted (length ps) ++ flat_map entry_bytes ps))
    → OnOk r (new ≡ old ++ cell_bytes t)
put_map r ps t old new is h = on_ok_weaker r (λ e. e
    ∙ ap (λ s. old ++ s) (sym (map_bytes ps) ∙ ap cell_bytes (sym is))) h

-- ---- read

-- a list that was read
pub list_whole : (ts : List Tree) (count : ℕ) (bytes rest behind : List ℕ) → count < 2 ^ 64
    → bytes ≡ counted count ++ rest → length ts ≡ count
    → AllByRecursion HasBytes ts → rest ≡ flat_map cell_bytes ts ++ behind
    → HasBytes (L_tree (trees_of ts)) × (9 ∷ bytes ≡ cell_bytes (L_tree (trees_of ts)) ++ behind)
list_whole ts count bytes rest behind small is n are there = (
  (
    subst (λ us. length us < 2 ^ 64) (sym (elements-trees_of ts)) (omega (arith, small, n)),
    values_all ts are,
  ),
  ap (λ s. 9 ∷ s) (is ∙ ap (λ k. counted k ++ rest) (sym n)
      ∙ ap (λ s. counted (length ts) ++ s) there
      ∙ sym (append_assoc (counted (length ts)) (flat_map cell_bytes ts) behind))
      ∙ ap (λ s. s ++ behind) (sym (list_bytes ts)),
)

-- and a map that was
pub map_whole : (ps : List Pair) (count : ℕ) (bytes rest behind : List ℕ) → count < 2 ^ 64
    → bytes ≡ counted count ++ rest → length ps ≡ count
    → AreMapEntries ps → rest ≡ flat_map entry_bytes ps ++ behind
    → HasBytes (M_tree (fields_of ps)) × (10 ∷ bytes ≡ cell_bytes (M_tree (fields_of ps)) ++ behind)
map_whole ps count bytes rest behind small is n are there = (
  (
    subst (λ qs. length qs < 2 ^ 64) (sym (pairs-fields_of ps)) (omega (arith, small, n)),
    subst IsItem (sym (pairs-fields_of ps)) are.1,
    entries_all ps are.0,
  ),
  ap (λ s. 10 ∷ s) (is ∙ ap (λ k. counted k ++ rest) (sym n)
      ∙ ap (λ s. counted (length ps) ++ s) there
      ∙ sym (append_assoc (counted (length ps)) (flat_map entry_bytes ps) behind))
      ∙ ap (λ s. s ++ behind) (sym (map_bytes ps)),
)

-- ---- places

-- the bytes are those of no value that has cell bytes
abbrev pub NoneHas : List ℕ → Type 0
NoneHas bytes = (t : Tree) → HasBytes t → bytes ≡ cell_bytes t → ⊥

-- the place of a stop
pub stop_place : (bytes : List ℕ) (left at : ℕ) → ValueStops bytes left → at ≡ length bytes - left
    → IsBadValueAt bytes at × NoneHas bytes
stop_place bytes left at s e = (
  inl (left, s, omega (arith, e, stops-left bytes left s)),
  (λ t v is. stops-refuted bytes left s t [] v (is ∙ sym (append-nil (cell_bytes t)))),
)

-- and of what stands behind a whole value
pub behind_place : (bytes rest : List ℕ) (t : Tree) (at : ℕ) → HasBytes t
    → bytes ≡ cell_bytes t ++ rest → 0 < length rest → at ≡ length bytes - length rest
    → IsBadValueAt bytes at × NoneHas bytes
behind_place bytes rest t at v is some e = (
  inr (t, v, rest, some, is, omega (arith, e, ap length is, length-append (cell_bytes t) rest)),
  (λ u w here. omega (
    arith,
    some,
    ap length (cell_bytes-apart t u rest [] v w
        (sym is ∙ here ∙ sym (append-nil (cell_bytes u)))).1,
  )),
)

-- the place of what is nested too deep
pub deep_place : (most : ℕ) (bytes : List ℕ) (left at : ℕ) → TooDeep most bytes left
    → at ≡ length bytes - left
    → IsDeepAt most bytes at
deep_place most bytes left at s e = (left, s, omega (arith, e, deep-left most bytes left s))

-- the first such place, where no other is further from the end
pub first_place : (most : ℕ) (bytes : List ℕ) (left at : ℕ) → TooDeep most bytes left
    → ((n : ℕ) → TooDeep most bytes n → n ≤ left) → at ≡ length bytes - left
    → IsFirstDeepAt most bytes at
first_place most bytes left at s told e = (
  deep_place most bytes left at s e,
  (λ n d. omega (arith, e, told d.0 d.1, d.2)),
)

-- the value that was read is the only one
pub same_read : (bytes : List ℕ) (t u : Tree) → HasBytes t → HasBytes u → bytes ≡ cell_bytes t
    → bytes ≡ cell_bytes u → t ≡ u
same_read bytes t u v w e f = (cell_bytes-apart t u [] [] v w (ap (λ s. s ++ []) (sym e ∙ f))).0

-- the whole bytes, and whether something is behind
pub nothing_left : (bytes rest : List ℕ) (t : Tree) → bytes ≡ cell_bytes t ++ rest → length rest ≡ 0
    → bytes ≡ cell_bytes t
nothing_left bytes [] t e n = e ∙ append-nil (cell_bytes t)
nothing_left bytes (b ∷ rest) t e n = absurd (omega (arith, n))
