-- Rows taken one by one: the last key of them, and their compaction.
use Rattle.std.proofs.Common.{◌≡◌, ℕ, ◌≤◌, zero, suc, Bool, true, false, T, List, [], ◌∷◌, ◌++◌, Some, refl, sym, ap, ◌∙◌, take, drop, append_assoc, arith}
use Rattle.std.proofs.lemmas.List.{append-nil}
use Rattle.std.specs.Prelude.{if◌then◌else◌}
use Rattle.std.specs.FinMap.Entries.{is_sorted, below_all}
use Rattle.alt_base.proofs.Bools.{both_hold, first_holds, second_holds}
use Rattle.alt_cells.specs.declared.row.RowCells.{RowCells}
use Rattle.alt_cells.specs.Keys.{key_cmp}
use Rattle.alt_cells.specs.Compacted.{compacted, compacted_row, entry_compacted, is_bare}
use Rattle.alt_cells.specs.Walks.{RowList}
use Rattle.alt_compact.specs.Jobs.{last_key_from, last_row_key}

last_pushed : (d e : List ℕ × RowCells) (es : RowList) → last_key_from d (es ++ e ∷ []) ≡ e.0
last_pushed d e [] = refl
last_pushed d e (f ∷ es) = last_pushed f e es

-- the last key of one row more is its own
pub last_key_pushed : (taken : RowList) (e : List ℕ × RowCells)
    → last_row_key (taken ++ e ∷ []) ≡ Some e.0
last_key_pushed [] e = refl
last_key_pushed (f ∷ taken) e = ap (λ k. Some k) (last_pushed f e taken)

-- what is left of one row more
pub compacted_pushed : (purge : Bool) (taken : RowList) (e : List ℕ × RowCells)
    → compacted purge (taken ++ e ∷ []) ≡ compacted purge taken ++ entry_compacted purge e
compacted_pushed purge [] e = append-nil (entry_compacted purge e)
compacted_pushed purge (f ∷ taken) e =
    ap (λ l. entry_compacted purge f ++ l) (compacted_pushed purge taken e)
    ∙ sym (append_assoc (entry_compacted purge f) (compacted purge taken) (entry_compacted purge e))

-- a key below rows with one more is below what is left of them with that one
below_pushed : (purge : Bool) (k : List ℕ) (taken : RowList) (q : List ℕ) (v w : RowCells)
    → T (below_all key_cmp k (taken ++ (q, v) ∷ []))
    → T (below_all key_cmp k (compacted purge taken ++ (q, w) ∷ []))
below_pushed purge k [] q v w h = h
below_pushed purge k (e ∷ taken) q v w h =
    let rest = below_pushed purge k taken q v w (second_holds _ _ h) in
    elim (is_bare (compacted_row purge e.1)) as
    (λ b. T (below_all key_cmp k (((if b then [] else ((e.0, compacted_row purge e.1) ∷ []))
    ++ compacted purge taken) ++ (q, w) ∷ []))) [
      | true ↦ rest
      | false ↦ both_hold _ _ (first_holds _ _ h) rest
    ]

-- so they rise with it
pub sorted_pushed : (purge : Bool) (taken : RowList) (q : List ℕ) (v w : RowCells)
    → T (is_sorted key_cmp (taken ++ (q, v) ∷ []))
    → T (is_sorted key_cmp (compacted purge taken ++ (q, w) ∷ []))
sorted_pushed purge [] q v w h = h
sorted_pushed purge (e ∷ taken) q v w h =
    let rest = sorted_pushed purge taken q v w (second_holds _ _ h) in
    elim (is_bare (compacted_row purge e.1)) as
    (λ b. T (is_sorted key_cmp (((if b then [] else ((e.0, compacted_row purge e.1) ∷ []))
    ++ compacted purge taken) ++ (q, w) ∷ []))) [
      | true ↦ rest
      | false ↦ both_hold _ _ (below_pushed purge e.0 taken q v w (first_holds _ _ h)) rest
    ]

take_nil : (n : ℕ) → take {A = List ℕ × RowCells} n [] ≡ []
take_nil zero = refl
take_nil (suc n) = refl

drop_nil : (n : ℕ) → drop {A = List ℕ × RowCells} n [] ≡ []
drop_nil zero = refl
drop_nil (suc n) = refl

-- where a front is all, so is a longer one
pub taken_all : (i n : ℕ) (left : RowList) → i ≤ n → drop i left ≡ []
    → (take n left ≡ take i left) × (drop n left ≡ [])
taken_all i n [] le e = (take_nil n ∙ sym (take_nil i), drop_nil n)
taken_all zero n (x ∷ left) le e = absurd (let f : ⊥ = cc in f)
taken_all (suc i) zero (x ∷ left) le e = absurd (omega arith)
taken_all (suc i) (suc n) (x ∷ left) le e =
    let rest = taken_all i n left (omega arith) e in
    (ap (λ l. x ∷ l) rest.0, rest.1)

one_more : (i : ℕ) (left rest : RowList) (e : List ℕ × RowCells) → drop i left ≡ e ∷ rest
    → (take i left ++ e ∷ [] ≡ take (suc i) left) × (rest ≡ drop (suc i) left)
one_more i [] rest e is = absurd (let f : ⊥ = cc (drop_nil i) in f)
one_more zero (x ∷ left) rest e is =
    let here : e ≡ x = cc in
    let more : rest ≡ left = cc in
    (ap (λ y. y ∷ []) here, more)
one_more (suc i) (x ∷ left) rest e is =
    let more = one_more i left rest e is in
    (ap (λ l. x ∷ l) more.0, more.1)

-- one row more of those that are left
pub taken_more : (i : ℕ) (taken left : RowList) (e : List ℕ × RowCells) (rest : RowList)
    → drop i left ≡ e ∷ rest
    → ((taken ++ take i left) ++ e ∷ [] ≡ taken ++ take (suc i) left) × (rest ≡ drop (suc i) left)
taken_more i taken left e rest is =
    let more = one_more i left rest e is in
    (append_assoc taken (take i left) (e ∷ []) ∙ ap (λ l. taken ++ l) more.0, more.1)
