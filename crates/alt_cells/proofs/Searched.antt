-- Entries whose keys rise, by their places: what a search by halves finds in them.
use Rattle.std.proofs.Common.{◌≡◌, ◌⊎◌, inl, inr, ℕ, zero, suc, ◌+◌, ◌<◌, ◌≤◌, false, cond, T, List, [], ◌∷◌, length, get_or, Some, None, refl, sym, ap, subst, ◌∙◌, arith}
use Rattle.std.proofs.lemmas.Bool.{cases_order}
use Rattle.std.proofs.lemmas.List.{get_or_default}
use Rattle.std.specs.List.{HoldsAt}
use Rattle.std.specs.List.Sorted.{IsNonDecreasingBy}
use Rattle.std.specs.FinMap.{FinMap, get, from_sorted, get-from_sorted, entries, entries_sorted, get-entries}
use Rattle.std.specs.Cmp.{IsTotalOrder, tied_back, tied_itself, alike_right}
use Rattle.std.specs.declared.cmp.Ordering.{Ordering}
use Rattle.std.specs.declared.cmp.Ordering.TheVariants.{Less, Equal, Greater}
use Rattle.std.specs.Ordering.{ordering_index, is_eq}
use Rattle.std.specs.FinMap.Entries.{find, is_sorted, below_all}
use Rattle.alt_base.proofs.Bools.{both_hold, first_holds as first, second_holds}
use Rattle.alt_base.proofs.Orderings.{ordering_index-top, less-holds, is_lt-holds as less}
use Rattle.alt_cells.specs.Keys.{key_cmp}
use Rattle.alt_cells.proofs.CellLaws.{key_total}
use Rattle.alt_cells.proofs.Entries.{below_less}

-- a test that fails at a key that doesn't tie
apart : (r : Ordering) → (r ≡ Equal → ⊥) → is_eq r ≡ false
apart Less h = refl
apart Equal h = absurd (h refl)
apart Greater h = refl

-- what is below y stands no higher to x than y does
index_rises : {K : Type 0} (R : K → K → Ordering) (o : IsTotalOrder R) (e y x : K) (r : Ordering)
    → R e y ≡ Less → R y x ≡ r → ordering_index (R e x) ≤ ordering_index r
index_rises R o e y x Less p q = omega (arith, ap ordering_index (o.trans e y x p q))
index_rises R o e y x Equal p q = omega (arith, ap ordering_index (sym (alike_right o y x e q) ∙ p))
index_rises R o e y x Greater p q = ordering_index-top (R e x)

-- the least index is that of a lower key, and the greatest that of a higher one
index_less : (r : Ordering) → ordering_index r ≤ 0 → r ≡ Less
index_less Less h = refl
index_less Equal h = absurd (omega arith)
index_less Greater h = absurd (omega arith)

index_greater : (r : Ordering) → 2 ≤ ordering_index r → r ≡ Greater
index_greater Less h = absurd (omega arith)
index_greater Equal h = absurd (omega arith)
index_greater Greater h = refl

-- what ties is neither below nor above
neither : (r : Ordering) → r ≡ Equal → (r ≡ Less) ⊎ (r ≡ Greater) → ⊥
neither r e (inl l) = cc
neither r e (inr g) = cc

module _ {K X : Type 0} (R : K → K → Ordering) (o : IsTotalOrder R) where
  -- a key below all is below that at each place
  below_place : (x : K) (es : List (K × X)) (k : ℕ) (d : K × X) → T (below_all R x es)
      → k < length es
      → R x (get_or es k d).0 ≡ Less
  below_place x [] k d h within = absurd (omega arith)
  below_place x (e ∷ es) zero d h within = less _ (first _ _ h)
  below_place x (e ∷ es) (suc k) d h within =
      below_place x es k d (second_holds _ _ h) (omega arith)

  -- so a search by halves may look for a key
  pub searchable : (x : K) (es : List (K × X)) → T (is_sorted R es)
      → IsNonDecreasingBy (λ e. ordering_index (R e.0 x)) es
  searchable x [] h i j d at_most within = absurd (omega arith)
  searchable x (e ∷ es) h zero zero d at_most within = omega arith
  searchable x (e ∷ es) h zero (suc j) d at_most within =
      index_rises R o e.0 (get_or es j d).0 x _
      (below_place e.0 es j d (first _ _ h) (omega arith)) refl
  searchable x (e ∷ es) h (suc i) zero d at_most within = absurd (omega arith)
  searchable x (e ∷ es) h (suc i) (suc j) d at_most within =
      searchable x es (second_holds _ _ h) i j d (omega arith) (omega arith)

  -- where a key is below x, so are those before it
  pub before_more : (x : K) (es : List (K × X)) (i : ℕ) (e : K × X) → T (is_sorted R es)
      → i < length es
      → e ≡ get_or es i e → R e.0 x ≡ Less → (k : ℕ) (d : K × X) → k < i + 1
      → R (get_or es k d).0 x ≡ Less
  before_more x es i e h within at less k d before =
      let last : get_or es i d ≡ e = get_or_default es i d e within ∙ sym at in
      index_less _
      (omega (
        arith,
        searchable x es h k i d (omega arith) within,
        ap (λ f. ordering_index (R f.0 x)) last,
        ap ordering_index less,
      ))

  -- where a key is above x, so are those behind it
  pub after_more : (x : K) (es : List (K × X)) (i : ℕ) (e : K × X) → T (is_sorted R es)
      → i < length es
      → e ≡ get_or es i e → R e.0 x ≡ Greater → (k : ℕ) (d : K × X) → i ≤ k → k < length es
      → R (get_or es k d).0 x ≡ Greater
  after_more x es i e h within at more k d behind below =
      let first : get_or es i d ≡ e = get_or_default es i d e within ∙ sym at in
      index_greater _
      (omega (
        arith,
        searchable x es h i k d behind below,
        ap (λ f. ordering_index (R f.0 x)) first,
        ap ordering_index more,
      ))

  -- at the place of a key that ties stands what is found
  pub find_at : (x : K) (es : List (K × X)) (i : ℕ) (d : K × X) → T (is_sorted R es) → i < length es
      → R (get_or es i d).0 x ≡ Equal → find R x es ≡ Some (get_or es i d).1
  find_at x [] i d h within tied = absurd (omega arith)
  find_at x (e ∷ es) zero d h within tied =
      ap (λ r. cond (is_eq r) (Some e.1) (find R x es)) (tied_back o e.0 x tied)
  find_at x (e ∷ es) (suc i) d h within tied =
      let before = below_place e.0 es i d (first _ _ h) (omega arith) in
      let below : R e.0 x ≡ Less = sym (alike_right o (get_or es i d).0 x e.0 tied) ∙ before in
      ap (λ b. cond b (Some e.1) (find R x es))
      (apart (R x e.0) (λ t. not_both (R e.0 x) below (tied_back o x e.0 t)))
      ∙ find_at x es i d (second_holds _ _ h) (omega arith) tied
    where
      not_both : (r : Ordering) → r ≡ Less → r ≡ Equal → ⊥
      not_both r p q = cc

  -- where no key ties, nothing is found
  pub find_nowhere : (x : K) (es : List (K × X))
      → ((k : ℕ) (d : K × X) → k < length es → R (get_or es k d).0 x ≡ Equal → ⊥)
      → find R x es ≡ None
  find_nowhere x [] h = refl
  find_nowhere x (e ∷ es) h =
      ap (λ b. cond b (Some e.1) (find R x es))
      (apart (R x e.0) (λ t. h 0 e (omega arith) (tied_back o x e.0 t)))
      ∙ find_nowhere x es (λ k d within. h (suc k) d (omega arith))

  -- between those below x and those above it no key ties
  pub find_between : (x : K) (es : List (K × X)) (i : ℕ)
      → ((k : ℕ) (d : K × X) → k < i → R (get_or es k d).0 x ≡ Less)
      → ((k : ℕ) (d : K × X) → i ≤ k → k < length es → R (get_or es k d).0 x ≡ Greater)
      → find R x es ≡ None
  find_between x es i before after = find_nowhere x es (λ k d within tied. elim (cases_order k i) [
    | inl at ↦ neither _ tied (inr (after k d (omega arith) within))
    | inr (inl earlier) ↦ neither _ tied (inl (before k d earlier))
    | inr (inr later) ↦ neither _ tied (inr (after k d (omega arith) within))
  ])

  -- keys that rise from each place to the next
  pub sorted_adjacent : (es : List (K × X))
      → ((k : ℕ) (d : K × X) → suc k < length es
      → R (get_or es k d).0 (get_or es (suc k) d).0 ≡ Less)
      → T (is_sorted R es)
  sorted_adjacent [] h = tt
  sorted_adjacent (e ∷ []) h = tt
  sorted_adjacent (e ∷ f ∷ es) h =
      let rest = sorted_adjacent (f ∷ es) (λ k d within. h (suc k) d (omega arith)) in
      let here = h 0 e (omega arith) in
      both_hold _ _
      (both_hold _ _ (less-holds _ here) (below_less R o e.0 f.0 es here (first _ _ rest))) rest

-- ---- what a search of a map's entries answers

-- at the place that was found stands the value of the key
pub found : {X : Type 0} (es xs : List (List ℕ × X)) (m : FinMap key_cmp X) (q : List ℕ) (i : ℕ)
    (e : List ℕ × X)
    → xs ≡ es → from_sorted es ≡ m → T (is_sorted key_cmp es) → i < length xs
    → HoldsAt (λ y. key_cmp y.0 q ≡ Equal) xs i → e ≡ get_or es i e → Some e.1 ≡ get m q
found es xs m q i e same is sorted within tied at =
    let here : i < length es = omega (arith, within, ap length same) in
    let ties = subst (λ l. key_cmp (get_or l i e).0 q ≡ Equal) same (tied e) in
    ap (λ f. Some f.1) at ∙ sym (find_at key_cmp key_total q es i e sorted here ties)
    ∙ sym (get-from_sorted key_cmp es q sorted) ∙ ap (λ m. get m q) is

-- where nothing is found, there is no value
pub missed : {X : Type 0} (es xs : List (List ℕ × X)) (m : FinMap key_cmp X) (q : List ℕ)
    → xs ≡ es → from_sorted es ≡ m → T (is_sorted key_cmp es) → find key_cmp q xs ≡ None
    → None ≡ get m q
missed es xs m q same is sorted none =
    sym none ∙ ap (find key_cmp q) same ∙ sym (get-from_sorted key_cmp es q sorted)
    ∙ ap (λ m. get m q) is

-- an entry of a map is what the map has at its key
pub get_entry : {X : Type 0} (m : FinMap key_cmp X) (xs : List (List ℕ × X)) (n : ℕ)
    (e : List ℕ × X)
    → xs ≡ entries m → n < length xs → e ≡ get_or xs n e → get m e.0 ≡ Some e.1
get_entry m xs n e same within at =
    let here : e ≡ get_or (entries m) n e = at ∙ ap (λ l. get_or l n e) same in
    let ties = ap (λ f. key_cmp f.0 e.0) (sym here) ∙ tied_itself key_total e.0 in
    get-entries m e.0
    ∙ find_at key_cmp key_total e.0 (entries m) n e (entries_sorted m)
    (omega (arith, within, ap length same)) ties
    ∙ ap (λ f. Some f.1) (sym here)
