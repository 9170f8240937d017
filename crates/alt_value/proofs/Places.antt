-- Where a key stands, or is to stand, in a list whose keys rise.
use Rattle.std.proofs.Common.{◌≡◌, refl, sym, ap, subst, ◌∙◌, ℕ, zero, suc, ◌<◌, ◌≤◌, Bool, true, false, ◌||◌, T, List, [], ◌∷◌, length, get_or, inl, inr, Result, Ok, Err, arith}
use Rattle.std.specs.List.{insert}
use Rattle.std.specs.List.Sorted.{IsNonDecreasingBy, IsPartitionPoint, IsBinarySearchResult, IsSearchInRange}
use Rattle.std.specs.Result.{is_ok}
use Rattle.std.specs.declared.cmp.Ordering.{Ordering}
use Rattle.std.specs.declared.cmp.Ordering.TheVariants.{Less, Equal, Greater}
use Rattle.std.specs.Ordering.{is_eq, ordering_index, ordering_reverse}
use Rattle.std.specs.Cmp.{IsTotalOrder, alike_right}
use Rattle.std.specs.FinMap.Entries.{by_order}
use Rattle.std.proofs.lemmas.Bool.{cases_order}
use Rattle.alt_base.proofs.Bools.{both_hold, first_holds, second_holds}
use Rattle.alt_base.proofs.Orderings.{ordering_index-top, less-holds, is_lt-holds as less}
use Rattle.alt_value.specs.Members.{is_below_each, is_rising, has_member, with_member}

module _ {K : Type 0} (R : K → K → Ordering) (o : IsTotalOrder R) where
  -- the other way round
  pub turned : (x y : K) (r : Ordering) → R x y ≡ r → R y x ≡ ordering_reverse r
  turned x y r e = o.antisymm y x ∙ ap ordering_reverse e

  -- what is below y is below what ties with y
  pub less_tied : (e y x : K) → R e y ≡ Less → R y x ≡ Equal → R e x ≡ Less
  less_tied e y x p q = sym (alike_right o y x e q) ∙ p

  -- what is below y stands no higher to x than y does
  index_rises : (e y x : K) (r : Ordering) → R e y ≡ Less → R y x ≡ r
      → ordering_index (R e x) ≤ ordering_index r
  index_rises e y x Less p q = omega (arith, ap ordering_index (o.trans e y x p q))
  index_rises e y x Equal p q = omega (arith, ap ordering_index (less_tied e y x p q))
  index_rises e y x Greater p q = ordering_index-top (R e x)

  module _ {E : Type 0} (key : E → K) where
    -- each key is below those after it
    abbrev pub Rises : List E → Type 0
    Rises es = (i j : ℕ) (d : E) → i < j → j < length es
        → R (key (get_or es i d)) (key (get_or es j d)) ≡ Less

    -- each key before the place is below x
    abbrev pub Before : K → List E → ℕ → Type 0
    Before x es i = (k : ℕ) (d : E) → k < i → R (key (get_or es k d)) x ≡ Less

    -- each key from the place on is above x
    abbrev pub After : K → List E → ℕ → Type 0
    After x es i = (k : ℕ) (d : E) → i ≤ k → k < length es → R (key (get_or es k d)) x ≡ Greater

    pub later_before : (x : K) (e : E) (es : List E) (i : ℕ) → Before x (e ∷ es) (suc i)
        → Before x es i
    later_before x e es i h = λ k d less. h (suc k) d (omega arith)

    pub later_after : (x : K) (e : E) (es : List E) (i : ℕ) → After x (e ∷ es) (suc i)
        → After x es i
    later_after x e es i h = λ k d from below. h (suc k) d (omega arith) (omega arith)

    pub searchable : (x : K) (es : List E) → Rises es
        → IsNonDecreasingBy (λ e. ordering_index (R (key e) x)) es
    searchable x es rises i j d at_most within = elim (cases_order i j) [
      | inl same ↦ ap_le (ap (λ k. ordering_index (R (key (get_or es k d)) x)) same)
      | inr (inl below) ↦ index_rises (key (get_or es i d)) (key (get_or es j d)) x _
          (rises i j d below within) refl
      | inr (inr above) ↦ absurd (omega arith)
    ]
      where
        ap_le : {m n : ℕ} → m ≡ n → m ≤ n
        ap_le e = omega arith

    pub before_tied : (x : K) (es : List E) (i : ℕ) → Rises es → i < length es
        → ((d : E) → R (key (get_or es i d)) x ≡ Equal) → Before x es i
    before_tied x es i rises within tied k d below =
        less_tied (key (get_or es k d)) (key (get_or es i d)) x (rises k i d below within) (tied d)

  -- ---- sets

  below_at : (x : K) (ys : List K) (k : ℕ) (d : K) → T (is_below_each R x ys) → k < length ys
      → R x (get_or ys k d) ≡ Less
  below_at x [] k d h within = absurd (omega arith)
  below_at x (y ∷ ys) zero d h within = less _ (first_holds _ _ h)
  below_at x (y ∷ ys) (suc k) d h within = below_at x ys k d (second_holds _ _ h) (omega arith)

  -- each member of a set is below those behind it
  pub rises-is_rising : (ys : List K) → T (is_rising R ys) → Rises (λ y. y) ys
  rises-is_rising [] h i j d below within = absurd (omega arith)
  rises-is_rising (y ∷ ys) h i zero d below within = absurd (omega arith)
  rises-is_rising (y ∷ ys) h zero (suc j) d below within =
      below_at y ys j d (first_holds _ _ h) (omega arith)
  rises-is_rising (y ∷ ys) h (suc i) (suc j) d below within =
      rises-is_rising ys (second_holds _ _ h) i j d (omega arith) (omega arith)

  -- a member that is there
  pub with_member-present : (x : K) (ys : List K) (i : ℕ) → i < length ys → Before (λ y. y) x ys i
      → ((d : K) → R (get_or ys i d) x ≡ Equal) → with_member R x ys ≡ ys
  with_member-present x [] i within before tied = absurd (omega arith)
  with_member-present x (y ∷ ys) zero within before tied = rw (turned y x Equal (tied y)) refl
  with_member-present x (y ∷ ys) (suc i) within before tied =
      rw (turned y x Less (before 0 y (omega arith)))
      (ap (λ zs. y ∷ zs) (with_member-present x ys i (omega arith)
      (later_before (λ y. y) x y ys i before) tied))

  -- what was found is a member
  pub has_member-present : (x : K) (ys : List K) (i : ℕ) → i < length ys
      → ((d : K) → R (get_or ys i d) x ≡ Equal)
      → has_member R x ys ≡ true
  has_member-present x [] i within tied = absurd (omega arith)
  has_member-present x (y ∷ ys) zero within tied = rw (turned y x Equal (tied y)) refl
  has_member-present x (y ∷ ys) (suc i) within tied =
      ap (λ b. is_eq (R x y) || b) (has_member-present x ys i (omega arith) tied)
      ∙ or_true (is_eq (R x y))
    where
      or_true : (b : Bool) → (b || true) ≡ true
      or_true true = refl
      or_true false = refl

  -- a member that isn't there
  pub with_member-absent : (x : K) (ys : List K) (i : ℕ) → i ≤ length ys → Before (λ y. y) x ys i
      → After (λ y. y) x ys i
      → with_member R x ys ≡ insert ys i x
  with_member-absent x [] zero within before after = refl
  with_member-absent x [] (suc i) within before after = absurd (omega arith)
  with_member-absent x (y ∷ ys) zero within before after =
      rw (turned y x Greater (after 0 y (omega arith) (omega arith))) refl
  with_member-absent x (y ∷ ys) (suc i) within before after =
      rw (turned y x Less (before 0 y (omega arith)))
      (ap (λ zs. y ∷ zs) (with_member-absent x ys i (omega arith)
      (later_before (λ y. y) x y ys i before) (later_after (λ y. y) x y ys i after)))

  -- and one that isn't there is none
  pub has_member-absent : (x : K) (ys : List K) (i : ℕ) → i ≤ length ys → Before (λ y. y) x ys i
      → After (λ y. y) x ys i
      → has_member R x ys ≡ false
  has_member-absent x [] i within before after = refl
  has_member-absent x (y ∷ ys) zero within before after =
      rw (turned y x Greater (after 0 y (omega arith) (omega arith)))
      (has_member-absent x ys zero (omega arith) (λ k d below. absurd (omega arith))
      (λ k d from below. after (suc k) d (omega arith) (omega arith)))
  has_member-absent x (y ∷ ys) (suc i) within before after =
      rw (turned y x Less (before 0 y (omega arith)))
      (has_member-absent x ys i (omega arith) (later_before (λ y. y) x y ys i before)
      (later_after (λ y. y) x y ys i after))

  -- what is below one that is below each of them is below each
  pub below_each_below : (x y : K) (ys : List K) → R x y ≡ Less → T (is_below_each R y ys)
      → T (is_below_each R x ys)
  below_each_below x y [] p h = tt
  below_each_below x y (z ∷ zs) p h =
      both_hold _ _ (less-holds _ (o.trans x y z p (less _ (first_holds _ _ h))))
      (below_each_below x y zs p (second_holds _ _ h))

  -- what is below each of them and below x is below each, x more
  pub below_with_member : (y x : K) (ys : List K) → R y x ≡ Less → T (is_below_each R y ys)
      → T (is_below_each R y (with_member R x ys))
  below_with_member y x [] p h = both_hold _ _ (less-holds _ p) tt
  below_with_member y x (z ∷ zs) p h =
      elim (R x z) as (λ r. T (is_below_each R y
      (by_order r (x ∷ z ∷ zs) (z ∷ zs) (z ∷ with_member R x zs)))) [
        | Less ↦ both_hold _ _ (less-holds _ p) h
        | Equal ↦ h
        | Greater ↦ both_hold _ _ (first_holds _ _ h)
            (below_with_member y x zs p (second_holds _ _ h))
      ]

  -- a set with a member more is a set
  pub is_rising-with_member : (x : K) (ys : List K) → T (is_rising R ys)
      → T (is_rising R (with_member R x ys))
  is_rising-with_member x [] h = tt
  is_rising-with_member x (y ∷ ys) h =
      elim (R x y) as (λ r. R x y ≡ r → T (is_rising R
      (by_order r (x ∷ y ∷ ys) (y ∷ ys) (y ∷ with_member R x ys)))) [
        | Less ↦ λ p. both_hold _ _
            (both_hold _ _ (less-holds _ p) (below_each_below x y ys p (first_holds _ _ h))) h
        | Equal ↦ λ p. h
        | Greater ↦ λ p. both_hold _ _
            (below_with_member y x ys (turned x y Greater p) (first_holds _ _ h))
            (is_rising-with_member x ys (second_holds _ _ h))
      ] refl

  -- What a search for m in the members found, where these rise. The list that was searched, the members and the set are one list.
  pub found : (x m : K) (zs xs ys : List K) (i : ℕ) → m ≡ x → zs ≡ xs → xs ≡ ys → T (is_rising R xs)
      → i < length zs
      → ((d : K) → R (get_or zs i d) m ≡ Equal)
      → (with_member R x ys ≡ ys) × (has_member R x ys ≡ true)
  found x m zs xs ys i e f g rising within tied =
      let rises : Rises (λ y. y) zs = rises-is_rising zs
      (subst (λ l. T (is_rising R l)) (sym f) rising) in
      rw (← e, ← g, ← f) (
        with_member-present m zs i within
            (before_tied (λ y. y) m zs i rises within tied) tied,
        has_member-present m zs i within tied,
      )

  -- the same where the search found none
  pub missed : (x m : K) (zs xs ys : List K) (i : ℕ) → m ≡ x → zs ≡ xs → xs ≡ ys
      → T (is_rising R xs) → i ≤ length zs
      → (IsNonDecreasingBy (λ y. ordering_index (R y m)) zs
      → IsPartitionPoint (λ y. R y m ≡ Less) (λ y. R y m ≡ Greater) zs i)
      → (with_member R x ys ≡ insert xs i m) × (has_member R x ys ≡ false)
  missed x m zs xs ys i e f g rising within parts =
      let rises : Rises (λ y. y) zs = rises-is_rising zs
      (subst (λ l. T (is_rising R l)) (sym f) rising) in
      let part : IsPartitionPoint (λ y. R y m ≡ Less) (λ y. R y m ≡ Greater) zs i =
      parts (searchable (λ y. y) m zs rises) in
      let before : Before (λ y. y) m zs i = λ k d below. part.0 k d (omega arith) below in
      let after : After (λ y. y) m zs i = part.1 in
      rw (← e, ← g, ← f) (
        with_member-absent m zs i within before after,
        has_member-absent m zs i within before after,
      )

  -- what a search for m in a set answers, tells whether it is a member
  pub searched : (m : K) (zs xs ys : List K) (r : Result ℕ ℕ) → zs ≡ xs → xs ≡ ys
      → T (is_rising R xs) → IsSearchInRange r (length zs)
      → IsBinarySearchResult (λ y. R y m) zs r → is_ok r ≡ has_member R m ys
  searched m zs xs ys (Ok i) f g rising within tied =
      sym (found m m zs xs ys i refl f g rising within tied).1
  searched m zs xs ys (Err i) f g rising within parts =
      sym (missed m m zs xs ys i refl f g rising within parts).1
