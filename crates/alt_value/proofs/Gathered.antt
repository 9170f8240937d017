-- Members in any order, and the set of them: a list that rises is the set of each list with the same members.
use Rattle.std.proofs.Common.{◌≡◌, refl, sym, ap, subst, ◌∙◌, ℕ, zero, suc, ◌+◌, ◌<◌, ◌≤◌, Bool, true, false, cond, ◌||◌, T, List, [], ◌∷◌, length, get_or, inl, inr, Some, None, arith, add-one}
use Rattle.std.specs.List.{sum_by, IsAllAdjacentAnswer}
use Rattle.std.specs.List.Sorted.{IsSorted, IsPermutation}
use Rattle.std.specs.declared.cmp.Ordering.{Ordering}
use Rattle.std.specs.declared.cmp.Ordering.TheVariants.{Less, Equal, Greater}
use Rattle.std.specs.Ordering.{is_lt, is_eq, ordering_reverse}
use Rattle.std.specs.Cmp.{IsTotalOrder, alike_right, tied_itself}
use Rattle.std.specs.FinMap.{IsAntisymmetric}
use Rattle.std.specs.FinMap.Entries.{by_order}
use Rattle.std.proofs.lemmas.Bool.{cases_Bool}
use Rattle.std.proofs.lemmas.List.Sums.{sum_by-cons}
use Rattle.std.proofs.lemmas.List.Sorted.{sum_by-IsPermutation, list_any-IsPermutation}
use Rattle.std.specs.Bool.{passes, fails}
use Rattle.alt_base.proofs.Bools.{both_hold, first_holds, not_holds_false, holds_true, second_holds}
use Rattle.alt_base.proofs.Orderings.{is_eq-true, less-holds, is_lt-holds}
use Rattle.alt_value.specs.Members.{is_below_each, is_rising, has_member, with_member, are_apart, gathered, set_of}
use Rattle.alt_value.proofs.Places.{turned, below_each_below, is_rising-with_member}

-- 1 for true, 0 for false: a count of one
abbrev mark : Bool → ℕ
mark true = 1
mark false = 0

below : (r : Ordering) → true ≡ is_lt r → r ≡ Less
below Less e = refl
below Equal e = cc
below Greater e = cc

-- neither is below the other
level : (r : Ordering) → false ≡ is_lt r → is_lt (ordering_reverse r) ≡ false → r ≡ Equal
level Less e f = cc
level Equal e f = refl
level Greater e f = cc

-- counts that are zero, or one at most
none_zero : (b rest : Bool) (n : ℕ) → (b || rest) ≡ false → (rest ≡ false → n ≡ 0) → mark b + n ≡ 0
none_zero true rest n e h = cc
none_zero false rest n e h = omega (arith, h e)

zero_none : (b rest : Bool) (n : ℕ) → mark b + n ≡ 0 → (n ≡ 0 → rest ≡ false) → (b || rest) ≡ false
zero_none true rest n e h = absurd (omega (arith, e))
zero_none false rest n e h = h (omega (arith, e))

at_most_one : (b : Bool) (n : ℕ) → (b ≡ true → n ≡ 0) → n ≤ 1 → mark b + n ≤ 1
at_most_one true n h few = omega (arith, h refl)
at_most_one false n h few = omega (arith, few)

-- a disjunction that names a part twice, or in another order
or_twice : (b c : Bool) → (b || c) ≡ (b || (b || c))
or_twice true c = refl
or_twice false c = refl

or_turn : (a b c : Bool) → (a || (b || c)) ≡ (b || (a || c))
or_turn true true c = refl
or_turn true false c = refl
or_turn false true c = refl
or_turn false false c = refl

module _ {K : Type 0} (R : K → K → Ordering) (o : IsTotalOrder R) where
  itself : (x : K) → is_eq (R x x) ≡ true
  itself x = ap is_eq (tied_itself o x)

  -- how many of them are equal to x
  abbrev times : K → List K → ℕ
  times x [] = 0
  times x (y ∷ ys) = mark (is_eq (R x y)) + times x ys

  times-sum : (x : K) (ys : List K) → times x ys ≡ sum_by (λ y. mark (is_eq (R x y))) ys
  times-sum x [] = refl
  times-sum x (y ∷ ys) = ap (λ n. mark (is_eq (R x y)) + n) (times-sum x ys)
      ∙ sym (sum_by-cons (λ z. mark (is_eq (R x z))) y ys)

  times-permuted : (x : K) (xs ys : List K) → IsPermutation xs ys → times x ys ≡ times x xs
  times-permuted x xs ys p = times-sum x ys ∙ sum_by-IsPermutation
      (λ y. mark (is_eq (R x y))) xs ys p ∙ sym (times-sum x xs)

  times-tied : (x y : K) (zs : List K) → R x y ≡ Equal → times x zs ≡ times y zs
  times-tied x y [] e = refl
  times-tied x y (z ∷ zs) e = rw (o.congr x y z e)
      (ap (λ n. mark (is_eq (R y z)) + n) (times-tied x y zs e))

  times-none : (x : K) (ys : List K) → has_member R x ys ≡ false → times x ys ≡ 0
  times-none x [] e = refl
  times-none x (y ∷ ys) e = none_zero (is_eq (R x y)) (has_member R x ys) (times x ys) e
      (times-none x ys)

  none-times : (x : K) (ys : List K) → times x ys ≡ 0 → has_member R x ys ≡ false
  none-times x [] e = refl
  none-times x (y ∷ ys) e = zero_none (is_eq (R x y)) (has_member R x ys) (times x ys) e
      (none-times x ys)

  -- what is below each of them is none of them
  pub below_none : (x : K) (ys : List K) → T (is_below_each R x ys) → has_member R x ys ≡ false
  below_none x [] h = refl
  below_none x (y ∷ ys) h =
      rw (is_lt-holds (R x y) (first_holds _ _ h)) (below_none x ys (second_holds _ _ h))

  -- what is equal to one that is below each of them isn't among them
  tied_none : (x y : K) (ys : List K) → R x y ≡ Equal → T (is_below_each R y ys) → times x ys ≡ 0
  tied_none x y ys e h = times-tied x y ys e ∙ times-none y ys (below_none y ys h)

  once-rising : (x : K) (ys : List K) → T (is_rising R ys) → times x ys ≤ 1
  once-rising x [] h = omega arith
  once-rising x (y ∷ ys) h =
      at_most_one (is_eq (R x y)) (times x ys)
      (λ e. tied_none x y ys (is_eq-true (R x y) e) (first_holds _ _ h))
      (once-rising x ys (second_holds _ _ h))

  once-apart : (x : K) (ys : List K) → T (are_apart R ys) → times x ys ≤ 1
  once-apart x [] h = omega arith
  once-apart x (y ∷ ys) h =
      at_most_one (is_eq (R x y)) (times x ys)
      (λ e. times-tied x y ys (is_eq-true (R x y) e)
      ∙ times-none y ys (not_holds_false _ (first_holds _ _ h)))
      (once-apart x ys (second_holds _ _ h))

  apart-once : (ys : List K) → ((x : K) → times x ys ≤ 1) → T (are_apart R ys)
  apart-once [] h = tt
  apart-once (y ∷ ys) h =
      let here : mark (is_eq (R y y)) ≡ 1 = ap mark (itself y) in
      both_hold _ _ (fails _ (none-times y ys (omega (arith, here, h y))))
      (apart-once ys (λ x. omega (arith, h x)))

  -- ---- the members of a set

  has_member-with_member : (x y : K) (zs : List K)
      → has_member R x (with_member R y zs) ≡ (is_eq (R x y) || has_member R x zs)
  has_member-with_member x y [] = refl
  has_member-with_member x y (z ∷ zs) =
      elim (R y z) as (λ r. R y z ≡ r → has_member R x
      (by_order r (y ∷ z ∷ zs) (z ∷ zs) (z ∷ with_member R y zs))
      ≡ (is_eq (R x y) || (is_eq (R x z) || has_member R x zs))) [
        | Less ↦ λ e. refl
        | Equal ↦ λ e. rw (alike_right o y z x e) (or_twice (is_eq (R x z)) (has_member R x zs))
        | Greater ↦ λ e. ap (λ b. is_eq (R x z) || b) (has_member-with_member x y zs)
            ∙ or_turn (is_eq (R x z)) (is_eq (R x y)) (has_member R x zs)
      ] refl

  has_member-gathered : (x : K) (ys : List K) → has_member R x (gathered R ys) ≡ has_member R x ys
  has_member-gathered x [] = refl
  has_member-gathered x (y ∷ ys) =
      has_member-with_member x y (gathered R ys)
      ∙ ap (λ b. is_eq (R x y) || b) (has_member-gathered x ys)

  -- what is gathered rises
  pub is_rising-gathered : (ys : List K) → T (is_rising R (gathered R ys))
  is_rising-gathered [] = tt
  is_rising-gathered (y ∷ ys) = is_rising-with_member R o y (gathered R ys) (is_rising-gathered ys)

  -- what is below the first is no member
  lower_none : (x y : K) (ys : List K) → R x y ≡ Less → T (is_below_each R y ys)
      → has_member R x (y ∷ ys) ≡ false
  lower_none x y ys e h = rw e (below_none x ys (below_each_below R o x y ys e h))

  head_there : (x : K) (xs : List K) → has_member R x (x ∷ xs) ≡ true
  head_there x xs = rw (itself x) refl

  tails_alike : (x : K) (xs ys : List K) → T (is_below_each R x xs) → T (is_below_each R x ys)
      → ((z : K) → has_member R z (x ∷ xs) ≡ has_member R z (x ∷ ys)) → (z : K)
      → has_member R z xs ≡ has_member R z ys
  tails_alike x xs ys h k same z = elim (cases_Bool (is_eq (R z x))) [
    | inl e ↦
        let tie : R z x ≡ Equal = is_eq-true (R z x) e in
        none-times z xs (tied_none z x xs tie h) ∙ sym (none-times z ys (tied_none z x ys tie k))
    | inr e ↦ rw e at (same z)
  ]

  module _ (apart : IsAntisymmetric R) where
    -- sets with the same members are one list
    same_sets : (xs ys : List K) → T (is_rising R xs) → T (is_rising R ys)
        → ((z : K) → has_member R z xs ≡ has_member R z ys) → xs ≡ ys
    same_sets [] [] h k same = refl
    same_sets [] (y ∷ ys) h k same = let e = same y ∙ head_there y ys in cc
    same_sets (x ∷ xs) [] h k same = let e = sym (same x) ∙ head_there x xs in cc
    same_sets (x ∷ xs) (y ∷ ys) h k same =
        elim (R x y) as (λ r. R x y ≡ r → x ∷ xs ≡ y ∷ ys) [
          | Less ↦ λ e. let f = sym (head_there x xs) ∙ same x
              ∙ lower_none x y ys e (first_holds _ _ k) in cc
          | Equal ↦ λ e.
              let head : x ≡ y = apart x y e in
              let there : T (is_below_each R x ys) =
              subst (λ u. T (is_below_each R u ys)) (sym head) (first_holds _ _ k) in
              let alike : (z : K) → has_member R z (x ∷ xs) ≡ has_member R z (x ∷ ys) =
              λ z. same z ∙ ap (λ u. has_member R z (u ∷ ys)) (sym head) in
              let tail : xs ≡ ys = same_sets xs ys (second_holds _ _ h) (second_holds _ _ k)
              (tails_alike x xs ys (first_holds _ _ h) there alike) in
              λ i. head i ∷ tail i
          | Greater ↦ λ e. let f = sym (head_there y ys) ∙ sym (same y)
              ∙ lower_none y x xs (turned R o x y Greater e) (first_holds _ _ h) in cc
        ] refl

    -- a list with the members of one that rises
    pub set_of-rising : (xs ys : List K) → IsPermutation xs ys → T (is_rising R ys)
        → set_of R xs ≡ Some ys
    unfolding set_of
    set_of-rising xs ys p h =
        let once : T (are_apart R xs) = apart-once xs
        (λ x. omega (arith, times-permuted x xs ys p, once-rising x ys h)) in
        let is : gathered R xs ≡ ys =
        same_sets (gathered R xs) ys (is_rising-gathered xs) h
        (λ z. has_member-gathered z xs ∙ list_any-IsPermutation (λ y. is_eq (R z y)) xs ys p) in
        rw (holds_true _ once, is) refl

  -- ---- neighbours

  rising_from : (ys : List K) → ((k : ℕ) (d : K) → suc k < length ys
      → R (get_or ys k d) (get_or ys (suc k) d) ≡ Less) → T (is_rising R ys)
  rising_from [] h = tt
  rising_from (y ∷ []) h = tt
  rising_from (y ∷ z ∷ zs) h =
      let rest : T (is_rising R (z ∷ zs)) = rising_from (z ∷ zs)
      (λ k d l. h (suc k) d (omega arith)) in
      let next : R y z ≡ Less = h 0 y (omega arith) in
      both_hold _ _ (both_hold _ _ (less-holds _ next)
      (below_each_below R o y z zs next (first_holds _ _ rest))) rest

  twice : (x : K) (ys : List K) (k : ℕ) → suc k < length ys
      → ((d : K) → R x (get_or ys k d) ≡ Equal)
      → ((d : K) → R x (get_or ys (suc k) d) ≡ Equal) → 2 ≤ times x ys
  twice x [] k l here there = absurd (omega arith)
  twice x (y ∷ []) k l here there = absurd (omega arith)
  twice x (y ∷ z ∷ zs) zero l here there =
      let one : mark (is_eq (R x y)) ≡ 1 = ap (λ r. mark (is_eq r)) (here x) in
      let two : mark (is_eq (R x z)) ≡ 1 = ap (λ r. mark (is_eq r)) (there x) in
      omega (arith, one, two)
  twice x (y ∷ z ∷ zs) (suc k) l here there =
      omega (arith, twice x (z ∷ zs) k (omega arith) here there)

  set_of-tied : (xs ys : List K) (k : ℕ) → IsPermutation xs ys → suc k < length ys
      → ((d : K) → R (get_or ys k d) (get_or ys (suc k) d) ≡ Equal) → set_of R xs ≡ None
  unfolding set_of
  set_of-tied xs [] k p l tie = absurd (omega arith)
  set_of-tied xs (y ∷ ys) k p l tie = elim (cases_Bool (are_apart R xs)) [
    | inl e ↦
        let x : K = get_or (y ∷ ys) k y in
        let same : (d : K) → get_or (y ∷ ys) k d ≡ x =
        λ d. get_or-default (y ∷ ys) k d y (omega arith) in
        let more : 2 ≤ times x (y ∷ ys) =
        twice x (y ∷ ys) k l (λ d. ap (R x) (same d) ∙ tied_itself o x)
        (λ d. ap (λ u. R u (get_or (y ∷ ys) (suc k) d)) (sym (same d)) ∙ tie d) in
        absurd (omega (
          arith,
          more,
          times-permuted x xs (y ∷ ys) p,
          once-apart x xs (passes _ e),
        ))
    | inr e ↦ rw e refl
  ]
    where
      get_or-default : (zs : List K) (i : ℕ) (d e : K) → i < length zs
          → get_or zs i d ≡ get_or zs i e
      get_or-default [] i d e l = absurd (omega arith)
      get_or-default (z ∷ zs) zero d e l = refl
      get_or-default (z ∷ zs) (suc i) d e l = get_or-default zs i d e (omega arith)

  -- what a sort and a look at each two neighbours tell
  pub set_of-sorted : IsAntisymmetric R → (xs ys : List K) (r : Bool) → IsPermutation xs ys
      → IsSorted R ys
      → IsAllAdjacentAnswer (λ x y b. b ≡ is_lt (R x y)) ys r → set_of R xs ≡ cond r (Some ys) None
  set_of-sorted apart xs ys true p s h =
      set_of-rising apart xs ys p (rising_from ys
      (λ k d l. subst (λ j. R (get_or ys k d) (get_or ys j d) ≡ Less) (add-one k)
      (below _ (h k d (omega arith)))))
  set_of-sorted apart xs ys false p s h =
      let k : ℕ = h.0 in
      set_of-tied xs ys k p (omega (arith, h.1))
      (λ d. subst (λ j. R (get_or ys k d) (get_or ys j d) ≡ Equal) (add-one k)
      (level _ (h.2 d) (ap is_lt (sym (o.antisymm (get_or ys (k + 1) d) (get_or ys k d)))
      ∙ s k d (omega arith) h.1)))

  -- the set is one
  pub is_rising-set_of : (xs ys : List K) → set_of R xs ≡ Some ys → T (is_rising R ys)
  unfolding set_of
  is_rising-set_of xs ys e = elim (cases_Bool (are_apart R xs)) [
    | inl f ↦ let same : gathered R xs ≡ ys =
        (let g : Some (gathered R xs) ≡ Some ys = rw f at e in cc) in
        subst (λ l. T (is_rising R l)) same (is_rising-gathered xs)
    | inr f ↦ let g : None ≡ Some ys = rw f at e in cc
  ]

  -- what is told to be a set is one
  pub is_rising-told : (xs ys : List K) (r : Bool) → r ≡ true → set_of R xs ≡ cond r (Some ys) None
      → T (is_rising R ys)
  is_rising-told xs ys r is e = is_rising-set_of xs ys (e ∙ ap (λ b. cond b (Some ys) None) is)

  -- the list that was looked at is the one that was sorted
  pub set_of-looked : IsAntisymmetric R → (xs ys zs : List K) (r : Bool) → zs ≡ ys
      → IsPermutation xs ys → IsSorted R ys
      → IsAllAdjacentAnswer (λ x y b. b ≡ is_lt (R x y)) zs r → set_of R xs ≡ cond r (Some ys) None
  set_of-looked apart xs ys zs r e p s h = set_of-sorted apart xs ys r p s
      (subst (λ l. IsAllAdjacentAnswer (λ x y b. b ≡ is_lt (R x y)) l r) e h)
