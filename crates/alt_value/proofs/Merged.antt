-- Laws of one walk through two sets: what is left of both is what the front gives, and then what is left behind it.
use Rattle.std.proofs.Common.{◌≡◌, refl, sym, ap, subst, ◌∙◌, ℕ, zero, suc, ◌+◌, ◌-◌, ◌<◌, ◌≤◌, Bool, not, cond, ◌⊎◌, T, List, [], ◌∷◌, ◌++◌, length, take, drop, get_or, inl, inr}
use Rattle.std.specs.List.{AllByRecursion, filter}
use Rattle.std.specs.declared.cmp.Ordering.{Ordering}
use Rattle.std.specs.declared.cmp.Ordering.TheVariants.{Less, Equal, Greater}
use Rattle.std.specs.Cmp.{IsTotalOrder}
use Rattle.std.specs.FinMap.Entries.{by_order}
use Rattle.std.proofs.lemmas.Bool.{cases_Bool}
use Rattle.std.proofs.lemmas.List.{at_drop_all, at_drop_more, append_assoc, append-nil, get_or_default, take_rest}
use Rattle.alt_base.proofs.Bools.{both_hold, first_holds, second_holds}
use Rattle.alt_base.proofs.Orderings.{less-holds, is_lt-holds}
use Rattle.alt_fields.specs.Bytes.{IsShort}
use Rattle.alt_value.specs.Values.{AreMembers}
use Rattle.alt_value.specs.Members.{is_below_each, is_rising, has_member, with_member, with_members, without_members}
use Rattle.alt_value.proofs.Places.{turned, below_each_below, below_with_member, is_rising-with_member}
use Rattle.alt_value.proofs.Gathered.{below_none}

module _ {K : Type 0} (R : K → K → Ordering) (o : IsTotalOrder R) where
  -- ---- what stands in front

  with_member-front : (x : K) (ys : List K) → T (is_below_each R x ys) → with_member R x ys ≡ x ∷ ys
  with_member-front x [] h = refl
  with_member-front x (y ∷ ys) h = rw (is_lt-holds (R x y) (first_holds _ _ h)) refl

  below_with_members : (z : K) (xs ys : List K) → T (is_below_each R z xs)
      → T (is_below_each R z ys)
      → T (is_below_each R z (with_members R xs ys))
  below_with_members z [] ys h k = k
  below_with_members z (x ∷ xs) ys h k =
      below_with_member R o z x (with_members R xs ys) (is_lt-holds _ (first_holds _ _ h))
      (below_with_members z xs ys (second_holds _ _ h) k)

  -- what ties with the first is below the others too
  below_each_tied : (x y : K) (zs : List K) → R x y ≡ Equal → T (is_below_each R x zs)
      → T (is_below_each R y zs)
  below_each_tied x y [] e h = tt
  below_each_tied x y (z ∷ zs) e h =
      both_hold _ _ (less-holds _ (sym (o.congr x y z e) ∙ is_lt-holds _ (first_holds _ _ h)))
      (below_each_tied x y zs e (second_holds _ _ h))

  below_each_above : (x y : K) (xs : List K) → R x y ≡ Greater → T (is_below_each R x xs)
      → T (is_below_each R y (x ∷ xs))
  below_each_above x y xs e h =
      let turn : R y x ≡ Less = turned R o x y Greater e in
      both_hold _ _ (less-holds _ turn) (below_each_below R o y x xs turn h)

  -- a member below all that are put in stays in front
  with_members-behind : (y : K) (xs ys : List K) → T (is_below_each R y xs)
      → with_members R xs (y ∷ ys) ≡ y ∷ with_members R xs ys
  with_members-behind y [] ys h = refl
  with_members-behind y (x ∷ xs) ys h =
      let turn : R x y ≡ Greater = turned R o y x Less (is_lt-holds (R y x) (first_holds _ _ h)) in
      ap (with_member R x) (with_members-behind y xs ys (second_holds _ _ h)) ∙ rw turn refl

  -- ---- both together

  together-less : (x y : K) (xs ys : List K) → R x y ≡ Less → T (is_rising R (x ∷ xs))
      → T (is_rising R (y ∷ ys))
      → with_members R (x ∷ xs) (y ∷ ys) ≡ x ∷ with_members R xs (y ∷ ys)
  together-less x y xs ys e h k =
      with_member-front x (with_members R xs (y ∷ ys))
      (below_with_members x xs (y ∷ ys) (first_holds _ _ h)
      (both_hold _ _ (less-holds _ e) (below_each_below R o x y ys e (first_holds _ _ k))))

  together-equal : (x y : K) (xs ys : List K) → R x y ≡ Equal → T (is_rising R (x ∷ xs))
      → with_members R (x ∷ xs) (y ∷ ys) ≡ with_members R xs (y ∷ ys)
  together-equal x y xs ys e h =
      let behind : with_members R xs (y ∷ ys) ≡ y ∷ with_members R xs ys =
      with_members-behind y xs ys (below_each_tied x y xs e (first_holds _ _ h)) in
      let stays : with_member R x (y ∷ with_members R xs ys) ≡ y ∷ with_members R xs ys =
      rw e refl in
      ap (with_member R x) behind ∙ stays ∙ sym behind

  together-greater : (x y : K) (xs ys : List K) → R x y ≡ Greater → T (is_rising R (x ∷ xs))
      → with_members R (x ∷ xs) (y ∷ ys) ≡ y ∷ with_members R (x ∷ xs) ys
  together-greater x y xs ys e h = with_members-behind y (x ∷ xs) ys
      (below_each_above x y xs e (first_holds _ _ h))

  together-none : (xs : List K) → T (is_rising R xs) → with_members R xs [] ≡ xs
  together-none [] h = refl
  together-none (x ∷ xs) h = ap (with_member R x) (together-none xs (second_holds _ _ h))
      ∙ with_member-front x xs (first_holds _ _ h)

  -- ---- one alone

  alone-equal : (x y : K) (xs ys : List K) → R x y ≡ Equal
      → without_members R (x ∷ xs) (y ∷ ys) ≡ without_members R (x ∷ xs) ys
  alone-equal x y xs ys e = rw (turned R o x y Equal e) refl

  alone-greater : (x y : K) (xs ys : List K) → R x y ≡ Greater → T (is_rising R (x ∷ xs))
      → without_members R (x ∷ xs) (y ∷ ys) ≡ y ∷ without_members R (x ∷ xs) ys
  alone-greater x y xs ys e h = rw (below_none R o y (x ∷ xs)
      (below_each_above x y xs e (first_holds _ _ h))) refl

  passed : (x : K) (xs ys : List K) → T (is_below_each R x ys)
      → without_members R (x ∷ xs) ys ≡ without_members R xs ys
  passed x xs [] h = refl
  passed x xs (y ∷ ys) h =
      let turn : R y x ≡ Greater = turned R o x y Less (is_lt-holds (R x y) (first_holds _ _ h)) in
      rw turn
      (ap (λ l. cond (not (has_member R y xs)) (y ∷ l) l) (passed x xs ys (second_holds _ _ h)))

  alone-less : (x y : K) (xs ys : List K) → R x y ≡ Less → T (is_rising R (y ∷ ys))
      → without_members R (x ∷ xs) (y ∷ ys) ≡ without_members R xs (y ∷ ys)
  alone-less x y xs ys e k = passed x xs (y ∷ ys)
      (both_hold _ _ (less-holds _ e) (below_each_below R o x y ys e (first_holds _ _ k)))

  alone-none : (ys : List K) → without_members R [] ys ≡ ys
  alone-none [] = refl
  alone-none (y ∷ ys) = ap (λ l. y ∷ l) (alone-none ys)

  -- ---- places

  rising-drop : (i : ℕ) (xs : List K) → T (is_rising R xs) → T (is_rising R (drop i xs))
  rising-drop zero xs h = h
  rising-drop (suc i) [] h = tt
  rising-drop (suc i) (x ∷ xs) h = rising-drop i xs (second_holds _ _ h)

  front : (xs : List K) (i : ℕ) (x : K) → i < length xs → x ≡ get_or xs i x
      → drop i xs ≡ x ∷ drop (i + 1) xs
  front xs i x within at = at_drop_more (λ l. l) xs i x within
      ∙ ap (λ u. u ∷ drop (i + 1) xs) (sym at)

  front_rises : (xs : List K) (i : ℕ) (x : K) → i < length xs → x ≡ get_or xs i x
      → T (is_rising R xs) → T (is_rising R (x ∷ drop (i + 1) xs))
  front_rises xs i x within at h = subst (λ l. T (is_rising R l)) (front xs i x within at)
      (rising-drop i xs h)

  -- what a walk has put out, and what both lists give from its places on
  abbrev pub Gives : (List K → List K → List K) → List K → List K → List K → ℕ → ℕ → Type 0
  Gives F xs ys out i j = F xs ys ≡ out ++ F (drop i xs) (drop j ys)

  -- at two places within
  module _ (xs ys out : List K) (i j : ℕ) (x y : K) (in_xs : i < length xs) (in_ys : j < length ys)
      (at_x : x ≡ get_or xs i x)
      (at_y : y ≡ get_or ys j y) (rise_xs : T (is_rising R xs)) (rise_ys : T (is_rising R ys)) where
    left : drop i xs ≡ x ∷ drop (i + 1) xs
    left = front xs i x in_xs at_x

    right : drop j ys ≡ y ∷ drop (j + 1) ys
    right = front ys j y in_ys at_y

    both_fronts : (F : List K → List K → List K) → Gives F xs ys out i j
        → F xs ys ≡ out ++ F (x ∷ drop (i + 1) xs) (y ∷ drop (j + 1) ys)
    both_fronts F g = g ∙ (λ k. out ++ F (left k) (right k))

    -- the member of a place, found there again, and copied
    copied : (zs : List K) (n : ℕ) (u v w : K) → n < length zs → u ≡ get_or zs n u
        → v ≡ get_or zs n v → w ≡ v → u ≡ w
    copied zs n u v w within at again copy = at ∙ get_or_default zs n u v within ∙ sym again
        ∙ sym copy

    put : (made : List K) (u w : K) (rest : List K) → made ≡ out ++ w ∷ [] → u ≡ w
        → out ++ (u ∷ rest) ≡ made ++ rest
    put made u w rest is same = ap (λ t. out ++ (t ∷ rest)) same
        ∙ sym (append_assoc out (w ∷ []) rest) ∙ ap (λ l. l ++ rest) (sym is)

    pub both-less : (made : List K) (v w : K) → made ≡ out ++ w ∷ [] → v ≡ get_or xs i v → w ≡ v
        → R x y ≡ Less
        → Gives (with_members R) xs ys out i j → Gives (with_members R) xs ys made (i + 1) j
    both-less made v w is again copy e g =
        both_fronts (with_members R) g
        ∙ ap (λ l. out ++ l) (together-less x y _ _ e (front_rises xs i x in_xs at_x rise_xs)
        (front_rises ys j y in_ys at_y rise_ys))
        ∙ ap (λ l. out ++ (x ∷ with_members R (drop (i + 1) xs) l)) (sym right)
        ∙ put made x w _ is (copied xs i x v w in_xs at_x again copy)

    pub both-equal : R x y ≡ Equal → Gives (with_members R) xs ys out i j
        → Gives (with_members R) xs ys out (i + 1) j
    both-equal e g =
        both_fronts (with_members R) g
        ∙ ap (λ l. out ++ l) (together-equal x y _ _ e (front_rises xs i x in_xs at_x rise_xs))
        ∙ ap (λ l. out ++ with_members R (drop (i + 1) xs) l) (sym right)

    pub both-greater : (made : List K) (v w : K) → made ≡ out ++ w ∷ [] → v ≡ get_or ys j v → w ≡ v
        → R x y ≡ Greater
        → Gives (with_members R) xs ys out i j → Gives (with_members R) xs ys made i (j + 1)
    both-greater made v w is again copy e g =
        both_fronts (with_members R) g
        ∙ ap (λ l. out ++ l) (together-greater x y _ _ e (front_rises xs i x in_xs at_x rise_xs))
        ∙ ap (λ l. out ++ (y ∷ with_members R l (drop (j + 1) ys))) (sym left)
        ∙ put made y w _ is (copied ys j y v w in_ys at_y again copy)

    pub rest-less : R x y ≡ Less → Gives (without_members R) xs ys out i j
        → Gives (without_members R) xs ys out (i + 1) j
    rest-less e g =
        both_fronts (without_members R) g
        ∙ ap (λ l. out ++ l) (alone-less x y _ _ e (front_rises ys j y in_ys at_y rise_ys))
        ∙ ap (λ l. out ++ without_members R (drop (i + 1) xs) l) (sym right)

    pub rest-equal : R x y ≡ Equal → Gives (without_members R) xs ys out i j
        → Gives (without_members R) xs ys out i (j + 1)
    rest-equal e g =
        both_fronts (without_members R) g
        ∙ ap (λ l. out ++ l) (alone-equal x y _ _ e)
        ∙ ap (λ l. out ++ without_members R l (drop (j + 1) ys)) (sym left)

    pub rest-greater : (made : List K) (v w : K) → made ≡ out ++ w ∷ [] → v ≡ get_or ys j v → w ≡ v
        → R x y ≡ Greater
        → Gives (without_members R) xs ys out i j → Gives (without_members R) xs ys made i (j + 1)
    rest-greater made v w is again copy e g =
        both_fronts (without_members R) g
        ∙ ap (λ l. out ++ l) (alone-greater x y _ _ e (front_rises xs i x in_xs at_x rise_xs))
        ∙ ap (λ l. out ++ (y ∷ without_members R l (drop (j + 1) ys))) (sym left)
        ∙ put made y w _ is (copied ys j y v w in_ys at_y again copy)

  -- one of the lists is at its end
  ends : (xs ys out : List K) (i j : ℕ) → (length xs ≤ i) ⊎ (length ys ≤ j) → T (is_rising R xs)
      → Gives (with_members R) xs ys out i j → with_members R xs ys
      ≡ (out ++ drop i xs) ++ drop j ys
  ends xs ys out i j (inl past) h g =
      g ∙ ap (λ l. out ++ with_members R l (drop j ys)) (at_drop_all (λ l. l) xs i past)
      ∙ sym (ap (λ l. (out ++ l) ++ drop j ys) (at_drop_all (λ l. l) xs i past)
      ∙ ap (λ l. l ++ drop j ys) (append-nil out))
  ends xs ys out i j (inr past) h g =
      g ∙ ap (λ l. out ++ with_members R (drop i xs) l) (at_drop_all (λ l. l) ys j past)
      ∙ ap (λ l. out ++ l) (together-none (drop i xs) (rising-drop i xs h))
      ∙ sym (ap (λ l. (out ++ drop i xs) ++ l) (at_drop_all (λ l. l) ys j past)
      ∙ append-nil (out ++ drop i xs))

  -- at the end of either, what is left of both completes the union
  pub both-end : (xs ys out made : List K) (i j : ℕ) → (length xs ≤ i) ⊎ (length ys ≤ j)
      → T (is_rising R xs)
      → Gives (with_members R) xs ys out i j → made ≡ out ++ take (length xs - i) (drop i xs)
      → made ++ take (length ys - j) (drop j ys) ≡ with_members R xs ys
  both-end xs ys out made i j past h g is =
      (λ k. (is ∙ ap (λ l. out ++ l) (take_rest xs i)) k ++ take_rest ys j k)
      ∙ sym (ends xs ys out i j past h g)

  -- at the end of either, what is left of the second
  remains : (xs ys out : List K) (i j : ℕ) → (length xs ≤ i) ⊎ (length ys ≤ j)
      → Gives (without_members R) xs ys out i j → without_members R xs ys ≡ out ++ drop j ys
  remains xs ys out i j (inl past) g =
      g ∙ ap (λ l. out ++ without_members R l (drop j ys)) (at_drop_all (λ l. l) xs i past)
      ∙ ap (λ l. out ++ l) (alone-none (drop j ys))
  remains xs ys out i j (inr past) g =
      g ∙ ap (λ l. out ++ without_members R (drop i xs) l) (at_drop_all (λ l. l) ys j past)
      ∙ sym (ap (λ l. out ++ l) (at_drop_all (λ l. l) ys j past))

  -- so that completes the rest
  pub rest-end : (xs ys out : List K) (i j : ℕ) → (length xs ≤ i) ⊎ (length ys ≤ j)
      → Gives (without_members R) xs ys out i j
      → out ++ take (length ys - j) (drop j ys) ≡ without_members R xs ys
  rest-end xs ys out i j past g = ap (λ l. out ++ l) (take_rest ys j)
      ∙ sym (remains xs ys out i j past g)

  -- ---- what is made is a set of the same kind

  -- a union is a set
  pub is_rising-with_members : (xs ys : List K) → T (is_rising R ys)
      → T (is_rising R (with_members R xs ys))
  is_rising-with_members [] ys h = h
  is_rising-with_members (x ∷ xs) ys h = is_rising-with_member R o x (with_members R xs ys)
      (is_rising-with_members xs ys h)

  -- those of a set that pass a test are a set
  below_each-filter : (test : K → Bool) (x : K) (ys : List K) → T (is_below_each R x ys)
      → T (is_below_each R x (filter test ys))
  below_each-filter test x [] h = tt
  below_each-filter test x (y ∷ ys) h = elim (cases_Bool (test y)) [
    | inl e ↦ rw e
        (both_hold _ _ (first_holds _ _ h) (below_each-filter test x ys (second_holds _ _ h)))
    | inr e ↦ rw e (below_each-filter test x ys (second_holds _ _ h))
  ]

  is_rising-filter : (test : K → Bool) (ys : List K) → T (is_rising R ys)
      → T (is_rising R (filter test ys))
  is_rising-filter test [] h = tt
  is_rising-filter test (y ∷ ys) h = elim (cases_Bool (test y)) [
    | inl e ↦ rw e (both_hold _ _ (below_each-filter test y ys (first_holds _ _ h))
        (is_rising-filter test ys (second_holds _ _ h)))
    | inr e ↦ rw e (is_rising-filter test ys (second_holds _ _ h))
  ]

  -- what is left of a set is a set
  pub is_rising-without_members : (xs ys : List K) → T (is_rising R ys)
      → T (is_rising R (without_members R xs ys))
  is_rising-without_members xs ys h = is_rising-filter (λ y. not (has_member R y xs)) ys h

  module _ (P : K → Type 0) where
    pub all-with_member : (x : K) (ys : List K) → P x → AllByRecursion P ys
        → AllByRecursion P (with_member R x ys)
    all-with_member x [] p h = (p, tt)
    all-with_member x (y ∷ ys) p h =
        elim (R x y) as (λ r. AllByRecursion P
        (by_order r (x ∷ y ∷ ys) (y ∷ ys) (y ∷ with_member R x ys))) [
          | Less ↦ (p, h)
          | Equal ↦ h
          | Greater ↦ (h.0, all-with_member x ys p h.1)
        ]

    pub all-with_members : (xs ys : List K) → AllByRecursion P xs → AllByRecursion P ys
        → AllByRecursion P (with_members R xs ys)
    all-with_members [] ys h k = k
    all-with_members (x ∷ xs) ys h k = all-with_member x (with_members R xs ys) h.0
        (all-with_members xs ys h.1 k)

    pub all-filter : (test : K → Bool) (ys : List K) → AllByRecursion P ys
        → AllByRecursion P (filter test ys)
    all-filter test [] h = tt
    all-filter test (y ∷ ys) h = elim (cases_Bool (test y)) [
      | inl e ↦ rw e (h.0, all-filter test ys h.1)
      | inr e ↦ rw e (all-filter test ys h.1)
    ]

    -- so what two sets make is one, where it isn't too long
    pub are-with_members : (xs ys made : List K) → made ≡ with_members R xs ys → AreMembers P R xs
        → AreMembers P R ys → IsShort made
        → AreMembers P R made
    are-with_members xs ys made is h k short = (
      subst (AllByRecursion P) (sym is) (all-with_members xs ys h.0 k.0),
      subst (λ l. T (is_rising R l)) (sym is) (is_rising-with_members xs ys k.1),
      short,
    )

    pub are-without_members : (xs ys made : List K) → made ≡ without_members R xs ys
        → AreMembers P R ys → IsShort made
        → AreMembers P R made
    are-without_members xs ys made is k short = (
      subst (AllByRecursion P) (sym is) (all-filter (λ y. not (has_member R y xs)) ys k.0),
      subst (λ l. T (is_rising R l)) (sym is) (is_rising-without_members xs ys k.1),
      short,
    )
