-- Lists with an element more, and lists of which some are left out.
use Rattle.std.proofs.Common.{◌≡◌, ◌≢◌, ◌⊎◌, refl, sym, ap, ◌∙◌, ℕ, zero, suc, ◌≤◌, Bool, true, false, cond, not, ◌&&◌, ◌||◌, List, [], ◌∷◌, ◌++◌, map, length, inl, inr, All, AllPairs, Contains, arith}
use Rattle.std.specs.List.{filter, list_all, list_any}
use Rattle.std.specs.Str.{bytes_eq}
use Rattle.std.proofs.lemmas.List.Elements.{All-cons, All-head, All-tail, All-weaker, All-contains, All-contains_itself}
use Rattle.std.proofs.lemmas.List.Folds.{list_all-append}
use Rattle.std.proofs.lemmas.List.Kept.{AllPairs-cons}
use Rattle.std.proofs.lemmas.Bool.{and_from, or_from, not_from_false, not-true}
use Rattle.std.specs.Cmp.{first_so, second_so}
use Rattle.alt_base.proofs.Bools.{neither_first, neither_second}
use Rattle.alt_schema.specs.Rules.{all_differ}

-- ---- tests

module _ {A : Type 0} (p : A → Bool) where
  -- what all of a list pass the last one passes
  pub last_passes : (xs ys : List A) (x : A) → list_all p (xs ++ (ys ++ x ∷ [])) ≡ true
      → p x ≡ true
  last_passes xs ys x h =
      let behind : (list_all p xs && list_all p (ys ++ x ∷ [])) ≡ true =
      sym (list_all-append p xs (ys ++ x ∷ [])) ∙ h in
      let both_pass : (list_all p ys && list_all p (x ∷ [])) ≡ true =
      sym (list_all-append p ys (x ∷ [])) ∙ second_so (list_all p xs) _ behind in
      first_so (p x) true (second_so (list_all p ys) _ both_pass)

  -- one more that passes
  pub push_passes : (xs ys : List A) (x : A) → list_all p (xs ++ ys) ≡ true → p x ≡ true
      → list_all p (xs ++ (ys ++ x ∷ [])) ≡ true
  push_passes [] ys x h is = list_all-append p ys (x ∷ [])
      ∙ and_from (list_all p ys) _ h (and_from (p x) true is refl)
  push_passes (y ∷ xs) ys x h is = and_from (p y) _ (first_so (p y) _ h)
      (push_passes xs ys x (second_so (p y) _ h) is)

  -- where all pass a test, those that are left pass it
  pub filter_passes : (q : A → Bool) (xs : List A) → list_all p xs ≡ true
      → list_all p (filter q xs) ≡ true
  filter_passes q [] h = refl
  filter_passes q (x ∷ xs) h =
      let rest : list_all p (filter q xs) ≡ true = filter_passes q xs (second_so (p x) _ h) in
      elim (q x) as (λ c. list_all p (cond c (x ∷ filter q xs) (filter q xs)) ≡ true) [
        | true ↦ and_from (p x) _ (first_so (p x) _ h) rest
        | false ↦ rest
      ]

  -- and so they do behind others
  pub behind_passes : (q : A → Bool) (xs ys : List A) → list_all p (xs ++ ys) ≡ true
      → list_all p (xs ++ filter q ys) ≡ true
  behind_passes q [] ys h = filter_passes q ys h
  behind_passes q (x ∷ xs) ys h = and_from (p x) _ (first_so (p x) _ h)
      (behind_passes q xs ys (second_so (p x) _ h))

  -- those that pass pass
  pub filter_pass : (xs : List A) → list_all p (filter p xs) ≡ true
  filter_pass [] = refl
  filter_pass (x ∷ xs) =
      elim (p x) as (λ c. p x ≡ c → list_all p (cond c (x ∷ filter p xs) (filter p xs)) ≡ true) [
        | true ↦ λ e. and_from (p x) _ e (filter_pass xs)
        | false ↦ λ e. filter_pass xs
      ] refl

  -- where none passes none of those that are left does
  pub none_left : (q : A → Bool) (xs ys : List A) → list_any p (xs ++ ys) ≡ false
      → list_any p (xs ++ filter q ys) ≡ false
  none_left q [] [] h = refl
  none_left q [] (y ∷ ys) h =
      let rest : list_any p (filter q ys) ≡ false =
      none_left q [] ys (neither_second (p y) _ h) in
      elim (q y) as (λ c. list_any p (cond c (y ∷ filter q ys) (filter q ys)) ≡ false) [
        | true ↦ or_from (p y) _ (neither_first (p y) _ h) rest
        | false ↦ rest
      ]
  none_left q (x ∷ xs) ys h = or_from (p x) _ (neither_first (p x) _ h)
      (none_left q xs ys (neither_second (p x) _ h))

  -- there are no more of them
  pub fewer_left : (q : A → Bool) (xs : List A) → length (filter p (filter q xs))
      ≤ length (filter p xs)
  fewer_left q [] = omega arith
  fewer_left q (x ∷ xs) = by (q x) (fewer_left q xs)
    where
      by_kept : (b : Bool) → length (filter p (filter q xs)) ≤ length (filter p xs)
          → length (cond b (x ∷ filter p (filter q xs)) (filter p (filter q xs)))
          ≤ length (cond b (x ∷ filter p xs) (filter p xs))
      by_kept true h = omega (arith, h)
      by_kept false h = h

      by_gone : (b : Bool) → length (filter p (filter q xs)) ≤ length (filter p xs)
          → length (filter p (filter q xs)) ≤ length (cond b (x ∷ filter p xs) (filter p xs))
      by_gone true h = omega (arith, h)
      by_gone false h = h

      by : (c : Bool) → length (filter p (filter q xs)) ≤ length (filter p xs)
          → length (filter p (cond c (x ∷ filter q xs) (filter q xs)))
          ≤ length (cond (p x) (x ∷ filter p xs) (filter p xs))
      by true h = by_kept (p x) h
      by false h = by_gone (p x) h

-- names that differ differ in what is left
pub differ_left : {A : Type 0} (name : A → List ℕ) (q : A → Bool) (xs ys : List A)
    → all_differ name (xs ++ ys) ≡ true → all_differ name (xs ++ filter q ys) ≡ true
differ_left name q [] [] h = refl
differ_left name q [] (y ∷ ys) h =
    let rest : all_differ name (filter q ys) ≡ true =
    differ_left name q [] ys
    (second_so (not (list_any (λ x. bytes_eq (name x) (name y)) ys)) _ h) in
    elim (q y) as (λ c. all_differ name (cond c (y ∷ filter q ys) (filter q ys)) ≡ true) [
      | true ↦ and_from (not (list_any (λ x. bytes_eq (name x) (name y)) (filter q ys))) _
          (not_from_false _ (none_left (λ x. bytes_eq (name x) (name y)) q [] ys (not-true _
          (first_so (not (list_any (λ x. bytes_eq (name x) (name y)) ys)) _ h)))) rest
      | false ↦ rest
    ]
differ_left name q (x ∷ xs) ys h =
    and_from (not (list_any (λ y. bytes_eq (name y) (name x)) (xs ++ filter q ys))) _
    (not_from_false _ (none_left (λ y. bytes_eq (name y) (name x)) q xs ys (not-true _
    (first_so (not (list_any (λ y. bytes_eq (name y) (name x)) (xs ++ ys))) _ h))))
    (differ_left name q xs ys
    (second_so (not (list_any (λ y. bytes_eq (name y) (name x)) (xs ++ ys))) _
    h))

-- names differ as they stand in a list
names_any : {A : Type 0} (name : A → List ℕ) (x : List ℕ) (xs : List A)
    → list_any (λ y. bytes_eq (name y) x) xs ≡ list_any (λ n. bytes_eq n x) (map name xs)
names_any name x [] = refl
names_any name x (y ∷ ys) = ap (λ c. bytes_eq (name y) x || c) (names_any name x ys)

pub names_differ : {A : Type 0} (name : A → List ℕ) (xs : List A)
    → all_differ name xs ≡ all_differ (λ (n : List ℕ). n) (map name xs)
names_differ name [] = refl
names_differ name (x ∷ xs) = λ j. not (names_any name (name x) xs j) && names_differ name xs j

-- ---- facts

module _ {A : Type 0} where
  -- one more of which it holds
  pub all_inserted : (P : A → Type 0) (xs ys : List A) (x : A) → P x → All P (xs ++ ys)
      → All P (xs ++ x ∷ ys)
  all_inserted P [] ys x is h = All-cons P x ys is h
  all_inserted P (y ∷ xs) ys x is h = All-cons P y (xs ++ x ∷ ys)
      (All-head P y (xs ++ ys) h) (all_inserted P xs ys x is (All-tail P y (xs ++ ys) h))

  -- it is one of those, or the new one
  pub inserted_is : (xs ys : List A) (x y : A) → Contains (xs ++ x ∷ ys) y
      → Contains (xs ++ ys) y ⊎ (x ≡ y)
  inserted_is xs ys x y at = All-contains (λ z. Contains (xs ++ ys) z ⊎ (x ≡ z)) (xs ++ x ∷ ys) y
      (all_inserted (λ z. Contains (xs ++ ys) z ⊎ (x ≡ z)) xs ys x (inr refl)
      (All-weaker (Contains (xs ++ ys)) (λ z. Contains (xs ++ ys) z ⊎ (x ≡ z)) (λ z is. inl is)
      (xs ++ ys) (All-contains_itself (xs ++ ys)))) at

  -- the pairs of a list behind its first
  pub tail_pairs : (R : A → A → Type 0) (x : A) (xs : List A) → AllPairs R (x ∷ xs) → AllPairs R xs
  tail_pairs R x xs h i j d lt within = h (suc i) (suc j) d (omega arith) (omega arith)

  -- and those of the first
  pub head_pairs : (R : A → A → Type 0) (x : A) (xs : List A) → AllPairs R (x ∷ xs) → All (R x) xs
  head_pairs R x xs h k d within = h zero (suc k) d (omega arith) (omega arith)

  -- elements that differ, with one more that differs from all
  pub differ_inserted : (xs ys : List A) (x : A) → All (λ y. y ≢ x) (xs ++ ys)
      → AllPairs (λ y z. y ≢ z) (xs ++ ys) → AllPairs (λ y z. y ≢ z) (xs ++ x ∷ ys)
  differ_inserted [] ys x apart h = AllPairs-cons (λ y z. y ≢ z) x ys
      (All-weaker (λ y. y ≢ x) (λ y. x ≢ y) (λ y no e. no (sym e)) ys apart) h
  differ_inserted (y ∷ xs) ys x apart h = AllPairs-cons (λ a b. a ≢ b) y (xs ++ x ∷ ys)
      (all_inserted (λ z. y ≢ z) xs ys x (All-head (λ a. a ≢ x) y (xs ++ ys) apart)
      (head_pairs (λ a b. a ≢ b) y (xs ++ ys) h))
      (differ_inserted xs ys x (All-tail (λ a. a ≢ x) y (xs ++ ys) apart)
      (tail_pairs (λ a b. a ≢ b) y (xs ++ ys) h))

module _ {A B : Type 0} (f : A → B) (q : A → Bool) (zs : List B) where
  -- what holds of what is made of each holds of what is made of those that are left
  pub all_left : (P : B → Type 0) (xs ys : List A) → All P (map f (xs ++ ys) ++ zs)
      → All P (map f (xs ++ filter q ys) ++ zs)
  all_left P [] [] h = h
  all_left P [] (y ∷ ys) h =
      let rest : All P (map f (filter q ys) ++ zs) =
      all_left P [] ys (All-tail P (f y) (map f ys ++ zs) h) in
      elim (q y) as (λ c. All P (map f (cond c (y ∷ filter q ys) (filter q ys)) ++ zs)) [
        | true ↦ All-cons P (f y) (map f (filter q ys) ++ zs)
            (All-head P (f y) (map f ys ++ zs) h) rest
        | false ↦ rest
      ]
  all_left P (x ∷ xs) ys h = All-cons P (f x) (map f (xs ++ filter q ys) ++ zs)
      (All-head P (f x) (map f (xs ++ ys) ++ zs) h)
      (all_left P xs ys (All-tail P (f x) (map f (xs ++ ys) ++ zs) h))

  -- and so of pairs
  pub pairs_left : (R : B → B → Type 0) (xs ys : List A) → AllPairs R (map f (xs ++ ys) ++ zs)
      → AllPairs R (map f (xs ++ filter q ys) ++ zs)
  pairs_left R [] [] h = h
  pairs_left R [] (y ∷ ys) h =
      let rest : AllPairs R (map f (filter q ys) ++ zs) =
      pairs_left R [] ys (tail_pairs R (f y) (map f ys ++ zs) h) in
      elim (q y) as (λ c. AllPairs R (map f (cond c (y ∷ filter q ys) (filter q ys)) ++ zs)) [
        | true ↦ AllPairs-cons R (f y) (map f (filter q ys) ++ zs)
            (all_left (R (f y)) [] ys (head_pairs R (f y) (map f ys ++ zs) h)) rest
        | false ↦ rest
      ]
  pairs_left R (x ∷ xs) ys h = AllPairs-cons R (f x) (map f (xs ++ filter q ys) ++ zs)
      (all_left (R (f x)) xs ys (head_pairs R (f x) (map f (xs ++ ys) ++ zs) h))
      (pairs_left R xs ys (tail_pairs R (f x) (map f (xs ++ ys) ++ zs) h))
