-- Lists whose numbers rise: behind a front of those from a number on stand those from one past the last of the front.
use Rattle.std.proofs.Common.{◌≡◌, refl, sym, ap, ◌∙◌, cond, ℕ, zero, suc, ◌+◌, ◌<◌, ◌≤◌, Bool, true, false, nat_le, List, [], ◌∷◌, ◌++◌, map, Some, None, unwrap_or, All, arith}
use Rattle.std.specs.Prelude.{AllPairs}
use Rattle.std.specs.List.{filter, last_or}
use Rattle.std.proofs.lemmas.List.Elements.{All-head, All-tail}

module _ {A : Type 0} (number : A → ℕ) where
  -- those from a number on
  abbrev pub those_from : ℕ → List A → List A
  those_from n xs = filter (λ x. nat_le n (number x)) xs

  -- the numbers of a list rise
  abbrev pub Rise : List A → Type 0
  Rise xs = AllPairs (λ a b. number a < number b) xs

  -- one past the last number, or that number where there is none
  abbrev pub past : ℕ → List A → ℕ
  past n xs = unwrap_or (last_or None (map (λ x. number x + 1) xs)) n

  -- what is above a number isn't up to it
  not_le : (m n : ℕ) → n < m → nat_le m n ≡ false
  not_le m n h = grind arith

  is_le : (m n : ℕ) → m ≤ n → nat_le m n ≡ true
  is_le m n h = grind arith

  le_so : (m n : ℕ) → nat_le m n ≡ true → m ≤ n
  le_so m n e = grind arith

  lt_so : (m n : ℕ) → nat_le m n ≡ false → n < m
  lt_so m n e = grind arith

  above_head : (x : A) (xs : List A) → Rise (x ∷ xs) → All (λ y. number x < number y) xs
  above_head x xs h = λ k d within. h zero (suc k) d (omega arith) (omega arith)

  rise_tail : (x : A) (xs : List A) → Rise (x ∷ xs) → Rise xs
  rise_tail x xs h = λ i j d lt within. h (suc i) (suc j) d (omega arith) (omega arith)

  -- all are from there on
  all_from : (n m : ℕ) (xs : List A) → All (λ y. n < number y) xs → m ≤ n + 1 → those_from m xs ≡ xs
  all_from n m [] h small = refl
  all_from n m (x ∷ xs) h small =
      let above = All-head (λ y. n < number y) x xs h in
      ap (λ b. cond b (x ∷ those_from m xs) (those_from m xs))
      (is_le m (number x) (omega (arith, above, small)))
      ∙ ap (λ l. x ∷ l) (all_from n m xs (All-tail (λ y. n < number y) x xs h) small)

  same_head : (x y : A) (xs ys : List A) → x ∷ xs ≡ y ∷ ys → x ≡ y
  same_head x y xs ys e = cc

  same_tail : (x y : A) (xs ys : List A) → x ∷ xs ≡ y ∷ ys → xs ≡ ys
  same_tail x y xs ys e = cc

  -- the first of them is one
  first_from : (n : ℕ) (xs : List A) (y : A) (rest : List A) → those_from n xs ≡ y ∷ rest
      → n ≤ number y
  first_from n [] y rest e = absurd (let f : ⊥ = cc in f)
  first_from n (x ∷ xs) y rest e = by (nat_le n (number x)) refl (first_from n xs y rest)
    where
      by : (b : Bool) → nat_le n (number x) ≡ b → (those_from n xs ≡ y ∷ rest → n ≤ number y)
          → n ≤ number y
      by true t more =
          let same : x ≡ y = same_head x y (those_from n xs) rest
          (sym (ap (λ b. cond b (x ∷ those_from n xs) (those_from n xs)) t) ∙ e) in
          let equal : number x ≡ number y = ap number same in
          omega (arith, le_so n (number x) t, equal)
      by false t more = more
          (sym (ap (λ b. cond b (x ∷ those_from n xs) (those_from n xs)) t) ∙ e)

  -- behind the first stand those from one past it
  behind_first : (n : ℕ) (xs : List A) (y : A) (rest : List A) → Rise xs
      → those_from n xs ≡ y ∷ rest → those_from (number y + 1) xs ≡ rest
  behind_first n [] y rest rise e = absurd (let f : ⊥ = cc in f)
  behind_first n (x ∷ xs) y rest rise e = by (nat_le n (number x)) refl
      (behind_first n xs y rest (rise_tail x xs rise))
    where
      skipped : (m : ℕ) → number x < m → those_from m (x ∷ xs) ≡ those_from m xs
      skipped m less =
          ap (λ b. cond b (x ∷ those_from m xs) (those_from m xs)) (not_le m (number x) less)

      by : (b : Bool) → nat_le n (number x) ≡ b
          → (those_from n xs ≡ y ∷ rest → those_from (number y + 1) xs ≡ rest)
          → those_from (number y + 1) (x ∷ xs) ≡ rest
      by true t more =
          let is : x ∷ those_from n xs ≡ y ∷ rest =
          sym (ap (λ b. cond b (x ∷ those_from n xs) (those_from n xs)) t) ∙ e in
          let equal : number x ≡ number y = ap number (same_head x y (those_from n xs) rest is) in
          let low = le_so n (number x) t in
          let above = above_head x xs rise in
          skipped (number y + 1) (omega (arith, equal))
          ∙ all_from (number x) (number y + 1) xs above (omega (arith, equal))
          ∙ sym (all_from (number x) n xs above (omega (arith, low)))
          ∙ same_tail x y (those_from n xs) rest is
      by false t more =
          let is : those_from n xs ≡ y ∷ rest =
          sym (ap (λ b. cond b (x ∷ those_from n xs) (those_from n xs)) t) ∙ e in
          skipped (number y + 1) (omega (arith, lt_so n (number x) t, first_from n xs y rest is))
          ∙ more is

  -- the last number, step by step
  past_some : (n k : ℕ) (ks : List ℕ) → unwrap_or (last_or (Some k) ks) n
      ≡ unwrap_or (last_or None ks) k
  past_some n k [] = refl
  past_some n k (j ∷ ks) = past_some n j ks ∙ sym (past_some k j ks)

  -- the number past a list is the one past its rest, counted from past its first element
  pub past_cons : (n : ℕ) (x : A) (xs : List A) → past n (x ∷ xs) ≡ past (number x + 1) xs
  past_cons n x xs = past_some n (number x + 1) (map (λ y. number y + 1) xs)

  -- the number past two lists is the one past the second, counted from past the first
  pub past-append : (n : ℕ) (xs ys : List A) → past n (xs ++ ys) ≡ past (past n xs) ys
  past-append n [] ys = refl
  past-append n (x ∷ xs) ys = past_cons n x (xs ++ ys) ∙ past-append (number x + 1) xs ys
      ∙ ap (λ m. past m ys) (sym (past_cons n x xs))

  -- behind a front stand those from one past its last
  pub behind_front : (n : ℕ) (xs front rest : List A) → Rise xs → those_from n xs ≡ front ++ rest
      → those_from (past n front) xs ≡ rest
  behind_front n xs [] rest rise e = e
  behind_front n xs (y ∷ front) rest rise e =
      ap (λ m. those_from m xs) (past_cons n y front)
      ∙ behind_front (number y + 1) xs front rest rise (behind_first n xs y (front ++ rest) rise e)
