-- Walks over lists by an index: what is left decides as the whole does.
use Rattle.std.proofs.Common.{◌≡◌, ◌<◌, ◌≤◌, ◌+◌, ◌*◌, ◌-◌, ℕ, min, subst, Some, None, List, [], ◌∷◌, length, drop, get_or, Bool, true, false, cond, refl, sym, ap, ◌∙◌, arith}
use Rattle.std.proofs.lemmas.List.{drop_more}
use Rattle.std.proofs.lemmas.Bool.Decides.{nat_tests}
use Rattle.std.proofs.lemmas.List.Folds.{list_all_at}
use Rattle.std.specs.Prelude.{nat_lt, ◌&&◌, ◌||◌, not}
use Rattle.std.specs.List.{list_all, list_any}
use Rattle.std.specs.Str.{bytes_eq}
use Rattle.alt_http.specs.Fields.{first_field_value}
use Rattle.alt_http.specs.Judged.{length_refusal, body_length, most_of_body}
use Rattle.alt_http.specs.Lengths.{is_length, is_other_length, without_zeros}
use Rattle.std.specs.Char.{digit_value, is_ascii_digit}
use Rattle.std.specs.Str.Parse.{digits_value, digits_value_after}

-- the item at the index, and what is behind it
pub left_is : {X A : Type 0} (f : List X → A) (xs : List X) (k : ℕ) (d : X) (whole : A)
    → k < length xs → f (drop k xs) ≡ whole
    → f (get_or xs k d ∷ drop (k + 1) xs) ≡ whole
left_is f xs k d whole below is = ap f (sym (drop_more xs k d below)) ∙ is

-- numbers that are the same up to a limit stay so behind the same digits
pub same_capped : (limit a b : ℕ) (digits : List ℕ) → min a limit ≡ min b limit
    → min (digits_value_after 10 a digits) limit ≡ min (digits_value_after 10 b digits) limit
same_capped limit a b [] same = same
same_capped limit a b (d ∷ digits) same = same_capped limit (a * 10 + digit_value d)
    (b * 10 + digit_value d) digits (omega arith)

-- the value of a digit
pub digit_value-digit : (c : ℕ) → is_ascii_digit c ≡ true → digit_value c ≡ c - 48
digit_value-digit c is = grind (arith, nat_tests)

-- a digit is a byte from 48 to 57
pub is_ascii_digit-range : (c : ℕ) → is_ascii_digit c ≡ true → (48 ≤ c) × (c ≤ 57)
is_ascii_digit-range c is = grind (arith, nat_tests)

-- what is told with one that isn't, isn't told
no_and : (t : Bool) → (t && false) ≡ true → ⊥
no_and true e = cc
no_and false e = cc

-- each byte of a number is a digit
pub digit_at : (text : List ℕ) (k : ℕ) → is_length text ≡ true → k < length text
    → is_ascii_digit (get_or text k 0) ≡ true
digit_at text k is below = by_test (is_ascii_digit (get_or text k 0)) refl
  where
    by_test : (t : Bool) → is_ascii_digit (get_or text k 0) ≡ t
        → is_ascii_digit (get_or text k 0) ≡ true
    by_test true same = same
    by_test false same =
        let none : list_all is_ascii_digit text ≡ false =
        list_all_at is_ascii_digit text k 0 below same in
        let both : (nat_lt 0 (length text) && false) ≡ true =
        ap (λ (t : Bool). nat_lt 0 (length text) && t) (sym none) ∙ is in
        absurd (no_and (nat_lt 0 (length text)) both)

-- the first of the values is a number where none is another
pub first_is_length : (first : List ℕ) (rest : List (List ℕ))
    → list_any (is_other_length first) (first ∷ rest) ≡ false → is_length first ≡ true
first_is_length first rest none = go (is_length first)
    (not (bytes_eq (without_zeros first) (without_zeros first)))
    (list_any (is_other_length first) rest) none
  where
    go : (a b c : Bool) → ((not a || b) || c) ≡ false → a ≡ true
    go true b c e = refl
    go false b c e = cc

-- What the lengths that are given come to, by the first of them.

-- where another length is given, the lengths are refused
pub length_other : (values : List (List ℕ)) (first : List ℕ) → Some first ≡ first_field_value values
    → true ≡ list_any (is_other_length first) values
    → length_refusal values ≡ Some 8
length_other [] first is other = cc
length_other (v ∷ vs) first is other =
    let same : v ≡ first = cc in
    let test : list_any (is_other_length v) (v ∷ vs) ≡ true =
    ap (λ (l : List ℕ). list_any (is_other_length l) (v ∷ vs)) same ∙ sym other in
    ap (λ (t : Bool). cond t (Some 8) (cond (nat_lt most_of_body (digits_value 10 v))
    (Some 9) None)) test

-- the two tests of lengths, where they are known
by_tests : (v : List ℕ) (vs : List (List ℕ)) (other long : Bool)
    → list_any (is_other_length v) (v ∷ vs) ≡ other → nat_lt most_of_body (digits_value 10 v) ≡ long
    → length_refusal (v ∷ vs) ≡ cond other (Some 8) (cond long (Some 9) None)
by_tests v vs other long a b = λ i. cond (a i) (Some 8) (cond (b i) (Some 9) None)

same_first : (v first : List ℕ) (vs : List (List ℕ)) (t : Bool) → v ≡ first
    → t ≡ list_any (is_other_length first) (v ∷ vs) → list_any (is_other_length v) (v ∷ vs) ≡ t
same_first v first vs t same is = ap (λ (l : List ℕ). list_any (is_other_length l) (v ∷ vs)) same
    ∙ sym is

-- where the first is past the longest body, the lengths are refused
pub length_long : (values : List (List ℕ)) (first : List ℕ) → Some first ≡ first_field_value values
    → false ≡ list_any (is_other_length first) values
    → 16777216 < min (digits_value 10 first) 16777217 → length_refusal values ≡ Some 9
length_long [] first is none long = cc
length_long (v ∷ vs) first is none long =
    let same : v ≡ first = cc in
    by_tests v vs false true (same_first v first vs false same none)
    (above (digits_value 10 v) (subst (λ (l : List ℕ). 16777216 < min (digits_value 10 l) 16777217)
    (sym same) long))
  where
    above : (n : ℕ) → 16777216 < min n 16777217 → nat_lt 16777216 n ≡ true
    above n h = let more : 16777216 < n = omega arith in grind (arith, nat_tests)

-- else they aren't, and the first is the length of the body
pub length_fits : (values : List (List ℕ)) (first : List ℕ) → Some first ≡ first_field_value values
    → false ≡ list_any (is_other_length first) values
    → min (digits_value 10 first) 16777217 ≤ 16777216
    → (length_refusal values ≡ None) × (min (digits_value 10 first) 16777217 ≡ body_length values)
length_fits [] first is none fits = cc
length_fits (v ∷ vs) first is none fits =
    let same : v ≡ first = cc in
    let few = subst (λ (l : List ℕ). min (digits_value 10 l) 16777217 ≤ 16777216) (sym same) fits in (
      by_tests v vs false false (same_first v first vs false same none)
          (within (digits_value 10 v) few),
      ap (λ (l : List ℕ). min (digits_value 10 l) 16777217) (sym same)
          ∙ uncapped (digits_value 10 v) few,
    )
  where
    within : (n : ℕ) → min n 16777217 ≤ 16777216 → nat_lt 16777216 n ≡ false
    within n h = let few : n ≤ 16777216 = omega arith in grind (arith, nat_tests)

    uncapped : (n : ℕ) → min n 16777217 ≤ 16777216 → min n 16777217 ≡ n
    uncapped n h = omega arith

-- the number of a value that is the first, where none is another
pub found_is_length : (values : List (List ℕ)) (first : List ℕ) → Some first ≡ first_field_value values
    → false ≡ list_any (is_other_length first) values → is_length first ≡ true
found_is_length [] first is none = cc
found_is_length (v ∷ vs) first is none =
    let same : v ≡ first = cc in
    first_is_length first vs (ap (λ (l : List ℕ). list_any (is_other_length first) (l ∷ vs))
    (sym same) ∙ sym none)
