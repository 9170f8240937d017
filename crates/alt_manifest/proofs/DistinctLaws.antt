-- Numbers in order differ exactly where they rise strictly.
use Rattle.std.proofs.Common.{◌≡◌, ◌≢◌, ◌<◌, ◌≤◌, ◌+◌, ◌==◌, inl, inr, ℕ, Bool, true, false, List, [], ◌∷◌, refl, sym, ◌∙◌, arith, eqb-true, eq-eqb}
use Rattle.std.proofs.lemmas.Bool.{eqb-false, ne_eqb}
use Rattle.std.proofs.lemmas.List.Sorted.{IsNonDecreasingBy-drop, IsNonDecreasingBy-from_sort, IsPermutation-sym}
use Rattle.std.proofs.lemmas.Map.Keys.{IsDistinct-IsPermutation, IsDistinct-head, IsDistinct-tail, IsDistinct-cons}
use Rattle.std.specs.List.{AllByRecursion, IsDistinct}
use Rattle.std.specs.List.Sorted.{IsNonDecreasing, IsPermutation, IsSorted}
use Rattle.std.specs.Ordering.{nat_cmp}
use Rattle.alt_fields.proofs.Apart.{all_map}
use Rattle.alt_manifest.specs.Versions.{AreDistinct, IsIn, RiseFrom}
use Rattle.alt_manifest.specs.Rules.{Reflects}
use Rattle.alt_manifest.proofs.Among.{rise_distinct}
use Rattle.alt_manifest.proofs.RuleLaws.{tells_both}

-- a number that isn't among others differs from each of them
apart : (ms : List ℕ) (n : ℕ) → (IsIn ms n → ⊥) → AllByRecursion (λ m. (n == m) ≡ false) ms
apart [] n out = tt
apart (m ∷ ms) n out = (ne_eqb n m (λ e. out (inl e)), apart ms n (λ h. out (inr h)))

not_in : (ms : List ℕ) (n : ℕ) → AllByRecursion (λ m. (n == m) ≡ false) ms → IsIn ms n → ⊥
not_in [] n all here = elim here [ ]
not_in (m ∷ ms) n all (inl e) = eqb-false n m all.0 e
not_in (m ∷ ms) n all (inr h) = not_in ms n all.1 h

-- the two words for numbers that differ
to_std : (ns : List ℕ) → AreDistinct ns → IsDistinct (λ x y. x == y) ns
unfolding IsDistinct
to_std [] differ = tt
to_std (n ∷ ns) differ =
    IsDistinct-cons (λ x y. x == y) n ns (apart ns n differ.0) (to_std ns differ.1)

from_std : (ns : List ℕ) → IsDistinct (λ x y. x == y) ns → AreDistinct ns
from_std [] differ = tt
from_std (n ∷ ns) differ = (
  not_in ns n (IsDistinct-head (λ x y. x == y) n ns differ),
  from_std ns (IsDistinct-tail (λ x y. x == y) n ns differ),
)

-- whether two numbers are equal doesn't depend on their order
flips : (x y : ℕ) → (x == y) ≡ (y == x)
flips x y = by_test (x == y) refl where
  by_test : (b : Bool) → (x == y) ≡ b → (x == y) ≡ (y == x)
  by_test true e = e ∙ sym (eq-eqb y x (sym (eqb-true x y e)))
  by_test false e = e ∙ sym (ne_eqb y x (λ back. eqb-false x y e (sym back)))

-- numbers that differ still do in another order
moved : (xs ys : List ℕ) → IsPermutation xs ys → AreDistinct xs → AreDistinct ys
moved xs ys same differ =
    from_std ys (IsDistinct-IsPermutation (λ x y. x == y) flips xs ys same (to_std xs differ))

-- numbers that rise from one on are others than those below it
above : (least : ℕ) (ns : List ℕ) (n : ℕ) → RiseFrom least ns → n < least → IsIn ns n → ⊥
above least [] n rise below here = elim here [ ]
above least (m ∷ ms) n rise below (inl e) = omega (arith, rise.0, below, e)
above least (m ∷ ms) n rise below (inr h) =
    above (m + 1) ms n rise.1 (omega (arith, rise.0, below)) h

-- the first of numbers that don't fall is the least
first_least : (n : ℕ) (ns : List ℕ) → IsNonDecreasing (n ∷ ns) → AllByRecursion (λ m. n ≤ m) ns
first_least n [] up = tt
first_least n (m ∷ ms) up =
    let first : n ≤ m = up 0 1 0 (omega arith) (omega arith) in (
      first,
      all_map (λ k. m ≤ k) (λ k. n ≤ k) ms (λ k le. omega (arith, le, first))
          (first_least m ms (IsNonDecreasingBy-drop (λ x. x) 1 (n ∷ m ∷ ms) up)),
    )

-- numbers that aren't below one, and among which it isn't, are above it
strictly : (n : ℕ) (ns : List ℕ) → AllByRecursion (λ m. n ≤ m) ns → (IsIn ns n → ⊥)
    → AllByRecursion (λ m. n + 1 ≤ m) ns
strictly n [] all out = tt
strictly n (m ∷ ms) all out =
    let other : n ≢ m = λ e. out (inl e) in
    (omega (arith, all.0, other), strictly n ms all.1 (λ h. out (inr h)))

-- numbers that differ and don't fall rise
differ-rise : (least : ℕ) (ns : List ℕ) → IsNonDecreasing ns → AreDistinct ns
    → AllByRecursion (λ m. least ≤ m) ns → RiseFrom least ns
differ-rise least [] up differ all = tt
differ-rise least (n ∷ ns) up differ all = (
  all.0,
  differ-rise (n + 1) ns (IsNonDecreasingBy-drop (λ x. x) 1 (n ∷ ns) up) differ.1
      (strictly n ns (first_least n ns up) differ.0),
)

-- all numbers are 0 or more
from_zero : (ns : List ℕ) → AllByRecursion (λ m. 0 ≤ m) ns
from_zero [] = tt
from_zero (n ∷ ns) = (omega arith, from_zero ns)

-- whether the same numbers rise once they are in order tells whether they differ
pub sorted_tells : (b : Bool) (xs ys : List ℕ) → IsPermutation xs ys → IsSorted nat_cmp ys
    → Reflects b (RiseFrom 0 ys) → Reflects b (AreDistinct xs)
sorted_tells b xs ys same sorted =
    tells_both b (RiseFrom 0 ys) (AreDistinct xs)
    (λ rise. moved ys xs (IsPermutation-sym xs ys same) (rise_distinct 0 ys rise))
    (λ differ. differ-rise 0 ys (IsNonDecreasingBy-from_sort (λ x. x) ys sorted)
    (moved xs ys same differ) (from_zero ys))
