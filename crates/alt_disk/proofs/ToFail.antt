-- How many calls are still to fail, as the moment goes on.
use Rattle.std.proofs.Common.{◌≡◌, ◌<◌, ◌≤◌, ◌+◌, ◌==◌, ◌||◌, nat_le, cond, ℕ, Bool, true, false, List, [], ◌∷◌}
use Rattle.std.proofs.Common.{length, refl, sym, ◌∙◌, arith}
use Rattle.std.proofs.lemmas.Bool.{false≢true}
use Rattle.std.proofs.lemmas.Bool.Decides.{nat_tests}
use Rattle.std.specs.List.{list_any}
use Rattle.alt_disk.specs.Memory.{to_fail_from}

-- one of them, by whether it is from a moment on
of_one : (m t : ℕ) → (cond (nat_le (m + 1) t) 1 0) ≤ cond (nat_le m t) 1 0
of_one m t = grind (arith, nat_tests)

-- the one of this moment
of_this : (m t : ℕ) → (t == m) ≡ true → (cond (nat_le (m + 1) t) 1 0) < cond (nat_le m t) 1 0
of_this m t this = grind (arith, nat_tests)

-- those of a list with one in front
count_first : (m t : ℕ) (fails : List ℕ)
    → to_fail_from m (t ∷ fails) ≡ (cond (nat_le m t) 1 0) + to_fail_from m fails
count_first m t fails = refl

-- none comes to them
pub later_fails : (m : ℕ) (fails : List ℕ) → to_fail_from (m + 1) fails ≤ to_fail_from m fails
later_fails m [] = omega arith
later_fails m (t ∷ fails) =
    omega (
      arith,
      count_first m t fails,
      count_first (m + 1) t fails,
      of_one m t,
      later_fails m fails,
    )

-- they are at most all
pub few_fail : (m : ℕ) (fails : List ℕ) → to_fail_from m fails ≤ length fails
few_fail m [] = omega arith
few_fail m (t ∷ fails) = omega (
  arith,
  count_first m t fails,
  at_most_one (nat_le m t),
  few_fail m fails,
)
  where
    at_most_one : (b : Bool) → cond b 1 0 ≤ 1
    at_most_one true = omega arith
    at_most_one false = omega arith

-- where it is the first, or where one behind it is
by_first : (m t : ℕ) (fails : List ℕ) (b : Bool) → (t == m) ≡ b
    → (b ≡ false → to_fail_from (m + 1) fails < to_fail_from m fails)
    → to_fail_from (m + 1) (t ∷ fails) < to_fail_from m (t ∷ fails)
by_first m t fails true this behind =
    omega (
      arith,
      count_first m t fails,
      count_first (m + 1) t fails,
      of_this m t this,
      later_fails m fails,
    )
by_first m t fails false other behind =
    omega (arith, count_first m t fails, count_first (m + 1) t fails, of_one m t, behind refl)

-- the call of this moment is one less
pub one_failed : (m : ℕ) (fails : List ℕ) → list_any (λ t. t == m) fails ≡ true
    → to_fail_from (m + 1) fails < to_fail_from m fails
one_failed m [] listed = absurd (false≢true listed)
one_failed m (t ∷ fails) listed =
    by_first m t fails (t == m) refl
    (λ other. one_failed m fails (sym (λ i. other i || list_any (λ u. u == m) fails) ∙ listed))
