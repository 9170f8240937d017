-- From which moment on a time is over.
use Rattle.std.specs.Prelude.{◌≡◌, ◌≤◌, ◌<◌, ◌^◌, ℕ, ℤ, Bool, true, Option, Some, None}
use Rattle.std.specs.Ordering.{int_cmp, is_lt}
use Rattle.alt_decimal.specs.Number.{units_in}

-- Moments are told in 64 bits, in seconds.

-- a moment isn't before the first one, where there is one
abbrev pub IsMomentFrom : Option ℕ → ℕ → Type 0
IsMomentFrom None moment = 2 ^ 64 ≤ moment
IsMomentFrom (Some first) moment = first ≤ moment

-- That is the first moment behind a number.
pub record IsFirstOver (z : ℤ) (first : Option ℕ) : Type 0 where
  pub from : (moment : ℕ) → moment < 2 ^ 64 → is_lt (int_cmp z (units_in moment)) ≡ true
      → IsMomentFrom first moment
  pub over : (f : ℕ) → first ≡ Some f → is_lt (int_cmp z (units_in f)) ≡ true

-- A test of moments, as whether an item has expired, is met from a first moment on, up to one from which on it never is.
pub record IsMetFrom (test : ℕ → Bool) (first : Option ℕ) : Type 0 where
  pub from : (moment : ℕ) → moment < 2 ^ 64 → test moment ≡ true → IsMomentFrom first moment
  pub upto : (f moment later : ℕ) → first ≡ Some f → f ≤ moment → moment ≤ later
      → test later ≡ true → test moment ≡ true
