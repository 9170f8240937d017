-- Times that are over, by whole numbers of units.
use Rattle.std.proofs.Common.{◌≡◌, ◌≤◌, ◌-◌, ◌+◌, ◌*◌, ◌^◌, refl, sym, ap, subst, ◌∙◌, ℕ, zero, suc, inl, inr, arith, Ok, Err, Result}
use Rattle.std.proofs.Math.IntN.{ℤ, pos, neg_ℤ, nat_abs, ◌+ℤ◌, ◌-ℤ◌, +ℤ_assoc, +ℤ_idl, +ℤ_invr, +ℤ-neg_ℤ_cancel, neg_ℤ-+ℤ}
use Rattle.std.proofs.Math.Nat.{add-mul}
use Rattle.alt_decimal.specs.Number.{FitsDecimal, IsMagnitude, fitted_units, units_in}
use Rattle.alt_decimal.specs.declared.fault.NumberFault.{NumberFault}
use Rattle.alt_decimal.proofs.Fitting.{fitted_units-Fits}

-- ---- moments before 1970

abs_neg : (m : ℕ) → nat_abs (neg_ℤ (pos m)) ≡ m
abs_neg zero = refl
abs_neg (suc m) = refl

-- what fits does so below zero
below_fits : (m : ℕ) → FitsDecimal (pos m) → FitsDecimal (pos 0 -ℤ pos m)
below_fits m h = subst FitsDecimal (sym (+ℤ_idl (neg_ℤ (pos m)))) (elim h [
  | inl none ↦ inl (ap (λ (z : ℤ). neg_ℤ z) none)
  | inr size ↦ inr (subst IsMagnitude (sym (abs_neg m)) size)
])

-- so it is the difference to zero
pub below_zero : (m : ℕ) → FitsDecimal (pos m) → fitted_units (pos 0 -ℤ pos m) ≡ Ok (pos 0 -ℤ pos m)
below_zero m h = fitted_units-Fits (pos 0 -ℤ pos m) (below_fits m h)

-- of a number of seconds
pub is_below : (n : ℕ) (zero_is count_is : ℤ) (r : Result ℤ NumberFault) → zero_is ≡ units_in 0
    → count_is ≡ units_in n → FitsDecimal count_is → r ≡ fitted_units (zero_is -ℤ count_is)
    → r ≡ Ok (units_in 0 -ℤ units_in n)
is_below n zero_is count_is r none some fits is =
    is ∙ (λ i. fitted_units (none i -ℤ some i)) ∙ below_zero (n * 10 ^ 167) (subst FitsDecimal some fits)

pub same_ok : (r : Result ℤ NumberFault) (x y : ℤ) → r ≡ Ok x → r ≡ Ok y → x ≡ y
same_ok r x y e f = cc

-- and no fault
pub no_fault : (r : Result ℤ NumberFault) (z : ℤ) (f : NumberFault) → r ≡ Ok z → r ≡ Err f → ⊥
no_fault r z f is fails = let no : Ok z ≡ Err f = sym is ∙ fails in cc no

-- ---- differences of moments

-- of so many seconds in units
pub later : (a b p : ℕ) → a ≤ b → pos ((b - a) * p) ≡ pos (b * p) -ℤ pos (a * p)
later a b p le =
    let whole : b * p ≡ (b - a) * p + a * p =
    ap (λ n. n * p) (let same : b ≡ (b - a) + a = omega (arith, le) in same) ∙ add-mul (b - a) a p in
    sym (ap (λ n. pos n -ℤ pos (a * p)) whole
    ∙ +ℤ-neg_ℤ_cancel (pos ((b - a) * p)) (pos (a * p)))

pub earlier : (a b p : ℕ) → a ≤ b → pos 0 -ℤ pos ((b - a) * p) ≡ pos (a * p) -ℤ pos (b * p)
earlier a b p le =
    let whole : b * p ≡ a * p + (b - a) * p =
    ap (λ n. n * p) (let same : b ≡ a + (b - a) = omega (arith, le) in same) ∙ add-mul a (b - a) p in
    sym (ap (λ n. pos (a * p) -ℤ pos n) whole
    ∙ ap (λ z. pos (a * p) +ℤ z) (neg_ℤ-+ℤ (pos (a * p)) (pos ((b - a) * p)))
    ∙ sym (+ℤ_assoc (pos (a * p)) (neg_ℤ (pos (a * p))) (neg_ℤ (pos ((b - a) * p))))
    ∙ ap (λ z. z +ℤ neg_ℤ (pos ((b - a) * p))) (+ℤ_invr (pos (a * p))))
