-- Each number above 0 is its digits without the zeros behind, and these zeros.
use Rattle.std.proofs.Common.{◌≡◌, ℕ, zero, suc, ◌*◌, ◌/◌, ◌%◌, ◌^◌, ◌<◌, ◌≤◌, sym, ap, ◌∙◌, arith, inl, inr}
use Rattle.std.proofs.lemmas.Bool.{cases_eq}
use Rattle.alt_decimal.specs.Normal.{mul-ten_pow}

-- n is c with so many zeros behind it
pub record Trimmed (n : ℕ) : Type 0 where
  pub coefficient : ℕ
  pub behind : ℕ
  pub is : n ≡ coefficient * 10 ^ behind
  pub last : 0 < coefficient % 10

-- a number without its zeros, in so many steps
trimmed_within : (f n : ℕ) → 0 < n → n ≤ f → Trimmed n
trimmed_within zero n some h = absurd (omega arith)
trimmed_within (suc f) n some h = elim (cases_eq (n % 10) 0) [
  | inl none ↦
      let t : Trimmed (n / 10) = trimmed_within f (n / 10) (omega (arith, none)) (omega arith) in
      let e : n ≡ n / 10 * 10 = omega (arith, none) in
      record {
        coefficient = t.coefficient;
        behind = suc t.behind;
        is =
            e ∙ ap (λ m. m * 10) t.is ∙ sym (mul-ten_pow t.coefficient t.behind);
        last = t.last;
      }
  | inr digit ↦ record {
    coefficient = n;
    behind = 0;
    is = omega arith;
    last =
        omega (arith, digit);
  }
]

-- each number above zero is one with zeros behind it
pub trimmed_of : (n : ℕ) → 0 < n → Trimmed n
trimmed_of n h = trimmed_within n n h (omega arith)
