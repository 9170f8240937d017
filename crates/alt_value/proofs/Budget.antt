-- What is left of a budget after one part and then another.
use Rattle.std.proofs.Common.{◌≡◌, refl, sym, ap, ◌∙◌, ℕ, ◌+◌, ◌-◌, ◌<◌, ◌≤◌, inl, inr, Some, None, arith}
use Rattle.std.proofs.lemmas.Bool.{cases_lt, le-leb, lt-leb}
use Rattle.alt_value.specs.Size.{left_after}

-- a budget that is enough, and one that isn't
pub enough : (budget n : ℕ) → n ≤ budget → left_after budget n ≡ Some (budget - n)
enough budget n h = rw (le-leb n budget h) refl

-- one that isn't
pub wanting : (budget n : ℕ) → budget < n → left_after budget n ≡ None
wanting budget n h = rw (lt-leb n budget h) refl

-- a budget that isn't enough for a part isn't for the whole
pub left_short : (budget a b : ℕ) → None ≡ left_after budget a → None ≡ left_after budget (a + b)
left_short budget a b e = elim (cases_lt budget a) [
  | inl h ↦ sym (wanting budget (a + b) (omega arith))
  | inr h ↦ let f : None ≡ Some (budget - a) = e ∙ enough budget a h in cc
]

-- what a part leaves of a budget is there for the rest
pub left_on : (budget a b left : ℕ) → Some left ≡ left_after budget a
    → left_after left b ≡ left_after budget (a + b)
left_on budget a b left e = elim (cases_lt budget a) [
  | inl h ↦ let f : Some left ≡ None = e ∙ wanting budget a h in cc
  | inr h ↦
      let f : Some left ≡ Some (budget - a) = e ∙ enough budget a h in
      let g : left ≡ budget - a = cc in
      elim (cases_lt left b) [
        | inl short ↦ wanting left b short ∙ sym (wanting budget (a + b) (omega arith))
        | inr fits ↦
            let same : left - b ≡ budget - (a + b) = omega arith in
            enough left b fits ∙ ap Some same ∙ sym (enough budget (a + b) (omega arith))
      ]
]
