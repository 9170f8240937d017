-- Moments behind a number.
use Rattle.std.proofs.Common.{◌≡◌, ◌<◌, ◌≤◌, ◌+◌, ◌-◌, ◌*◌, ◌^◌, refl, sym, ap, subst, ◌∙◌, ℕ, suc, Bool, true, false, Option, Some, None, ◌⊎◌, inl, inr, arith}
use Rattle.std.proofs.Math.IntN.{ℤ, pos, negsuc, ◌+ℤ◌}
use Rattle.std.proofs.Math.Nat.{add-mul, eq-or-lt_of_le}
use Rattle.std.proofs.lemmas.Bool.{false≢true}
use Rattle.std.specs.Prelude.{◌&&◌, not}
use Rattle.std.specs.Ordering.{int_cmp, is_le, is_lt, nat_cmp, ordering_reverse}
use Rattle.std.specs.declared.cmp.Ordering.{Ordering}
use Rattle.std.specs.declared.cmp.Ordering.TheVariants.{Less, Equal, Greater}
use Rattle.std.proofs.lemmas.Cmp.{int_cmp_total}
use Rattle.alt_base.proofs.Orderings.{nat_cmp-equal, nat_cmp-greater, nat_cmp-less}
use Rattle.alt_decimal.specs.Number.{units_in}
use Rattle.alt_decimal.proofs.Orders.{int_cmp-neg_pos, int_cmp-pos}
use Rattle.alt_opening.proofs.TableSteps.{up_to_or_above}
use Rattle.alt_machine.specs.Expiry.{is_over}
use Rattle.alt_machine.specs.declared.TheConstants.{FIVE_YEARS}
use Rattle.alt_rowchanges.specs.Moments.{IsFirstOver, IsMetFrom}
use Rattle.alt_value.specs.Tree.{N_tree}

-- a moment is behind a number
abbrev pub is_passed : ℤ → ℕ → Bool
is_passed z moment = is_lt (int_cmp z (units_in moment))

-- so is each later one
pub passed_later : (z : ℤ) (a b : ℕ) → a ≤ b → is_passed z a ≡ true → is_passed z b ≡ true
passed_later (pos n) a b low passed =
    let less : n < a * 10 ^ 167 = below n (a * 10 ^ 167)
    (ap is_lt (sym (int_cmp-pos n (a * 10 ^ 167))) ∙ passed) in
    let more : b * 10 ^ 167 ≡ (b - a) * 10 ^ 167 + a * 10 ^ 167 =
    ap (λ m. m * 10 ^ 167) (let same : b ≡ (b - a) + a = omega (arith, low) in same)
    ∙ add-mul (b - a) a (10 ^ 167) in
    ap is_lt (int_cmp-pos n (b * 10 ^ 167)) ∙ above n (b * 10 ^ 167) (raised n _ _ _ less more)
  where
    raised : (n x y z : ℕ) → n < x → z ≡ y + x → n < z
    raised n x y z less more = omega (arith, less, more)

    not_less : (m n : ℕ) → n ≤ m → is_lt (nat_cmp m n) ≡ false
    not_less m n le = elim (eq-or-lt_of_le le) [
      | inl same ↦ ap is_lt (nat_cmp-equal m n (sym same))
      | inr more ↦ ap is_lt (nat_cmp-greater m n more)
    ]

    below : (m n : ℕ) → is_lt (nat_cmp m n) ≡ true → m < n
    below m n is = elim (up_to_or_above n m) [
      | inl le ↦ absurd (false≢true (sym (not_less m n le) ∙ is))
      | inr less ↦ less
    ]

    above : (m n : ℕ) → m < n → is_lt (nat_cmp m n) ≡ true
    above m n less = ap is_lt (nat_cmp-less m n less)
passed_later (negsuc n) a b low passed =
    ap is_lt (int_cmp-neg_pos (suc n) (b * 10 ^ 167) (omega arith))

-- where the first one is behind it and the one before isn't, that is the first
pub passed_first : (z : ℤ) (first : ℕ) → is_passed z first ≡ true
    → (0 < first → is_passed z (first - 1) ≡ false) → IsFirstOver z (Some first)
passed_first z first over least = record {
  from = λ moment fits passed. by moment passed (up_to_or_above first moment);
  over = λ f same. subst (λ k. is_passed z k ≡ true) (same_some first f same) over;
}
  where
    same_some : (a b : ℕ) → Some a ≡ Some b → a ≡ b
    same_some a b e = cc

    by : (moment : ℕ) → is_passed z moment ≡ true → (first ≤ moment) ⊎ (moment < first)
        → first ≤ moment
    by moment passed (inl le) = le
    by moment passed (inr less) = absurd (false≢true (sym (least (omega (arith, less)))
        ∙ passed_later z moment (first - 1) (omega (arith, less)) passed))

-- where the last one isn't behind it, none is
pub passed_never : (z : ℤ) → is_passed z (2 ^ 64 - 1) ≡ false → IsFirstOver z None
passed_never z none = record {
  from = λ moment fits passed. absurd (false≢true (sym none
      ∙ passed_later z moment (2 ^ 64 - 1) (omega (arith, fits)) passed));
  over = λ f same. absurd (no_some f same);
}
  where
    no_some : (f : ℕ) → None ≡ Some f → ⊥
    no_some f e = cc

-- ---- times that are over

-- a moment that isn't past a number has no earlier one that is
pub upto_earlier : (y : ℤ) (a b : ℕ) → a ≤ b → is_le (int_cmp (units_in b) y) ≡ true
    → is_le (int_cmp (units_in a) y) ≡ true
upto_earlier y a b low upto = by (is_passed y a) refl
  where
    -- one isn't past it where it isn't behind it
    turned : (n : ℕ) → is_le (int_cmp (units_in n) y) ≡ not (is_passed y n)
    turned n = ap is_le (int_cmp_total.antisymm (units_in n) y) ∙ flip (int_cmp y (units_in n))
      where
        flip : (o : Ordering) → is_le (ordering_reverse o) ≡ not (is_lt o)
        flip Less = refl
        flip Equal = refl
        flip Greater = refl

    by : (p : Bool) → is_passed y a ≡ p → is_le (int_cmp (units_in a) y) ≡ true
    by false e = turned a ∙ ap not e
    by true e = absurd (false≢true (sym (turned b ∙ ap not (passed_later y a b low e)) ∙ upto))

-- so a time is over from the first moment behind it on, until it was too long ago
pub over_from : (z : ℤ) (first : Option ℕ) → IsFirstOver z first
    → IsMetFrom (λ moment. is_over moment (N_tree z)) first
over_from z first is = record {
  from = λ moment fits over. is.from moment fits (left (is_passed z moment) _ over);
  upto = λ f moment later same low high over. both (is_passed z moment) _
      (passed_later z f moment low (is.over f same))
      (upto_earlier (z +ℤ units_in FIVE_YEARS) moment later high
      (right (is_passed z later) _ over));
}
  where
    left : (a b : Bool) → (a && b) ≡ true → a ≡ true
    left true b e = refl
    left false b e = e

    right : (a b : Bool) → (a && b) ≡ true → b ≡ true
    right true b e = e
    right false b e = absurd (false≢true e)

    both : (a b : Bool) → a ≡ true → b ≡ true → (a && b) ≡ true
    both true b e f = f
    both false b e f = e

-- a test that is never met has no first moment
pub met_never : IsMetFrom (λ moment. false) None
met_never = record {
  from = λ moment fits no. absurd (false≢true no);
  upto = λ f moment later same low high no. no;
}
