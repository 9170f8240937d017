-- A member or a name that is tested against the last one.
use Rattle.std.proofs.Common.{◌≡◌, ◌≢◌, refl, sym, subst, ℕ, zero, suc, ◌-◌, List, [], ◌∷◌, ◌++◌, length, Some, None, T, arith}
use Rattle.std.specs.Prelude.{Bool, true, false, IsTrue, slice_get}
use Rattle.std.specs.Cmp.{IsTotalOrder}
use Rattle.std.specs.Ordering.{is_lt}
use Rattle.std.specs.declared.cmp.Ordering.{Ordering}
use native.Mathlib.Numerals.{unary_clauses}
use Rattle.alt_base.proofs.Lists.{get-past}
use Rattle.alt_base.proofs.Orderings.{less-holds, is_lt-holds}
use Rattle.alt_value.specs.Item.{IsItem}
use Rattle.alt_value.specs.Members.{IsSet, text_order}
use Rattle.alt_value.specs.Tree.{Tree, Pair}
use Rattle.alt_cellbytes.proofs.Rising.{rising_more, above_last, item_more, name_above}

-- the last member is there
pub past : {A : Type 0} (xs : List A) (count : ℕ) → count ≡ length xs → count ≢ 0
    → None ≡ slice_get xs (count - 1) → ⊥
past xs zero n some e = some refl
past xs (suc i) n some e = omega (arith, n, get-past xs (suc i - 1) e)

-- a test as a truth, and back
is_T : (b : Bool) → IsTrue b → T b
is_T true t = tt
is_T false t = absurd (let f : ⊥ = cc in f)

is_True : (b : Bool) → T b → IsTrue b
is_True true t = refl
is_True false t = absurd t

truth : (b : Bool) (r : Ordering) → b ≡ is_lt r → IsTrue b
    → r ≡ Rattle.std.specs.declared.cmp.Ordering.TheVariants.Less
truth b r e t = is_lt-holds r (is_T (is_lt r) (subst IsTrue e t))

module _ {K : Type 0} (R : K → K → Ordering) (o : IsTotalOrder R) where
  -- a test against the last member
  pub next_tested : (xs : List K) (count : ℕ) (l y : K) (b : Bool) → IsSet R xs → count ≡ length xs
      → count ≢ 0 → Some l ≡ slice_get xs (count - 1)
      → b ≡ is_lt (R l y) → (IsTrue b → IsSet R (xs ++ y ∷ []))
      × (IsSet R (xs ++ y ∷ []) → IsTrue b)
  next_tested xs zero l y b h n some e is = absurd (some refl)
  next_tested xs (suc i) l y b h n some e is =
      let here : Some l ≡ slice_get xs i = simp unary_clauses at e in (
        (λ t. rising_more R o xs i l y h (omega (arith, n)) here (truth b (R l y) is t)),
        (λ s. subst IsTrue (sym is) (is_True (is_lt (R l y))
            (less-holds (R l y) (above_last R o xs i l y s here)))),
      )

-- a test of a name against the last one
pub name_tested : (ps : List Pair) (count : ℕ) (l : Pair) (name : List ℕ) (t : Tree) (b : Bool)
    → IsItem ps → count ≡ length ps → count ≢ 0
    → Some l ≡ slice_get ps (count - 1) → b ≡ is_lt (text_order l.0 name)
    → (IsTrue b → IsItem (ps ++ (name, t) ∷ [])) × (IsItem (ps ++ (name, t) ∷ []) → IsTrue b)
name_tested ps zero l name t b h n some e is = absurd (some refl)
name_tested ps (suc i) l name t b h n some e is =
    let here : Some l ≡ slice_get ps i = simp unary_clauses at e in (
      (λ p. item_more ps i l name t h (omega (arith, n)) here (truth b (text_order l.0 name) is p)),
      (λ s. subst IsTrue (sym is) (is_True (is_lt (text_order l.0 name))
          (less-holds (text_order l.0 name) (name_above ps i l name t s here)))),
    )

-- no test is both
pub not_both : (b : Bool) → b ≡ false → IsTrue b → ⊥
not_both true e t = absurd (let f : ⊥ = cc in f)
not_both false e t = absurd (let f : ⊥ = cc in f)
