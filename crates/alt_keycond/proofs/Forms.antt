-- The range of each form of an ask.
use Rattle.std.proofs.Common.{◌≡◌, refl, sym, subst, ℕ, suc, ◌<◌, List, [], ◌∷◌, ◌++◌, get_or, Option, Some, None, Ok, Err}
use Rattle.std.specs.Prelude.{◌↔◌, Result, IfOk}
use Rattle.alt_base.specs.Prefix.{IsPrefix}
use Rattle.alt_value.specs.declared.attr.Attr.{Attr}
use Rattle.alt_value.specs.Stands.{tree_of}
use Rattle.alt_keyorder.specs.KeyBytes.{key_bytes}
use Rattle.alt_keyorder.specs.Range.{IsByteString, IsInRange}
use Rattle.alt_keycond.specs.KeysAsked.{IsRangeOf, IsRangeUnder, Meets, front_bytes}
use Rattle.alt_keycond.specs.declared.ask.RangeAsk.TheVariants as r
use Rattle.alt_keycond.proofs.Under.{Ends, part_behind, below_part, from_part, to_part, from_to, behind_part, behind_all}

-- one way and on
through : {A B C : Type 0} → A ↔ B → B ↔ C → A ↔ C
through f g = ((λ a. g.0 (f.0 a)), λ c. f.1 (g.1 c))

back : {A B : Type 0} → A ↔ B → B ↔ A
back f = (f.1, f.0)

module _ (p : List ℕ) where
  -- all keys that begin with the front
  pub under_all : (q from : List ℕ) (to : Option (List ℕ)) → q ≡ p → IsRangeOf q from to
      → IsRangeUnder p r.All from to
  unfolding IsRangeOf IsRangeUnder
  under_all q from to e h = λ key bytes.
      through (back (subst (λ z. IsPrefix z key ↔ IsInRange from to key) e (h key bytes)))
      ((λ g. (g.0, g.1, tt)), λ g. (g.0, g.1))

  -- those that go on with a part
  pub under_eq : (v : Attr) (q from : List ℕ) (to : Option (List ℕ))
      → q ≡ p ++ key_bytes (tree_of v) → IsRangeOf q from to → IsRangeUnder p (r.Eq v) from to
  unfolding IsRangeOf IsRangeUnder
  under_eq v q from to e h = λ key bytes.
      through (back (subst (λ z. IsPrefix z key ↔ IsInRange from to key) e (h key bytes)))
      (part_behind p (key_bytes (tree_of v)) key)

  -- the keys whose RANGE value begins with a value are those between the front of its bytes and the end behind it
  pub under_begins : (v : Attr) (q from : List ℕ) (to : Option (List ℕ))
      → q ≡ p ++ front_bytes (tree_of v) → IsRangeOf q from to → IsRangeUnder p (r.Begins v) from to
  unfolding IsRangeOf IsRangeUnder
  under_begins v q from to e h = λ key bytes.
      through (back (subst (λ z. IsPrefix z key ↔ IsInRange from to key) e (h key bytes)))
      (part_behind p (front_bytes (tree_of v)) key)

  module _ (v : Attr) where
    abbrev part : List ℕ
    part = key_bytes (tree_of v)

    pub under_lt : (from to : List ℕ) → from ≡ p → to ≡ p ++ key_bytes (tree_of v)
        → IsRangeUnder p (r.Lt v) from (Some to)
    unfolding IsRangeUnder
    under_lt from to ef et = λ key bytes.
        subst (λ f. IsInRange f (Some to) key
        ↔ ((y : List ℕ) × (key ≡ p ++ y) × Meets (r.Lt v) y)) (sym ef)
        (subst (λ t. IsInRange p (Some t) key ↔ ((y : List ℕ) × (key ≡ p ++ y) × Meets (r.Lt v) y))
        (sym et) (below_part p key part))

    pub under_ge : (from : List ℕ) (end : Option (List ℕ)) → from ≡ p ++ key_bytes (tree_of v)
        → Ends p end → IsRangeUnder p (r.Ge v) from end
    unfolding IsRangeUnder
    under_ge from end ef ends = λ key bytes.
        subst (λ f. IsInRange f end key ↔ ((y : List ℕ) × (key ≡ p ++ y) × Meets (r.Ge v) y))
        (sym ef) (from_part p end ends key bytes part)

    module _ (q : List ℕ) (is : q ≡ p ++ key_bytes (tree_of v)) (q_bytes : IsByteString q) where
      part_bytes : IsByteString (p ++ key_bytes (tree_of v))
      part_bytes = subst IsByteString is q_bytes

      ends_there : (end : Option (List ℕ)) → Ends q end → Ends (p ++ key_bytes (tree_of v)) end
      ends_there end h = subst (λ z. Ends z end) is h

      pub under_le : (from : List ℕ) (end : Option (List ℕ)) → from ≡ p → Ends q end
          → IsRangeUnder p (r.Le v) from end
      unfolding IsRangeUnder
      under_le from end ef ends = λ key bytes.
          subst (λ f. IsInRange f end key ↔ ((y : List ℕ) × (key ≡ p ++ y) × Meets (r.Le v) y))
          (sym ef)
          (to_part p key bytes part end (ends_there end ends) part_bytes)

      pub under_between : (low : Attr) (from : List ℕ) (end : Option (List ℕ))
          → from ≡ p ++ key_bytes (tree_of low) → Ends q end
          → IsRangeUnder p (r.Between low v) from end
      unfolding IsRangeUnder
      under_between low from end ef ends = λ key bytes.
          subst (λ f. IsInRange f end key
          ↔ ((y : List ℕ) × (key ≡ p ++ y) × Meets (r.Between low v) y)) (sym ef)
          (from_to p key bytes part end (ends_there end ends) part_bytes (key_bytes (tree_of low)))

      pub under_gt : (b : List ℕ) (end : Option (List ℕ)) → Ends q (Some b) → Ends p end
          → IsRangeUnder p (r.Gt v) b end
      unfolding IsRangeUnder
      under_gt b end part_ends ends = λ key bytes. behind_part p end ends key bytes part (Some b)
          (ends_there (Some b) part_ends) part_bytes b refl

      pub under_none : (from to : List ℕ) → from ≡ [] → to ≡ [] → Ends q None
          → IsRangeUnder p (r.Gt v) from (Some to)
      unfolding IsRangeUnder
      under_none from to ef et part_ends = λ key bytes.
          subst (λ f. IsInRange f (Some to) key
          ↔ ((y : List ℕ) × (key ≡ p ++ y) × Meets (r.Gt v) y)) (sym ef)
          (subst (λ t. IsInRange [] (Some t) key
          ↔ ((y : List ℕ) × (key ≡ p ++ y) × Meets (r.Gt v) y)) (sym et)
          (behind_all p key bytes part None (ends_there None part_ends) part_bytes refl))

-- what follows of a value follows of an answer
pub ok_on : {T E : Type 0} (P Q : T → Type 0) → ((t : T) → P t → Q t) → (a : Result T E)
    → IfOk a P → IfOk a Q
ok_on P Q f (Ok t) h = f t h
ok_on P Q f (Err e) h = tt

-- numbers that fit a byte are bytes
pub are_bytes : (bs : List ℕ) → ((i : ℕ) → get_or bs i 0 < 256) → IsByteString bs
are_bytes [] h = tt
are_bytes (b ∷ bs) h = (h 0, are_bytes bs (λ i. h (suc i)))
