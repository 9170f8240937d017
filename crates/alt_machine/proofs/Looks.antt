-- What is found after a change of a finite map of texts.
use Rattle.std.proofs.Common.{◌≡◌, refl, sym, ap, ◌∙◌, ℕ, Bool, true, false, cond, List, Some, None, inl, inr, ◌⊎◌, is_eq}
use Rattle.std.proofs.lemmas.Option.{same_Some}
use Rattle.std.specs.declared.cmp.Ordering.{Ordering}
use Rattle.std.specs.declared.cmp.Ordering.TheVariants.{Less, Equal, Greater}
use Rattle.std.specs.FinMap.{get-insert, get-remove, get-empty}
use Rattle.std.specs.FinMap as map
use Rattle.alt_machine.specs.State.{Texts}
use Rattle.alt_value.specs.Members.{text_order}
use Rattle.alt_value.proofs.Texts.{text_total, text_apart}

module _ {X : Type 0} (m : Texts X) (k q : List ℕ) (x : X) where
  -- what is found after an insertion is what was put there, or was there
  pub at_insert : (v : X) → map.get (map.insert m k v) q ≡ Some x
      → ((q ≡ k) × (v ≡ x)) ⊎ (map.get m q ≡ Some x)
  at_insert v e = by_order (text_order q k) refl (sym (get-insert text_total m k v q) ∙ e)
    where
      by_order : (o : Ordering) → text_order q k ≡ o
          → cond (is_eq o) (Some v) (map.get m q) ≡ Some x
          → ((q ≡ k) × (v ≡ x)) ⊎ (map.get m q ≡ Some x)
      by_order Less t f = inr f
      by_order Equal t f = inl (text_apart q k t, same_Some v x f)
      by_order Greater t f = inr f

  -- what is found after a removal was there
  pub at_remove : map.get (map.remove m k) q ≡ Some x → map.get m q ≡ Some x
  at_remove e = by_test (is_eq (text_order q k)) (sym (get-remove text_total m k q) ∙ e)
    where
      by_test : (b : Bool) → cond b None (map.get m q) ≡ Some x → map.get m q ≡ Some x
      by_test true f = absurd (let g : ⊥ = cc in g)
      by_test false f = f

-- nothing is found in an empty map
pub not_there : {X : Type 0} (k : List ℕ) (x : X)
    → map.get (map.empty {X = X} {R = text_order}) k ≡ Some x → ⊥
not_there {X} k x e = let f : None ≡ Some x = sym (get-empty {X = X} text_order k) ∙ e in cc

-- elsewhere what is found stays
module _ {X : Type 0} (m : Texts X) (k q : List ℕ) (apart : q ≡ k → ⊥) where
  is_other : is_eq (text_order q k) ≡ false
  is_other = by (text_order q k) refl
    where
      by : (o : Ordering) → text_order q k ≡ o → is_eq o ≡ false
      by Less t = refl
      by Equal t = absurd (apart (text_apart q k t))
      by Greater t = refl

  -- an insertion leaves what is found elsewhere
  pub insert_elsewhere : (v : X) → map.get (map.insert m k v) q ≡ map.get m q
  insert_elsewhere v = get-insert text_total m k v q
      ∙ ap (λ b. cond b (Some v) (map.get m q)) is_other

  -- a removal leaves what is found elsewhere
  pub remove_elsewhere : map.get (map.remove m k) q ≡ map.get m q
  remove_elsewhere = get-remove text_total m k q ∙ ap (λ b. cond b None (map.get m q)) is_other
