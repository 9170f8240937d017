-- Ranges of keys under a front, by what goes on behind it.
use Rattle.std.proofs.Common.{◌≡◌, ◌≢◌, refl, sym, ap, subst, ◌∙◌, ℕ, false, ◌⊎◌, inl, inr, List, [], ◌∷◌, ◌++◌, Option, Some, None, append_assoc}
use Rattle.std.specs.Prelude.{◌↔◌}
use Rattle.std.specs.declared.cmp.Ordering.{Ordering}
use Rattle.std.specs.declared.cmp.Ordering.TheVariants.{Less, Equal, Greater}
use Rattle.std.specs.Ordering.{is_gt, ordering_reverse}
use Rattle.std.specs.Cmp.{upto}
use Rattle.std.specs.Cmp.Lexicographic.{nat_list_cmp_total}
use Rattle.std.proofs.lemmas.Bool.{cases_order}
use Rattle.std.proofs.lemmas.List.{append-nil, append_cancel_left}
use Rattle.alt_base.specs.Prefix.{IsPrefix}
use Rattle.alt_base.proofs.Orderings.{nat_cmp-equal, nat_cmp-greater, is_gt-false}
use Rattle.alt_value.specs.Members.{text_order}
use Rattle.alt_keyorder.specs.Range.{IsByteString, IsBelow, IsBelowEnd, IsInRange, IsUpTo}
use Rattle.alt_keyorder.proofs.Bounds.{text_order-front, up_to_append, up_to_not_above, less-not_greater, never_below_nothing}
use Rattle.alt_keycond.specs.KeysAsked.{IsUpToPart}

-- ---- orders of bytes

either_order : (o : Ordering) → (o ≡ Less) ⊎ ((o ≡ Less → ⊥) × (ordering_reverse o ≢ Greater))
either_order Less = inl refl
either_order Equal = inr ((λ e. cc), (λ e. cc))
either_order Greater = inr ((λ e. cc), (λ e. cc))

not_gt : (o : Ordering) → o ≢ Greater → is_gt o ≡ false
not_gt Less h = refl
not_gt Equal h = refl
not_gt Greater h = absurd (h refl)

up_to_trans : (a b c : List ℕ) → IsUpTo a b → IsUpTo b c → IsUpTo a c
up_to_trans a b c p q = is_gt-false (text_order a c)
    (upto nat_list_cmp_total a b c (not_gt (text_order a b) p) (not_gt (text_order b c) q))

-- of two lists one is below, or the other is up to it
one_or_other : (a b : List ℕ) → IsBelow a b ⊎ IsUpTo b a
one_or_other a b = by (text_order a b) refl
  where
    by : (o : Ordering) → text_order a b ≡ o → IsBelow a b ⊎ IsUpTo b a
    by Less is = inl is
    by Equal is = inr (λ e. let f : Equal ≡ Less = sym is ∙ nat_list_cmp_total.antisymm a b
        ∙ ap ordering_reverse e in cc)
    by Greater is = inr (λ e. let f : Greater ≡ Less = sym is ∙ nat_list_cmp_total.antisymm a b
        ∙ ap ordering_reverse e in cc)

-- ---- fronts

greater_less : Greater ≡ Less → ⊥
greater_less e = cc

-- bytes from a front on, and below some that begin with it, begin with it
begins_between : (front y key : List ℕ) → IsUpTo front key → IsBelow key (front ++ y)
    → IsPrefix front key
begins_between [] y key up below = (key, refl)
begins_between (x ∷ front) y [] up below = absurd (up refl)
begins_between (x ∷ front) y (k ∷ key) up below = elim (cases_order x k) [
  | inl e ↦
      let more = begins_between front y key (rw (nat_cmp-equal x k e) at up)
      (rw (nat_cmp-equal k x (sym e)) at below) in
      (more.0, (λ i. sym e i ∷ more.1 i))
  | inr o ↦ elim o [
    | inl lt ↦ let g = rw (nat_cmp-greater k x lt) at below in absurd (greater_less g)
    | inr gt ↦ absurd ((rw (nat_cmp-greater x k gt) at up) refl)
  ]
]

prefix_trans : (p x key : List ℕ) → IsPrefix (p ++ x) key → IsPrefix p key
prefix_trans p x key h = (x ++ h.0, h.1 ∙ append_assoc p x h.0)

-- what begins with a front and a part goes on with the part behind the front
pub part_behind : (p part key : List ℕ) → IsPrefix (p ++ part) key
    ↔ ((y : List ℕ) × (key ≡ p ++ y) × IsPrefix part y)
part_behind p part key = (
  (λ h. (part ++ h.0, h.1 ∙ append_assoc p part h.0, (h.0, refl))),
  (λ h. (h.2.0, h.1 ∙ ap (λ z. p ++ z) h.2.1 ∙ sym (append_assoc p part h.2.0))),
)

-- a front that two keys share doesn't matter for which of them is up to the other
up_behind : (p part y : List ℕ) → IsUpTo (p ++ part) (p ++ y) → IsUpTo part y
up_behind p part y h = λ e. h (text_order-front p part y ∙ e)

up_before : (p part y : List ℕ) → IsUpTo part y → IsUpTo (p ++ part) (p ++ y)
up_before p part y h = λ e. h (sym (text_order-front p part y) ∙ e)

as_key : (p part y key : List ℕ) → key ≡ p ++ y → IsUpTo (p ++ part) key → IsUpTo part y
as_key p part y key e h = up_behind p part y (subst (λ k. IsUpTo (p ++ part) k) e h)

-- ---- the bounds of a prefix

-- the keys under a prefix end there
abbrev pub Ends : List ℕ → Option (List ℕ) → Type 0
Ends prefix end = (key : List ℕ) → IsByteString key → IsPrefix prefix key ↔ IsInRange prefix end key

module _ (p : List ℕ) (key : List ℕ) where
  -- below a part
  pub below_part : (part : List ℕ) → IsInRange p (Some (p ++ part)) key
      ↔ ((y : List ℕ) × (key ≡ p ++ y) × IsBelow y part)
  below_part part = (
    (λ h. let f = begins_between p part key h.0 h.1 in (f.0, f.1, sym (text_order-front p f.0 part) ∙ ap (λ k. text_order k (p ++ part)) (sym f.1) ∙ h.1)),
    (λ h. (subst (λ k. IsUpTo p k) (sym h.1) (up_to_append p h.0), ap (λ k. text_order k (p ++ part)) h.1 ∙ text_order-front p h.0 part ∙ h.2)),
  )

module _ (p : List ℕ) (end : Option (List ℕ)) (ends : Ends p end) (key : List ℕ)
    (bytes : IsByteString key) where
  -- a key at or above the front and below its end begins with it
  under_end : IsUpTo p key → IsBelowEnd key end → IsPrefix p key
  under_end up below = (ends key bytes).1 (up, below)

  -- from a part on
  pub from_part : (part : List ℕ) → IsInRange (p ++ part) end key
      ↔ ((y : List ℕ) × (key ≡ p ++ y) × IsUpTo part y)
  from_part part = (
    (λ h. let f = under_end (up_to_trans p (p ++ part) key (up_to_append p part) h.0) h.1 in
        (f.0, f.1, as_key p part f.0 key f.1 h.0)),
    (λ h. (subst (λ k. IsUpTo (p ++ part) k) (sym h.1) (up_before p part h.0 h.2), ((ends key bytes).0 (h.0, h.1)).1)),
  )

module _ (p : List ℕ) (key : List ℕ) (bytes : IsByteString key) (part : List ℕ)
    (part_end : Option (List ℕ)) (part_ends : Ends (p ++ part) part_end)
    (part_bytes : IsByteString (p ++ part)) where
  -- a key at or above the front and below the end of a part goes on behind it, up to that part
  to_part_front : IsUpTo p key → IsBelowEnd key part_end
      → (y : List ℕ) × (key ≡ p ++ y) × IsUpToPart y part
  to_part_front up below = elim (one_or_other key (p ++ part)) [
    | inl low ↦ let f = begins_between p part key up low in (f.0, f.1, inl (sym (text_order-front p f.0 part) ∙ ap (λ k. text_order k (p ++ part)) (sym f.1) ∙ low))
    | inr high ↦
        let f = (part_behind p part key).0 ((part_ends key bytes).1 (high, below)) in
        (f.0, f.1, inr f.2)
  ]

  part_below : IsBelowEnd (p ++ part) part_end
  part_below = ((part_ends (p ++ part) part_bytes).0 ([], sym (append-nil (p ++ part)))).1

  end_above : (end : Option (List ℕ)) → IsBelow key (p ++ part) → IsBelowEnd (p ++ part) end
      → IsBelowEnd key end
  end_above None low below = tt
  end_above (Some b) low below = nat_list_cmp_total.trans key (p ++ part) b low below

  ends_so : (y : List ℕ) → key ≡ p ++ y → IsUpToPart y part → IsBelowEnd key part_end
  ends_so y e (inl low) = end_above part_end (ap (λ k. text_order k (p ++ part)) e
      ∙ text_order-front p y part ∙ low) part_below
  ends_so y e (inr begins) = ((part_ends key bytes).0 ((part_behind p part key).1 (y, e, begins))).1

  -- up to a part
  pub to_part : IsInRange p part_end key ↔ ((y : List ℕ) × (key ≡ p ++ y) × IsUpToPart y part)
  to_part = (
    (λ h. to_part_front h.0 h.1),
    (λ h. (subst (λ k. IsUpTo p k) (sym h.1) (up_to_append p h.0), ends_so h.0 h.1 h.2)),
  )

  -- from one part to another
  pub from_to : (low : List ℕ) → IsInRange (p ++ low) part_end key
      ↔ ((y : List ℕ) × (key ≡ p ++ y) × (IsUpTo low y × IsUpToPart y part))
  from_to low = (
    (λ h.
        let f = to_part_front (up_to_trans p (p ++ low) key (up_to_append p low) h.0) h.1 in
        (f.0, f.1, (as_key p low f.0 key f.1 h.0, f.2))),
    (λ h. (subst (λ k. IsUpTo (p ++ low) k) (sym h.1) (up_before p low h.0 h.2.0), ends_so h.0 h.1 h.2.1)),
  )

  -- what begins with the part is below its end
  no_more : (y : List ℕ) → key ≡ p ++ y → IsUpTo part y → (IsPrefix part y → ⊥)
      → IsBelowEnd key part_end → ⊥
  no_more y e up never below =
      let f = (part_behind p part key).0
      ((part_ends key bytes).1
      (subst (λ k. IsUpTo (p ++ part) k) (sym e) (up_before p part y up), below)) in
      never (subst (IsPrefix part) (append_cancel_left p f.0 y (sym f.1 ∙ e)) f.2)

  -- nothing is behind a part that has no end
  pub behind_all : part_end ≡ None → IsInRange [] (Some []) key
      ↔ ((y : List ℕ) × (key ≡ p ++ y) × (IsUpTo part y × (IsPrefix part y → ⊥)))
  behind_all is = (
    (λ h. absurd (never_below_nothing key h.1)),
    (λ h. absurd (no_more h.0 h.1 h.2.0 h.2.1 (subst (IsBelowEnd key) (sym is) tt))),
  )

-- the keys from the end of a part on are those that are above it and don't begin with it
module _ (p : List ℕ) (end : Option (List ℕ)) (ends : Ends p end) (key : List ℕ)
    (bytes : IsByteString key)
    (part : List ℕ) (part_end : Option (List ℕ)) (part_ends : Ends (p ++ part) part_end)
    (part_bytes : IsByteString (p ++ part)) (b : List ℕ) (is : part_end ≡ Some b) where
  behind_up : IsInRange b end key → (y : List ℕ) × (key ≡ p ++ y)
      × (IsUpTo part y × (IsPrefix part y → ⊥))
  behind_up h =
      let above : IsBelow (p ++ part) b = subst (IsBelowEnd (p ++ part)) is
      (part_below p key bytes part part_end part_ends part_bytes) in
      let up = up_to_trans (p ++ part) b key (less-not_greater (p ++ part) b above) h.0 in
      let f = under_end p end ends key bytes
      (up_to_trans p (p ++ part) key (up_to_append p part) up) h.1 in (
        f.0,
        f.1,
        (
          as_key p part f.0 key f.1 up,
          λ g. up_to_not_above b key h.0
              (subst (IsBelowEnd key) is
              ((part_ends key bytes).0 ((part_behind p part key).1 (f.0, f.1, g))).1),
        ),
      )

  behind_down : (y : List ℕ) × (key ≡ p ++ y) × (IsUpTo part y × (IsPrefix part y → ⊥))
      → IsInRange b end key
  behind_down h = (
    elim (one_or_other key b) [
      | inl low ↦ absurd
          (no_more p key bytes part part_end part_ends part_bytes h.0 h.1 h.2.0 h.2.1
          (subst (IsBelowEnd key) (sym is) low))
      | inr high ↦ high
    ],
    ((ends key bytes).0 (h.0, h.1)).1,
  )

  -- the keys of the range behind a part are those that go on above it, and not with it
  pub behind_part : IsInRange b end key
      ↔ ((y : List ℕ) × (key ≡ p ++ y) × (IsUpTo part y × (IsPrefix part y → ⊥)))
  behind_part = (behind_up, behind_down)
