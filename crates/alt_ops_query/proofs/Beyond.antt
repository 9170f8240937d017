-- The part of a range beyond a place.
use Rattle.std.proofs.Common.{◌≡◌, ◌≢◌, refl, sym, ap, subst, ◌∙◌, ℕ, Bool, true, false, inr, ⊎_elim, List, [], ◌∷◌, ◌++◌, Option, Some, None}
use Rattle.std.specs.declared.cmp.Ordering.{Ordering}
use Rattle.std.specs.declared.cmp.Ordering.TheVariants.{Less, Equal, Greater}
use Rattle.std.specs.Ordering.{is_gt, is_lt, ordering_reverse}
use Rattle.std.specs.Cmp.Lexicographic.{nat_list_cmp_total}
use Rattle.alt_base.proofs.Orderings.{is_gt-false, less-not_greater, less-is_lt, is_lt-true}
use Rattle.alt_keyorder.specs.Range.{IsBelow, IsUpTo}
use Rattle.alt_keyorder.proofs.Bounds.{up_to_below, up_to_not_above}
use Rattle.alt_ops_query.specs.private.Ranges.{IsBeyond, IsLesser}
use Rattle.alt_request.proofs.TablesOpeningNextRow.{below_after, after_below}
use Rattle.alt_value.specs.Members.{text_order}

-- ---- orders of bytes

-- one that is told to be above is `Greater`
gt_is : (o : Ordering) → is_gt o ≡ true → o ≡ Greater
gt_is Less e = absurd (let f : ⊥ = cc in f)
gt_is Equal e = absurd (let f : ⊥ = cc in f)
gt_is Greater e = refl

-- what isn't less isn't greater the other way round
lt_not : (o : Ordering) → is_lt o ≡ false → ordering_reverse o ≢ Greater
lt_not Less e = absurd (let f : ⊥ = cc in f)
lt_not Equal e = λ f. cc
lt_not Greater e = λ f. cc

-- bytes below some that are up to others are below these
below_up_to : (a b c : List ℕ) → IsBelow a b → IsUpTo b c → IsBelow a c
below_up_to a b c p q = by (text_order b c) refl q
  where
    by : (o : Ordering) → text_order b c ≡ o → o ≢ Greater → text_order a c ≡ Less
    by Less is h = nat_list_cmp_total.trans a b c p is
    by Equal is h = nat_list_cmp_total.antisymm a c
        ∙ ap ordering_reverse (sym (nat_list_cmp_total.congr b c a is))
        ∙ sym (nat_list_cmp_total.antisymm a b) ∙ p
    by Greater is h = absurd (h refl)

-- none are below themselves
not_itself : (a : List ℕ) → IsBelow a a → ⊥
not_itself a p = up_to_not_above a a (less-not_greater (text_order a a) p) p

-- bytes that others are above are below these
above_is : (a b : List ℕ) → text_order a b ≡ Greater → IsBelow b a
above_is a b e = nat_list_cmp_total.antisymm b a ∙ ap ordering_reverse e

-- ---- forward

-- a range that begins above the place is all beyond it
pub beyond_above : (from : List ℕ) (to : Option (List ℕ)) (place : List ℕ)
    → is_gt (text_order from place) ≡ true → IsBeyond true (Some place) from to from to
beyond_above from to place above key = (
  λ h. (
    h,
    less-is_lt (text_order place key) (below_up_to place from key
        (above_is from place (gt_is (text_order from place) above)) h.0),
  ),
  λ h. h.0,
)

-- the bytes behind a place are up to all that are above it
after_up_to : (place key : List ℕ) → IsBelow place key → IsUpTo (place ++ 0 ∷ []) key
after_up_to place key above low = ⊎_elim
    (λ (below : IsBelow key place). not_itself key
    (nat_list_cmp_total.trans key place key below above))
    (λ (same : key ≡ place). not_itself key (subst (λ k. IsBelow k key) (sym same) above))
    (below_after key place (above_is (place ++ 0 ∷ []) key low))

-- else its part beyond the place begins right behind that
pub beyond_after : (from : List ℕ) (to : Option (List ℕ)) (place : List ℕ)
    → is_gt (text_order from place) ≡ false
    → IsBeyond true (Some place) from to (place ++ 0 ∷ []) to
beyond_after from to place reaches key = (
  λ h.
      let above = below_up_to place (place ++ 0 ∷ []) key
      (after_below place place (inr refl)) h.0 in (
        (
          less-not_greater (text_order from key)
              (up_to_below from place key (is_gt-false (text_order from place) reaches) above),
          h.1,
        ),
        less-is_lt (text_order place key) above,
      ),
  λ h. (after_up_to place key (is_lt-true (text_order place key) h.1), h.0.1),
)

-- ---- backward

-- the end of a range is the lesser one where it is below the place
pub lesser_end : (end place : List ℕ) → is_lt (text_order end place) ≡ true
    → IsLesser (Some end) place end
lesser_end end place low key = (
  λ h. (h, nat_list_cmp_total.trans key end place h (is_lt-true (text_order end place) low)),
  λ h. h.0,
)

-- the place is, where the end isn't below it
pub lesser_place : (end place : List ℕ) → is_lt (text_order end place) ≡ false
    → IsLesser (Some end) place place
lesser_place end place high key = (
  λ h. (
    below_up_to key place end h (λ over. lt_not (text_order end place) high
        (sym (nat_list_cmp_total.antisymm place end) ∙ over)),
    h,
  ),
  λ h. h.1,
)

-- and where the range has no end
pub lesser_alone : (place : List ℕ) → IsLesser None place place
lesser_alone place key = (λ h. (tt, h), λ h. h.1)

-- a range that ends at the lesser of its end and the place is its part before the place
pub beyond_end : (from : List ℕ) (to : Option (List ℕ)) (place end : List ℕ)
    → IsLesser to place end → IsBeyond false (Some place) from to from (Some end)
beyond_end from to place end lesser key = (
  λ h.
      let both = (lesser key).0 h.1 in
      ((h.0, both.0), less-is_lt (text_order key place) both.1),
  λ h. (h.0.0, (lesser key).1 (h.0.1, is_lt-true (text_order key place) h.1)),
)

-- ---- without a place

-- without a place all of a range is beyond it
pub beyond_none : (forward : Bool) (from : List ℕ) (to : Option (List ℕ))
    → IsBeyond forward None from to from to
beyond_none forward from to key = (λ h. (h, refl), λ h. h.0)
