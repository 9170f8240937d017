-- The first place of a range of those that are ready.
use Rattle.std.proofs.Common.{◌≡◌, true, false, List, [], ◌∷◌, Option, Some, None, refl, sym, ap, subst, ◌∙◌, true≢false}
use Rattle.std.proofs.lemmas.Bool.{and_from, false_from_ne_true}
use Rattle.std.specs.Prelude.{IsTrue, IfSome, slice_get}
use Rattle.std.specs.declared.cmp.Ordering.{Ordering}
use Rattle.std.specs.declared.cmp.Ordering.TheVariants.{Less, Equal, Greater}
use Rattle.std.specs.declared.ops.Bound.TheVariants.{Unbounded}
use Rattle.std.specs.BTreeMap.Range.{IsInRange, IsLeBy}
use Rattle.std.specs.BTreeSet.{contains, IsKeyRangeOf}
use Rattle.std.specs.Cmp.{first_so, second_so}
use Rattle.std.specs.Ordering.{is_lt, is_gt, ordering_reverse}
use Rattle.alt_base.proofs.Orderings.{is_lt-true}
use Rattle.alt_due.specs.declared.due.Due.{Due}
use Rattle.alt_due.specs.declared.spot.Spot.{Spot}
use Rattle.alt_due.specs.Due.{bound_behind, is_before, is_behind, FindsNext, IsReady}
use Rattle.alt_due.specs.Order.{spot_cmp, spot_total}

-- what is behind a place is in the range behind it
from_start : (after : Option Spot) (spot : Spot) → is_behind after spot ≡ true
    → IsInRange spot_cmp (bound_behind after) Unbounded spot
from_start None spot p = (tt, tt)
from_start (Some after) spot p = (is_lt-true (spot_cmp after spot) p, tt)

-- and the other way round
is_from : (after : Option Spot) (spot : Spot) → IsInRange spot_cmp (bound_behind after) Unbounded spot
    → is_behind after spot ≡ true
is_from None spot p = refl
is_from (Some after) spot p = ap is_lt p.0

-- what isn't later comes first when the two are turned round
turned : (o : Ordering) → is_gt o ≡ false → is_lt (ordering_reverse o) ≡ false
turned Less p = refl
turned Equal p = refl
turned Greater p = absurd (true≢false p)

-- no later place is before an earlier one
not_less : (x y : Spot) → is_gt (spot_cmp x y) ≡ false → is_lt (spot_cmp y x) ≡ false
not_less x y p = ap is_lt (spot_total.antisymm y x) ∙ turned (spot_cmp x y) p

-- what is no later than a place before the end is before the end
before_by : (end : Option Spot) (x y : Spot) → is_gt (spot_cmp x y) ≡ false
    → is_before end y ≡ true → is_before end x ≡ true
before_by None x y p q = refl
before_by (Some end) x y p q = elim (spot_cmp x y) as
    (λ o. spot_cmp x y ≡ o → is_gt o ≡ false → is_lt (spot_cmp x end) ≡ true) [
      | Less ↦ λ e g. ap is_lt (spot_total.trans x y end e (is_lt-true (spot_cmp y end) q))
      | Equal ↦ λ e g. ap is_lt (spot_total.congr x y end e) ∙ q
      | Greater ↦ λ e g. absurd (true≢false g)
    ] refl p

module _ (d : Due) (after : Option Spot) (range : List Spot)
    (is : IsKeyRangeOf spot_cmp (bound_behind after) Unbounded d.ready range) where
  -- the first of the range is no later than what is ready behind the place
  no_later : (first : Spot) (rest : List Spot) → range ≡ first ∷ rest → (spot : Spot)
      → IsReady d spot → IsTrue (is_behind after spot) → is_gt (spot_cmp first spot) ≡ false
  no_later first rest e spot ready bound_behind = subst (λ r. IfSome (slice_get r 0)
      (λ k. IsLeBy spot_cmp k spot)) e (is.2 spot (from_start after spot bound_behind)
      (first_so (contains spot_cmp d.ready spot) (is_before d.end spot) ready))

  pub found : (first : Spot) (rest : List Spot) → range ≡ first ∷ rest
      → is_before d.end first ≡ true → FindsNext d after (Some first)
  found first rest e before =
      let there = subst (λ r. IfSome (slice_get r 0)
      (λ k. IsInRange spot_cmp (bound_behind after) Unbounded k × IsTrue (contains spot_cmp d.ready k)))
      e is.1 in (
        and_from (contains spot_cmp d.ready first) (is_before d.end first) there.1 before,
        is_from after first there.0,
        λ spot ready bound_behind. not_less first spot (no_later first rest e spot ready bound_behind),
      )

  pub past : (first : Spot) (rest : List Spot) → range ≡ first ∷ rest
      → is_before d.end first ≡ false → FindsNext d after None
  past first rest e outside spot ready =
      false_from_ne_true (is_behind after spot) (λ bound_behind. true≢false
      (sym (before_by d.end first spot (no_later first rest e spot ready bound_behind)
      (second_so (contains spot_cmp d.ready spot) (is_before d.end spot) ready)) ∙ outside))

  pub none : range ≡ [] → FindsNext d after None
  none e spot ready = false_from_ne_true (is_behind after spot) (λ bound_behind. true≢false
      (sym (first_so (contains spot_cmp d.ready spot) (is_before d.end spot) ready)
      ∙ is.5 e spot (from_start after spot bound_behind)))
