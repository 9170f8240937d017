-- Nothing is due exactly where all is covered and nothing is listed.
use Rattle.std.proofs.Common.{◌≡◌, ℕ, Bool, true, false, List, [], ◌∷◌, length, Option, Some, None, refl, sym, ap, ◌∙◌, arith, inl, inr, true≢false}
use Rattle.std.specs.Prelude.{◌||◌, is_some}
use Rattle.std.proofs.Math.Nat.{lt_of_not-le}
use Rattle.std.proofs.lemmas.Bool.{and_from}
use Rattle.std.specs.BTreeMap.{is_at}
use Rattle.std.specs.List.{list_any}
use Rattle.std.specs.Cmp.{second_so, tied_itself}
use Rattle.std.specs.Ordering.{is_eq}
use Rattle.alt_due.specs.declared.due.Due.{Due}
use Rattle.alt_due.specs.declared.spot.Spot.{Spot}
use Rattle.alt_due.specs.Due.{is_before, suffices_at, covers, IsRipe, CoversAll, ListsNone, NoneDue}
use Rattle.alt_due.specs.Order.{spot_cmp, spot_total}
use Rattle.alt_due.proofs.Orders.{not_before}

-- where all is covered and none is listed, none is due
pub none_due : (d : Due) (moment : ℕ) → CoversAll d moment → ListsNone d moment
    → NoneDue d moment
none_due d moment all none spot known = none spot (known (all spot))

-- and the other way round: where none is due, all is covered
pub due_covers : (d : Due) (moment : ℕ) → NoneDue d moment → CoversAll d moment
due_covers d moment none spot = elim (covers d moment spot) as
    (λ b. covers d moment spot ≡ b → b ≡ true) [
      | true ↦ λ p. refl
      | false ↦ λ p. absurd (none spot (λ h. absurd (true≢false (sym h ∙ p))))
    ] refl

-- and none is listed
pub due_lists : (d : Due) (moment : ℕ) → NoneDue d moment → ListsNone d moment
due_lists d moment none spot listed = none spot (λ h. listed)

-- with no end each place is before it, and only then
no_end : (end : Option Spot) → is_some end ≡ false → (spot : Spot) → is_before end spot ≡ true
no_end None e spot = refl
no_end (Some end) e spot = absurd (true≢false e)

-- a list without an end covers each place at a moment that is within it
pub covered_all : (d : Due) (moment : ℕ) → is_some d.end ≡ false → suffices_at d moment ≡ true
    → CoversAll d moment
covered_all d moment e within spot =
    and_from (suffices_at d moment) (is_before d.end spot) within (no_end d.end e spot)

-- where each place is before it, there is no end
endless : (end : Option Spot) → ((spot : Spot) → is_before end spot ≡ true) → is_some end ≡ false
endless None h = refl
endless (Some end) h = absurd (true≢false (sym (h end) ∙ not_before end))

-- so a list that covers all has no end
pub covered_endless : (d : Due) (moment : ℕ) → CoversAll d moment → is_some d.end ≡ false
covered_endless d moment all =
    endless d.end (λ spot. second_so (suffices_at d moment) (is_before d.end spot) (all spot))

-- where none is ready and none waits for that moment, none is listed, and only then
none_in : {X : Type 0} (test : X → Bool) (xs : List X) → length xs ≡ 0 → list_any test xs ≡ false
none_in test [] e = refl
none_in test (x ∷ xs) e = absurd (omega (arith, e))

-- so a list that has none ready, and of which none waits for that moment, lists none
pub lists_none : (d : Due) (moment : ℕ) → length d.ready.keys ≡ 0 → IsRipe moment d
    → ListsNone d moment
lists_none d moment empty ripe spot (inl r) =
    true≢false (sym r ∙ none_in (is_at (spot_cmp spot)) d.ready.keys empty)
lists_none d moment empty ripe spot (inr w) = omega (arith, w.1, ripe w.0 spot w.2)

-- where none is listed, none waits for that moment
pub none_ripe : (d : Due) (moment : ℕ) → ListsNone d moment → IsRipe moment d
none_ripe d moment none first spot w = lt_of_not-le (λ le. none spot (inr (first, le, w)))

-- where no place is among them, there are none
empty_of : (ks : List Spot) → ((spot : Spot) → list_any (is_at (spot_cmp spot)) ks ≡ true → ⊥)
    → length ks ≡ 0
empty_of [] h = refl
empty_of (k ∷ ks) h = absurd (h k (ap (λ o. is_eq o || list_any (is_at (spot_cmp k)) ks)
    (tied_itself spot_total k)))

-- and none is ready
pub none_ready : (d : Due) (moment : ℕ) → ListsNone d moment → length d.ready.keys ≡ 0
none_ready d moment none = empty_of d.ready.keys (λ spot r. none spot (inl r))
