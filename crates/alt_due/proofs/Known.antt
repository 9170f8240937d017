-- What is known stays known where fewer moments and places are covered and the others stay listed.
use Rattle.std.proofs.Common.{◌≡◌, ℕ, ◌≤◌, true, false, Option, Some, None, refl, sym, ap, ◌∙◌, arith, inl, inr, true≢false}
use Rattle.std.proofs.lemmas.Bool.{and_from}
use Rattle.std.specs.Prelude.{IsTrue}
use Rattle.std.specs.declared.cmp.Ordering.{Ordering}
use Rattle.std.specs.declared.cmp.Ordering.TheVariants.{Less, Equal, Greater}
use Rattle.std.specs.BTreeSet.{BTreeSet, contains}
use Rattle.std.specs.List.{list_any}
use Rattle.std.specs.BTreeMap.{is_at}
use Rattle.std.specs.Cmp.{first_so, second_so, upto, nat_cmp_total}
use Rattle.std.specs.Ordering.{is_eq, is_lt, is_le, is_gt, nat_cmp}
use Rattle.alt_base.proofs.Orderings.{is_lt-true}
use Rattle.alt_due.specs.declared.due.Due.{Due}
use Rattle.alt_due.specs.declared.spot.Spot.{Spot}
use Rattle.alt_due.specs.declared.spot.Term.{Term}
use Rattle.alt_due.specs.Due.{is_before, suffices_at, Lists, Knows, IsReady, IsRipe, CoversNothing}
use Rattle.alt_due.specs.Order.{spot_cmp, spot_total, term_of, term_cmp}
use Rattle.alt_due.proofs.Orders.{not_before, spots_apart, places_apart}

-- what is before a place before the end is before the end
pub before_before : (end : Option Spot) (x y : Spot) → is_lt (spot_cmp x y) ≡ true
    → is_before end y ≡ true → is_before end x ≡ true
before_before None x y p q = refl
before_before (Some end) x y p q = ap is_lt (spot_total.trans x y end (is_lt-true (spot_cmp x y) p)
    (is_lt-true (spot_cmp y end) q))

-- what is before a place is another one
pub before_apart : (x y : Spot) → is_lt (spot_cmp x y) ≡ true → is_eq (spot_cmp y x) ≡ false
before_apart x y p = spots_apart y x (λ e. absurd (true≢false (sym p
    ∙ ap (λ z. is_lt (spot_cmp x z)) e ∙ not_before x)))

-- a place waits in a set of terms
abbrev pub WaitsIn : BTreeSet Term → ℕ → Spot → Type 0
WaitsIn terms moment spot = (first : ℕ) × (first ≤ moment)
    × IsTrue (contains term_cmp terms (term_of first spot))

-- what waits as it was
pub waits_as : (old new : BTreeSet Term) (moment : ℕ) (spot : Spot) → new.keys ≡ old.keys
    → WaitsIn old moment spot → WaitsIn new moment spot
waits_as old new moment spot same w =
    (w.0, w.1, ap (list_any (is_at (term_cmp (term_of w.0 spot)))) same ∙ w.2)

-- what waits, but for a term of another place
pub waits_but : (old new : BTreeSet Term) (moment : ℕ) (spot : Spot) (gone : Term)
    → ((q : Term) → is_eq (term_cmp gone q) ≡ false
    → contains term_cmp new q ≡ contains term_cmp old q)
    → (gone.at ≡ spot → ⊥) → WaitsIn old moment spot → WaitsIn new moment spot
waits_but old new moment spot gone same other w =
    (w.0, w.1, same (term_of w.0 spot) (places_apart gone w.0 spot other) ∙ w.2)

-- a place that isn't before the end is none that is
pub end_apart : (end : Option Spot) (x y : Spot) → is_before end x ≡ false
    → is_before end y ≡ true → x ≡ y → ⊥
end_apart end x y p q e = true≢false (sym q ∙ sym (ap (is_before end) e) ∙ p)

-- where nothing is covered all is known
pub all_known : (d : Due) (moment : ℕ) (spot : Spot) → CoversNothing d → Knows d moment spot
all_known d moment spot none covered = absurd (true≢false (sym (first_so (suffices_at d moment)
    (is_before d.end spot) covered) ∙ none moment))

-- what stands at the end or behind it is known
pub known_behind : (d : Due) (moment : ℕ) (spot : Spot) → is_before d.end spot ≡ false
    → Knows d moment spot
known_behind d moment spot behind covered = absurd (true≢false (sym (second_so (suffices_at d moment)
    (is_before d.end spot) covered) ∙ behind))

-- a later moment that is covered from there on is covered
pub later_within : (since moment later : ℕ) → is_le (nat_cmp since moment) ≡ true
    → is_le (nat_cmp moment later) ≡ true → is_le (nat_cmp since later) ≡ true
later_within since moment later p q = up (nat_cmp since later) (upto nat_cmp_total since moment later
    (down (nat_cmp since moment) p) (down (nat_cmp moment later) q))
  where
    down : (o : Ordering) → is_le o ≡ true → is_gt o ≡ false
    down Less e = refl
    down Equal e = refl
    down Greater e = cc

    up : (o : Ordering) → is_gt o ≡ false → is_le o ≡ true
    up Less e = refl
    up Equal e = refl
    up Greater e = cc

-- what is known at a moment that is covered, before the end, is ready, where nothing that waits is due
pub ripe_ready : (d : Due) (moment : ℕ) (spot : Spot) → IsRipe moment d
    → IsTrue (suffices_at d moment) → Knows d moment spot → IsTrue (is_before d.end spot)
    → IsReady d spot
ripe_ready d moment spot ripe within known before =
    shown (known (and_from (suffices_at d moment) (is_before d.end spot) within before))
  where
    shown : Lists d moment spot → IsReady d spot
    shown (inl r) = and_from (contains spot_cmp d.ready spot) (is_before d.end spot) r before
    shown (inr w) = absurd (omega (arith, w.1, ripe w.0 spot w.2))
