-- Only equal places tie, and only equal terms.
use Rattle.std.proofs.Common.{◌≡◌, ℕ, false, refl, ap}
use Rattle.std.specs.declared.cmp.Ordering.{Ordering}
use Rattle.std.specs.declared.cmp.Ordering.TheVariants.{Less, Equal, Greater}
use Rattle.std.specs.Ordering.{is_eq, is_lt, nat_cmp}
use Rattle.std.specs.Cmp.{tied_itself}
use Rattle.std.specs.FinMap.{IsAntisymmetric, nat_cmp-IsAntisymmetric}
use Rattle.alt_base.proofs.Orderings.{then-equal_both}
use Rattle.alt_value.specs.Members.{text_order}
use Rattle.alt_due.specs.declared.spot.Spot.{Spot}
use Rattle.alt_due.specs.declared.spot.Term.{Term}
use Rattle.alt_due.specs.Order.{spot_cmp, spot_total, term_of, term_cmp}
use Rattle.alt_value.proofs.Texts.{text_apart}

-- only equal places tie
pub spot_exact : IsAntisymmetric spot_cmp
spot_exact x y e =
    let both = then-equal_both (text_order x.table y.table) (text_order x.place y.place) e in
    let table = text_apart x.table y.table both.0 in
    let place = text_apart x.place y.place both.1 in
    λ i. record { table = table i; place = place i }

-- and only equal terms
pub term_exact : IsAntisymmetric term_cmp
term_exact x y e =
    let both = then-equal_both (nat_cmp x.first y.first) (spot_cmp x.at y.at) e in
    let first = nat_cmp-IsAntisymmetric x.first y.first both.0 in
    let at = spot_exact x.at y.at both.1 in
    λ i. record { first = first i; at = at i }

-- what isn't equal doesn't tie
apart_by : {K : Type 0} (R : K → K → Ordering) → IsAntisymmetric R → (x y : K)
    → (x ≡ y → ⊥) → is_eq (R x y) ≡ false
apart_by R exact x y other = elim (R x y) as (λ r. R x y ≡ r → is_eq r ≡ false) [
  | Less ↦ λ p. refl
  | Equal ↦ λ p. absurd (other (exact x y p))
  | Greater ↦ λ p. refl
] refl

-- two places don't tie
pub spots_apart : (x y : Spot) → (x ≡ y → ⊥) → is_eq (spot_cmp x y) ≡ false
spots_apart = apart_by spot_cmp spot_exact

-- nor do terms of two moments
pub terms_apart : (x : Term) (first : ℕ) (at : Spot) → (x.first ≡ first → ⊥)
    → is_eq (term_cmp x (term_of first at)) ≡ false
terms_apart x first at other = apart_by term_cmp term_exact x (term_of first at)
    (λ e. other (ap (λ t. t.first) e))

-- nor terms of two places
pub places_apart : (x : Term) (first : ℕ) (at : Spot) → (x.at ≡ at → ⊥)
    → is_eq (term_cmp x (term_of first at)) ≡ false
places_apart x first at other = apart_by term_cmp term_exact x (term_of first at)
    (λ e. other (ap (λ t. t.at) e))

-- no place is before itself
pub not_before : (x : Spot) → is_lt (spot_cmp x x) ≡ false
not_before x = ap is_lt (tied_itself spot_total x)
