-- What is set stays set.
use Rattle.std.proofs.Common.{◌≡◌, ◌≢◌, ◌↔◌, ⊎_elim, sym, subst, ℕ, List, [], ◌∷◌}
use Rattle.std.specs.List.{AllByRecursion}
use Rattle.std.proofs.lemmas.Bool.{cases_eq}
use Rattle.alt_filter.specs.Filters.{IsSet}
use Rattle.alt_filter.specs.declared.filter.Filter.{Filter}

-- a bit that was set stays so where one is set and no other is changed
pub set_on : (old new : Filter) {place : ℕ} → IsSet new place
    → ((other : ℕ) → other ≢ place → (IsSet new other ↔ IsSet old other))
    → (p : ℕ) → IsSet old p → IsSet new p
set_on old new {place} same other p there =
    ⊎_elim (λ (e : p ≡ place). subst (IsSet new) (sym e) same)
    (λ (apart : p ≢ place). (other p apart).1 there) (cases_eq p place)

-- what holds of each place goes on where it goes on for one
pub all_on : (P Q : ℕ → Type 0) → ((p : ℕ) → P p → Q p) → (places : List ℕ)
    → AllByRecursion P places → AllByRecursion Q places
all_on P Q on [] all = tt
all_on P Q on (p ∷ places) all = (on p all.0, all_on P Q on places all.1)
