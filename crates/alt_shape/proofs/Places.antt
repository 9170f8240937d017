-- A table of the program beside its demands.
use Rattle.std.proofs.Common.{◌≡◌, ◌<◌, ℕ, zero, suc, List, [], ◌∷◌, map, Option, Some, None, refl, ap, ◌∙◌, Bor, arith}
use Rattle.std.specs.Prelude.{◌||◌, slice_get, option_and_then}
use Rattle.std.specs.List.{list_any}
use Rattle.std.specs.Str.{bytes_eq}
use Rattle.serde_json.specs.Data.{Members}
use Rattle.alt_shape.specs.declared.rule.Broken.{Broken}
use Rattle.alt_shape.specs.declared.rule.Rule.{Rule}
use Rattle.alt_shape.specs.Shape.{Demand, demand_of, unmet_by, broken_at, KeepsAll, is_among, or_next_fault, first_unmet}

-- a search among borrowed words is one among the words
pub is_among_map : (words : List (Bor (List ℕ))) (s : List ℕ)
    → is_among (map (λ w. w.now) words) s ≡ list_any (λ w. bytes_eq w.now s) words
is_among_map [] s = refl
is_among_map (word ∷ words) s = ap (λ b. bytes_eq word.now s || b) (is_among_map words s)

-- where neither of two faults is there, the first isn't
pub or_next_first : (first second : Option Broken) → or_next_fault first second ≡ None → first ≡ None
or_next_first None second none = refl
or_next_first (Some broken) second none = none

-- and the second isn't
pub or_next_second : (first second : Option Broken) → or_next_fault first second ≡ None → second ≡ None
or_next_second None second none = none
or_next_second (Some broken) second none = absurd (cc)

-- where every rule is kept, no demand is unmet
pub first_unmet_none : (rules : List Rule) (ms : Members) → KeepsAll rules ms
    → first_unmet (map demand_of rules) ms ≡ None
first_unmet_none [] ms kept = refl
first_unmet_none (rule ∷ rules) ms kept =
    ap (λ o. or_next_fault o (first_unmet (map demand_of rules) ms)) (kept 0)
    ∙ first_unmet_none rules ms (λ place. kept (suc place))

-- where a rule is broken and none before it, so is its demand
pub first_unmet_some : (rules : List Rule) (ms : Members) (place : ℕ) (broken : Broken)
    → broken_at rules ms place ≡ Some broken → ((k : ℕ) → k < place → broken_at rules ms k ≡ None)
    → first_unmet (map demand_of rules) ms ≡ Some broken
first_unmet_some [] ms place broken is least = is
first_unmet_some (rule ∷ rules) ms zero broken is least =
    ap (λ o. or_next_fault o (first_unmet (map demand_of rules) ms)) is
first_unmet_some (rule ∷ rules) ms (suc place) broken is least =
    ap (λ o. or_next_fault o (first_unmet (map demand_of rules) ms)) (least 0 (omega arith))
    ∙ first_unmet_some rules ms place broken is (λ k below. least (suc k) (omega arith))

-- where no demand is unmet, none at any place is
pub unmet_nowhere : (demands : List Demand) (ms : Members) → first_unmet demands ms ≡ None
    → (place : ℕ) → option_and_then (unmet_by ms) (slice_get demands place) ≡ None
unmet_nowhere [] ms met place = refl
unmet_nowhere (d ∷ demands) ms met zero = or_next_first (unmet_by ms d) (first_unmet demands ms) met
unmet_nowhere (d ∷ demands) ms met (suc place) =
    unmet_nowhere demands ms (or_next_second (unmet_by ms d) (first_unmet demands ms) met) place
