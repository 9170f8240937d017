-- What was read so far and what is left give what the whole gives.
use Rattle.std.proofs.Common.{◌≡◌, ◌++◌, drop}
use Rattle.std.specs.Prelude.{option_map}
use Rattle.serde_json.specs.View.{items_view}
use Rattle.alt_legacy.specs.Values.{all_values}
use Rattle.alt_legacy.proofs.values.all_values.Given as goal

abbrev pub invariant-loop-v : goal.invariant-loop-v
invariant-loop-v l =
    all_values (items_view l.values) ≡ option_map (λ vs. l.found ++ vs)
    (all_values (items_view (drop l.v-index l.values)))
