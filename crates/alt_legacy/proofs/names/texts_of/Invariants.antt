-- What was read so far and what is left give what the whole gives.
use Rattle.std.proofs.Common.{◌≡◌, ◌++◌, drop}
use Rattle.std.specs.Prelude.{option_map}
use Rattle.serde_json.specs.View.{items_view}
use Rattle.alt_legacy.specs.Names.{element_names}
use Rattle.alt_legacy.proofs.names.texts_of.Given as goal

abbrev pub invariant-loop-v : goal.invariant-loop-v
invariant-loop-v l =
    element_names (items_view l.items) ≡ option_map (λ ns. l.found.items ++ ns)
    (element_names (items_view (drop l.v-index l.items)))
