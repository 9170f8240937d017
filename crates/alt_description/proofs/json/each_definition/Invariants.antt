-- Those so far are shown.
use Rattle.std.proofs.Common.{◌≡◌, map, take}
use Rattle.serde_json.specs.View.{view}
use Rattle.alt_description.specs.Json.{definition_json}
use Rattle.alt_description.proofs.json.each_definition.Given as goal

abbrev pub invariant-loop-definition : goal.invariant-loop-definition
invariant-loop-definition l = map view l.values.items
    ≡ map definition_json (take l.definition-index l.definitions)
