-- Those so far are shown.
use Rattle.std.proofs.Common.{◌≡◌, map, take}
use Rattle.serde_json.specs.View.{view}
use Rattle.alt_description.specs.Json.{local_json}
use Rattle.alt_description.proofs.json.each_local.Given as goal

abbrev pub invariant-loop-index : goal.invariant-loop-index
invariant-loop-index l = map view l.values.items
    ≡ map (local_json l.table) (take l.index-index l.indexes)
