-- Those so far are shown.
use Rattle.std.proofs.Common.{◌≡◌, map, take}
use Rattle.serde_json.specs.View.{view}
use Rattle.alt_machine.specs.Ops.ListStreams.{stream_json}
use Rattle.alt_streams.proofs.list.streams_json.Given as goal

abbrev pub invariant-loop-schema : goal.invariant-loop-schema
invariant-loop-schema l = map view l.values.items
    ≡ map (λ d. stream_json d.now) (take l.schema-index l.schemas)
