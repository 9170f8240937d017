-- At the end all are shown.
use Rattle.std.proofs.Common.{◌∙◌}
use Rattle.alt_machine.specs.Ops.ListStreams.{stream_json}
use Rattle.alt_schema.proofs.Shown.{shown_whole}
use Rattle.alt_streams.proofs.Answering.{items_by-each}
use Rattle.alt_streams.proofs.list.streams_json.Goals as goal

pub returns : goal.returns
returns c =
    shown_whole (λ d. stream_json d.now) c.args.schemas.now c.loop-schema.schema-index
    c.loop-schema.values.items c.loop-schema-test.false c.loop-schema.invariant
    ∙ items_by-each stream_json (λ d. d.now) c.args.schemas.now
