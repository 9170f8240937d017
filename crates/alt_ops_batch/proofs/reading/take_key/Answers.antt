-- One more key is left.
use Rattle.std.proofs.Common.{ap, ◌∙◌}
use Rattle.serde_json.specs.View.{items_view}
use Rattle.serde_json.specs.Written.{items_have_float}
use Rattle.alt_ops_batch.proofs.Showing.{plain_more}
use Rattle.alt_ops_batch.proofs.reading.take_key.Goals as goal

pub returns-then-size-ge-BATCH_BYTES-clause-plain :
    goal.returns-then-size-ge-BATCH_BYTES-clause-plain
returns-then-size-ge-BATCH_BYTES-clause-plain g c = record {
  left = ap (λ vs. items_have_float (items_view vs)) c.in_ok-push.ensures.items
      ∙ plain_more c.args.taken.now.left.items c.in_ok-json_of_item.field-0 c.requires.plain.left
      c.in_ok-json_of_item.ensures.no_float;
}
