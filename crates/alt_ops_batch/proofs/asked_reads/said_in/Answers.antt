-- What is in the place of a projection has no float, where it was read.
use Rattle.serde_json.specs.View.{members_view}
use Rattle.alt_request.specs.Words.{given_of}
use Rattle.alt_request.specs.TablesStands.{catalog_of}
use Rattle.alt_ops_batch.proofs.Plain.{parts_plain}
use Rattle.alt_ops_batch.proofs.asked_reads.said_in.Goals as goal

pub invariant_of-result : goal.invariant_of-result
invariant_of-result c = record {
  plain = parts_plain (catalog_of c.args.tables.now) c.as_str.result.now
      (members_view c.args.keys.body.now.entries) (given_of c.args.keys.given)
      c.in_ok-projection.projection c.args.keys.plain c.in_ok-projection.ensures.shown;
}
