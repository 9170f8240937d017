-- The range holds what is asked.
use Rattle.std.proofs.Common.{subst, option_map}
use Rattle.alt_ops_query.specs.private.Asked.{IsRangeAskedOrRefused}
use Rattle.alt_ops_query.proofs.KeyRanges.{asked_by}
use Rattle.alt_ops_query.proofs.querying.asked_range.Goals as goal

pub returns-in-Ok : goal.returns-in-Ok
returns-in-Ok c = record {
  asks = subst (λ i. IsRangeAskedOrRefused c.args.schema.now i c.args.condition.now c.args.start.now c.args.forward
      c.range_of_ask.result) c.index_of-index.ensures.index
      (asked_by c.args.schema.now (option_map (λ i. i.now) c.index_of-index.result)
      c.args.condition.now c.args.start.now c.args.forward c.in-Ok.ask
      c.in-Ok.ensures.asked c.in-Ok.ensures.holds c.range_of_ask.ensures.hash
      c.range_of_ask.ensures.held c.range_of_ask.result c.range_of_ask.ensures.places);
}
