-- The reader's answer is the item for which the JSON stands, whole; a fault is no item's.
use Rattle.std.proofs.Common.{T}
use Rattle.serde_json.specs.View.{view}
use Rattle.alt_value.specs.Tree.{fields_of}
use Rattle.alt_value.specs.Values.{fields_full}
use Rattle.alt_codec.specs.Reading.{item_in}
use Rattle.alt_codec.proofs.Fits.{item_full}
use Rattle.alt_codec.proofs.Relation.{at_ok, no_item, item-there}
use Rattle.alt_codec.proofs.reading.item_of_json.Goals as goal

pub returns-in-Ok-clause-json : goal.returns-in-Ok-clause-json
returns-in-Ok-clause-json c = item-there 32 (view c.args.v.now) c.in-Ok.item c.in-Ok.ensures.value

pub returns-in-Ok-clause-whole : goal.returns-in-Ok-clause-whole
returns-in-Ok-clause-whole c = (
  c.len-count.ensures.values,
  at_ok (λ i. T (fields_full (fields_of i))) (item_in 32 (view c.args.v.now)) c.in-Ok.item
      c.in-Ok.ensures.value
      (item_full 32 (view c.args.v.now)),
)

pub returns-in-Err-clause-none : goal.returns-in-Err-clause-none
returns-in-Err-clause-none c = λ found. no_item (view c.args.v.now) c.in-Err.fault
    (c.in-Err.ensures.fault found)
