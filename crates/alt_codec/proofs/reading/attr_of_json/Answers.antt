-- The reader's answer is the value for which the JSON stands, whole; a fault is no value's.
use Rattle.serde_json.specs.View.{view}
use Rattle.alt_value.specs.Stands.{tree_of}
use Rattle.alt_codec.specs.Reading.{value_in}
use Rattle.alt_codec.proofs.Fits.{Fits, value_fits}
use Rattle.alt_codec.proofs.Numbers.{reads}
use Rattle.alt_codec.proofs.Relation.{at_ok, no_value, number_read, number_refused}
use Rattle.alt_codec.proofs.ValuesThere.{value-there}
use Rattle.alt_codec.proofs.reading.attr_of_json.Goals as goal

pub returns-in-Ok-clause-json : goal.returns-in-Ok-clause-json
returns-in-Ok-clause-json c = value-there 32 (view c.args.v.now)
    (tree_of c.in-Ok.a) c.in-Ok.ensures.value

pub returns-in-Ok-clause-whole : goal.returns-in-Ok-clause-whole
returns-in-Ok-clause-whole c = (
  c.held.ensures.value,
  (at_ok (Fits 32) (value_in 32 (view c.args.v.now)) (tree_of c.in-Ok.a) c.in-Ok.ensures.value
      (value_fits 32 (view c.args.v.now))).1,
)

pub returns-in-Err-clause-none : goal.returns-in-Err-clause-none
returns-in-Err-clause-none c = λ found. no_value (view c.args.v.now) c.in-Err.fault
    (c.in-Err.ensures.fault found)

pub returns-in-Ok-clause-numbers : goal.returns-in-Ok-clause-numbers
returns-in-Ok-clause-numbers c = reads

pub returns-in-Err-clause-numbers : goal.returns-in-Err-clause-numbers
returns-in-Err-clause-numbers c = reads

pub returns-in-Ok-clause-number : goal.returns-in-Ok-clause-number
returns-in-Ok-clause-number c = λ text sent. number_read (view c.args.v.now) text
    (tree_of c.in-Ok.a) sent c.in-Ok.ensures.value

pub returns-in-Err-clause-number : goal.returns-in-Err-clause-number
returns-in-Err-clause-number c = λ text sent known. number_refused (view c.args.v.now) text
    c.in-Err.fault sent (c.in-Err.ensures.fault known)
