-- The places that are told are those of the items.
use Rattle.alt_tablerows.proofs.StreamTests.{new_of_one, old_of_one, two_of_one}
use Rattle.alt_tablerows.proofs.stream_row.are_of_one.Goals as goal

pub returns-in_ok-there-in-Some-Some : goal.returns-in_ok-there-in-Some-Some
returns-in_ok-there-in-Some-Some c = record {
  one = two_of_one c.args.schema.now c.args.old.now c.args.new.now c.in-Some-Some.old
      c.in-Some-Some.new c.in-Some-Some.is-0 c.in-Some-Some.is-1
      c.in_ok-at-in-Some-Some.at c.in_ok-there-in-Some-Some.there
      c.in_ok-at-in-Some-Some.ensures.place c.in_ok-there-in-Some-Some.ensures.place
      c.are_one.result c.are_one.ensures;
}

pub returns-in_ok-place_held-in-Some-None : goal.returns-in_ok-place_held-in-Some-None
returns-in_ok-place_held-in-Some-None c = record {
  one = old_of_one c.args.schema.now c.args.old.now c.args.new.now c.in-Some-None.item
      c.in-Some-None.is-0 c.in-Some-None.is-1 c.in_ok-place_held-in-Some-None.field-0
      c.in_ok-place_held-in-Some-None.ensures.place c.is_some.result c.is_some.ensures;
}

pub returns-in_ok-place_held-in-None-Some : goal.returns-in_ok-place_held-in-None-Some
returns-in_ok-place_held-in-None-Some c = record {
  one = new_of_one c.args.schema.now c.args.old.now c.args.new.now c.in-None-Some.item
      c.in-None-Some.is-0 c.in-None-Some.is-1 c.in_ok-place_held-in-None-Some.field-0
      c.in_ok-place_held-in-None-Some.ensures.place c.is_some-in-None-Some.result
      c.is_some-in-None-Some.ensures;
}
