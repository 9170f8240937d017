-- An object with one member that isn't null has the value of that member's kind and payload.
use Rattle.serde_json.specs.View.{view, members_view}
use Rattle.alt_codec.proofs.Present.{value_in-some, value_in-none}
use Rattle.alt_codec.proofs.reading.+reading.Goals as goal

pub value_at-returns-in-Some-only_present-clause-value :
    goal.value_at-returns-in-Some-only_present-clause-value
value_at-returns-in-Some-only_present-clause-value t c =
    rw (value_in-some c.args.room (view c.args.v.now)
    (members_view c.in-Some.members.now.entries) c.in-Some-only_present.name.now
    (view c.in-Some-only_present.payload.now) c.in-Some.ensures c.in-Some-only_present.ensures)
    c.payload_at.ensures.value

pub value_at-returns-in-Some-only_present-clause-fault :
    goal.value_at-returns-in-Some-only_present-clause-fault
value_at-returns-in-Some-only_present-clause-fault t c =
    rw (value_in-some c.args.room (view c.args.v.now)
    (members_view c.in-Some.members.now.entries) c.in-Some-only_present.name.now
    (view c.in-Some-only_present.payload.now) c.in-Some.ensures c.in-Some-only_present.ensures)
    c.payload_at.ensures.fault

pub value_at-returns-in-None-only_present-clause-fault :
    goal.value_at-returns-in-None-only_present-clause-fault
value_at-returns-in-None-only_present-clause-fault t c = λ _.
    value_in-none c.args.room (view c.args.v.now)
    (members_view c.in-Some.members.now.entries) c.in-Some.ensures
    c.in-None-only_present.ensures
