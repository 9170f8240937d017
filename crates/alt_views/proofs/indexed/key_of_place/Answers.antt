-- A key of that place is read back.
use Rattle.std.proofs.Common.{[], sym, ap, ◌∙◌}
use Rattle.std.proofs.lemmas.Option.{same_Some}
use Rattle.alt_views.proofs.KeyBack.{key_there, passed_bad, same_bytes, taken_there, takes_bad}
use Rattle.alt_views.specs.Read.{with_values}
use Rattle.alt_views.proofs.indexed.key_of_place.Goals as goal
use Rattle.alt_views.proofs.indexed.key_of_place.Goals.{in_default-via-in-Some+else-eq, in_default-via-in_default}

pub returns-in_err-_end-clause-none : goal.returns-in_err-_end-clause-none
returns-in_err-_end-clause-none c = λ bad key is there.
    let d = c.args.schema.now in
    let place = c.args.place.now in
    let known = key_there d key place is there in
    takes_bad (with_values d.hash d.range known.values []) place [] c.take_key.new.item
    c.in_err-_end.field-0.0
    (c.in_err-_end.ensures.taken known.values [] known.has.are known.bytes)
    (passed_bad c.from_residual.result c.in_err-_end.field-0.0 c.from_residual.ensures bad)

pub returns-in_default-clause-none : goal.returns-in_default-clause-none
returns-in_default-clause-none c = λ bad key is there.
    let d = c.args.schema.now in
    let place = c.args.place.now in
    let known = key_there d key place is there in
    let taken = c.in_ok-_end.ensures.taken known.values [] known.has.are known.bytes in
    let own = c.in_ok-own.ensures.place
    ∙ taken_there d key place is there c.take_key.new.item
    (taken.0 ∙ ap (with_values d.hash d.range known.values) c.new-key.ensures.empty) in
    elim c.in_default.branch [
      | in_default-via-in-Some+else-eq w ↦ same_bytes w.as_slice.result.now place
          (w.as_slice.ensures.same ∙ same_Some w.in-Some.own place (sym w.in-Some.is ∙ own))
          w.if-eq.ensures
      | in_default-via-in_default w ↦ w.in_default.not-Some place own
    ]
