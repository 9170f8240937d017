-- A copy, with the definitions and the index put to it.
use Rattle.alt_schema.proofs.AlteredLaws.{with_index_of}
use Rattle.alt_schema.proofs.altered.later_with.Goals as goal

pub returns : goal.returns
returns c =
    with_index_of c.args.s.now c.in_ok-later.later c.args.more.now c.as_slice.result.now
    c.add_definitions.new.list c.as_slice-2.result.now c.args.family c.args.index.now
    c.in_ok-added.added c.push.new.self c.in_ok-later.ensures.same c.as_slice.ensures.members
    c.in_ok-add_definitions.ensures.added c.as_slice-2.ensures.members c.in_ok-added.ensures
    c.in_ok-push.ensures.ok
