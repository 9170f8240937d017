-- It never expires, or is noted at its place.
use Rattle.std.proofs.Common.{sym, ◌∙◌}
use Rattle.alt_ttl.proofs.Foretelling.{placed_never, placed_noted}
use Rattle.alt_ttl.proofs.survey.note_item.Goals as goal

pub returns-in_default-clause-known : goal.returns-in_default-clause-known
returns-in_default-clause-known c = placed_never c.args.schema.now c.args.name.now
    c.args.item.now c.args.due.now c.expires_from.result c.expires_from.ensures c.in_default.is

pub returns-clause-known : goal.returns-clause-known
returns-clause-known c = placed_noted c.args.schema.now c.args.name.now c.args.item.now
    c.note.new.self c.expires_from.result c.expires_from.ensures c.in-Some.first c.in-Some.is
    c.as_slice.result.now c.in-Some-2.place c.as_slice.ensures.same
    (sym c.in_ok-place.ensures.place ∙ c.in-Some-2.is) c.note.ensures.known
