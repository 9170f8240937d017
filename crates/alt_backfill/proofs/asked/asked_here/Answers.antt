-- An index comes, or one goes, or none does.
use Rattle.std.proofs.Common.{sym}
use Rattle.serde_json.specs.View.{members_view}
use Rattle.alt_backfill.proofs.Shapes.{none_acts}
use Rattle.alt_backfill.proofs.Tests.{shape_kept, single_kept}
use Rattle.alt_backfill.proofs.asked.asked_here.Goals as goal

pub coming-requires-clause-single : goal.coming-requires-clause-single
coming-requires-clause-single c = single_kept (members_view c.args.body.now.entries) c.requires.tested

pub going-requires-clause-single : goal.going-requires-clause-single
going-requires-clause-single c = single_kept (members_view c.args.body.now.entries) c.requires.tested

pub returns-in-Some-first_asked : goal.returns-in-Some-first_asked
returns-in-Some-first_asked c = record { asked = c.going.ensures.asked c.args.family }

pub as_it_is-requires-clause-none_acts : goal.as_it_is-requires-clause-none_acts
as_it_is-requires-clause-none_acts c = none_acts (members_view c.args.body.now.entries)
    (shape_kept (members_view c.args.body.now.entries) c.requires.tested)
    (sym c.in_default.ensures) (sym c.in_default-first_asked.ensures)

pub returns : goal.returns
returns c = record { asked = c.as_it_is.ensures.asked c.args.family }
