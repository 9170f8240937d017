-- The rules kept or broken are the demands met or unmet.
use Rattle.std.proofs.Common.{sym}
use Rattle.serde_json.specs.View.{members_view}
use Rattle.alt_shape.proofs.Places.{first_unmet_none, first_unmet_some}
use Rattle.alt_ttl.proofs.update_time.first_broken.Goals as goal

pub returns-in-Ok : goal.returns-in-Ok
returns-in-Ok c = sym (first_unmet_none c.args.rules.now
    (members_view c.args.body.now.entries) c.in-Ok.ensures.ok)

pub returns-in-Err : goal.returns-in-Err
returns-in-Err c = sym (first_unmet_some c.args.rules.now
    (members_view c.args.body.now.entries) _ _ c.in-Err.ensures.first.broken
    c.in-Err.ensures.first.least)
