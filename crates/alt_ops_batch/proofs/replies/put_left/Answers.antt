-- The table is named, without a float.
use Rattle.std.proofs.Common.{ap, ◌∙◌}
use Rattle.serde_json.specs.View.{view, members_view}
use Rattle.serde_json.specs.Written.{members_have_float}
use Rattle.alt_shape.proofs.Plain.{members_have_float-put}
use Rattle.alt_ops_batch.proofs.replies.put_left.Goals as goal

pub returns-clause-plain : goal.returns-clause-plain
returns-clause-plain c = ap members_have_float c.in_ok-put.ensures.ok
    ∙ members_have_float-put c.args.name.now (view c.in_ok-asked.asked)
    (members_view c.args.unprocessed.now.entries) c.in_ok-asked.ensures.plain c.requires.before
