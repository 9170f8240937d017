-- Member by member.
use Rattle.std.proofs.Common.{ap, ◌∙◌}
use Rattle.serde_json.specs.Data.{array, put}
use Rattle.serde_json.specs.View.{items_view, members_view}
use Rattle.serde_json.specs.Written.{has_float}
use Rattle.serde_json.proofs.Views.{view-Array, view-Object}
use Rattle.std.specs.Prelude.{codes}
use Rattle.alt_ops_batch.proofs.KeysAsked.{asked, plain}
use Rattle.alt_ops_batch.proofs.replies.keys_asked.Goals as goal

pub returns-clause-asked : goal.returns-clause-asked
returns-clause-asked c = view-Object c.put_projection.new.members
    ∙ asked (members_view c.args.body.now.entries) (array (items_view c.args.keys.items))
    (members_view c.new-members.result.entries) (members_view c.put_attributes.new.members.entries)
    (members_view c.put_truth.new.members.entries) (members_view c.put_names.new.members.entries)
    (members_view c.put.new.map.entries) (members_view c.put_projection.new.members.entries)
    (ap members_view c.new-members.ensures.empty) c.in_ok-put_attributes.ensures.put
    c.in_ok-put_truth.ensures.put c.in_ok-put_names.ensures.put
    (c.in_ok-put.ensures.ok ∙ ap (λ d. put (codes "Keys") d (members_view c.put_names.new.members.entries))
    (view-Array c.args.keys))
    c.in_ok-put_projection.ensures.put

pub returns-clause-plain : goal.returns-clause-plain
returns-clause-plain c = ap has_float (returns-clause-asked c)
    ∙ plain (members_view c.args.body.now.entries) (array (items_view c.args.keys.items))
    c.requires.names c.requires.keys
