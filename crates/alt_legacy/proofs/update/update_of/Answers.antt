-- The update of a member that is an object; its names differ.
use Rattle.serde_json.specs.View.{view, members_view}
use Rattle.alt_legacy.proofs.Named.{object_update, object_begins, object_tree}
use Rattle.alt_legacy.proofs.update.update_of.Goals as goal

pub returns-in-Some-clause-updates : goal.returns-in-Some-clause-updates
returns-in-Some-clause-updates c =
    object_update (view c.args.entries.now) (members_view c.in-Some.members.now.entries)
    c.actions.result c.in-Some.ensures c.names_apart.ensures c.actions.ensures.ok

pub returns-in-Some-clause-begins : goal.returns-in-Some-clause-begins
returns-in-Some-clause-begins c =
    object_begins (members_view c.in-Some.members.now.entries) c.actions.result
    c.actions.ensures.ok

pub returns-in-Some-clause-tree : goal.returns-in-Some-clause-tree
returns-in-Some-clause-tree c =
    object_tree (view c.args.entries.now) (members_view c.in-Some.members.now.entries)
    c.actions.result c.in-Some.ensures c.actions.ensures.ok
