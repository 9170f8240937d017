-- The condition of entries that have a meaning.
use Rattle.std.proofs.Common.{sym, ap, ◌∙◌, Some, option_map}
use Rattle.serde_json.specs.View.{view}
use Rattle.alt_legacy.specs.Entries.{entries_in}
use Rattle.alt_legacy.proofs.Joined.{is_condition}
use Rattle.alt_legacy.specs.Trees.{condition_of}
use Rattle.alt_legacy.proofs.condition.condition.Goals as goal

pub returns-in-Ok-clause-meets : goal.returns-in-Ok-clause-meets
returns-in-Ok-clause-meets c =
    is_condition (entries_in c.args.form (view c.args.entries.now)) c.args.any
    c.in_ok-entries.entries.items c.in-Ok.condition c.in_ok-entries.ensures.ok c.in-Ok.ensures

pub returns-in-Ok-clause-tree : goal.returns-in-Ok-clause-tree
returns-in-Ok-clause-tree c =
    ap (option_map (condition_of c.args.any)) c.in_ok-entries.ensures.ok
    ∙ ap (λ o. Some o) (sym c.in-Ok.ensures)
