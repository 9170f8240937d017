-- At the end all are put, and no float is among them.
use Rattle.std.proofs.Common.{sym, ap, ◌∙◌, arith}
use Rattle.std.proofs.lemmas.List.{drop_all}
use Rattle.serde_json.specs.View.{members_view}
use Rattle.alt_ops_batch.proofs.Tables.{all_plain}
use Rattle.alt_ops_batch.specs.private.Readings.{responses_of}
use Rattle.alt_ops_batch.proofs.replies.tables_tree.Goals as goal

pub returns-clause-plain : goal.returns-clause-plain
returns-clause-plain c =
    let ts = c.args.tables.now in
    let ms = members_view c.loop-table.members.entries in
    all_plain ms ts (sym (c.loop-table.invariant
    ∙ ap (responses_of ms) (drop_all c.loop-table.table-index ts (omega arith))))
