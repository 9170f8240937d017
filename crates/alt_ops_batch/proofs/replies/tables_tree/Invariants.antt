-- The tables so far are put.
use Rattle.std.proofs.Common.{◌≡◌, drop}
use Rattle.serde_json.specs.Data.{no_members}
use Rattle.serde_json.specs.View.{members_view}
use Rattle.alt_ops_batch.specs.private.Readings.{responses_of}
use Rattle.alt_ops_batch.proofs.replies.tables_tree.Given as goal

abbrev pub invariant-loop-table : goal.invariant-loop-table
invariant-loop-table l = responses_of no_members l.tables
    ≡ responses_of (members_view l.members.entries) (drop l.table-index l.tables)
