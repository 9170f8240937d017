-- What is found of all is what is found of the tables that are left, behind those so far.
use Rattle.std.proofs.Common.{◌≡◌, map}
use Rattle.serde_json.specs.View.{members_view}
use Rattle.alt_machine.specs.Batches.{each_found, pairs_in}
use Rattle.alt_machine.specs.Ops.BatchGetItem.{read_table}
use Rattle.alt_ops_batch.specs.private.Batches.{keys_read}
use Rattle.alt_ops_batch.proofs.Founds.{behind}
use Rattle.alt_ops_batch.proofs.asked_reads.read_all.Given as goal

abbrev pub invariant-loop-name : goal.invariant-loop-name
invariant-loop-name l = each_found read_table (pairs_in (members_view l.tables.entries))
    ≡ behind read_table (map keys_read l.read.items) (pairs_in (members_view l.name-iterator))
