-- What is found of all is what is found of those that are left, behind those so far; and no float stands among the names of those.
use Rattle.std.proofs.Common.{◌≡◌, map, All}
use Rattle.std.specs.Vec.Iter.{into_iter_items}
use Rattle.alt_machine.specs.Batches.{each_found}
use Rattle.alt_machine.specs.Ops.BatchGetItem.{placed_all}
use Rattle.alt_request.specs.TablesStands.{catalog_of}
use Rattle.alt_ops_batch.specs.private.Batches.{keys_said, reads_of, HasPlainNames}
use Rattle.alt_ops_batch.proofs.Founds.{behind}
use Rattle.alt_ops_batch.proofs.asked_reads.placed_tables.Given as goal

abbrev pub invariant-loop-keys : goal.invariant-loop-keys
invariant-loop-keys l = record {
  placed : each_found (placed_all (catalog_of l.tables)) (map keys_said l.fn.said.items)
      ≡ behind (placed_all (catalog_of l.tables)) (map reads_of l.there.items)
      (map keys_said (into_iter_items l.keys-iterator));
  plain : All HasPlainNames l.there.items;
}
