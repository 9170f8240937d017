-- What is found of all is what is found of those that are left, behind those so far.
use Rattle.std.proofs.Common.{◌≡◌}
use Rattle.std.specs.Vec.Iter.{into_iter_items}
use Rattle.alt_machine.specs.Batches.{each_found, placed}
use Rattle.alt_request.specs.TablesStands.{catalog_of}
use Rattle.alt_ops_batch.proofs.Founds.{behind}
use Rattle.alt_ops_batch.proofs.members.place_all.Given as goal

abbrev pub invariant-loop-member : goal.invariant-loop-member
invariant-loop-member l = each_found (placed (catalog_of l.tables)) l.fn.members.items
    ≡ behind (placed (catalog_of l.tables)) l.there.items (into_iter_items l.member-iterator)
