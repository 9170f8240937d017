-- A key stands twice in one of all tables where one does in one of those that are left.
use Rattle.std.proofs.Common.{◌≡◌, drop}
use Rattle.std.specs.List.{list_any}
use Rattle.alt_machine.specs.Batches.{has_repeat}
use Rattle.alt_ops_batch.specs.declared.asked_reads.TableReads.{TableReads}
use Rattle.alt_ops_batch.proofs.asked_reads.any_repeat.Given as goal

abbrev pub invariant-loop-reads : goal.invariant-loop-reads
invariant-loop-reads l = list_any (λ (r : TableReads). has_repeat r.keys.items) l.there
    ≡ list_any (λ (r : TableReads). has_repeat r.keys.items) (drop l.reads-index l.there)
