-- The keys of one table more are placed.
use Rattle.std.proofs.Common.{ap, map, sym, subst, List, All}
use Rattle.std.specs.Vec.Iter.{into_iter_items}
use Rattle.std.proofs.lemmas.List.Elements.{All-push}
use Rattle.alt_machine.specs.Batches.{each_found}
use Rattle.alt_machine.specs.Ops.BatchGetItem.{placed_all}
use Rattle.alt_ops_batch.specs.private.Batches.{keys_said, reads_of, HasPlainNames}
use Rattle.alt_ops_batch.specs.declared.asked_reads.TableReads.{TableReads}
use Rattle.alt_ops_batch.proofs.Founds.{one_more_seen}
use Rattle.alt_request.specs.TablesStands.{catalog_of}
use Rattle.alt_ops_batch.proofs.asked_reads.placed_tables.Goals as goal

pub loop-keys-preserved : goal.loop-keys-preserved
loop-keys-preserved c =
    let catalog = catalog_of c.args.tables.now in record {
      placed = one_more_seen (placed_all catalog) reads_of
          (each_found (placed_all catalog) (map keys_said c.args.said.items))
          c.loop-keys.there.items
          c.push.new.self.items (map keys_said (into_iter_items c.loop-keys.keys-iterator))
          (map keys_said (into_iter_items c.next.new.self)) (keys_said c.in-Some.keys)
          c.in_ok-placed_table.field-0 c.loop-keys.invariant.placed
          (ap (map keys_said) c.in-Some.ensures.steps.0) c.in_ok-push.ensures.items
          c.in_ok-placed_table.ensures.placed;
      plain = subst (All HasPlainNames) (sym {A = List TableReads} c.in_ok-push.ensures.items)
          (All-push HasPlainNames c.loop-keys.there.items c.in_ok-placed_table.field-0
          c.loop-keys.invariant.plain c.in_ok-placed_table.ensures.plain);
    }
