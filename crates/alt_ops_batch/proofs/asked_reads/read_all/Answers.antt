-- The keys of one table more are read.
use Rattle.std.proofs.Common.{ap, sym, ◌∙◌, ◌∷◌}
use Rattle.serde_json.specs.View.{view, members_view}
use Rattle.alt_machine.specs.Batches.{each_found, pairs_in}
use Rattle.alt_machine.specs.Ops.BatchGetItem.{read_table}
use Rattle.alt_ops_batch.specs.private.Batches.{keys_read}
use Rattle.alt_ops_batch.proofs.Founds.{one_more_seen}
use Rattle.alt_ops_batch.proofs.asked_reads.read_all.Goals as goal

pub loop-name-preserved : goal.loop-name-preserved
loop-name-preserved c =
    one_more_seen read_table keys_read
    (each_found read_table (pairs_in (members_view c.args.tables.now.entries)))
    c.loop-name.read.items c.push.new.self.items
    (pairs_in (members_view c.loop-name.name-iterator)) (pairs_in (members_view c.next.new.self))
    (c.as_str.result.now, view c.in-Some.value.now) c.in_ok-read_table.field-0 c.loop-name.invariant
    (ap (λ m. pairs_in (members_view m)) c.in-Some.ensures.steps
    ∙ ap (λ n. (n, view c.in-Some.value.now) ∷ pairs_in (members_view c.next.new.self))
    (sym c.as_str.ensures.value))
    c.in_ok-push.ensures.items c.in_ok-read_table.ensures.read
