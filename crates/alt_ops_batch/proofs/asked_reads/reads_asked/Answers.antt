-- A key stands twice, or none does.
use Rattle.std.proofs.Common.{true, false, map, sym, ap, ◌∙◌, arith}
use Rattle.std.specs.List.{list_any}
use Rattle.serde_json.specs.View.{members_view}
use Rattle.alt_machine.specs.Batches.{has_repeat}
use Rattle.alt_ops_batch.specs.private.Batches.{keys_read, keys_said}
use Rattle.alt_ops_batch.proofs.AskedReads.{reads_told}
use Rattle.alt_request.specs.TablesStands.{catalog_of}
use Rattle.alt_ops_batch.proofs.asked_reads.reads_asked.Goals as goal

pub returns-then-branch-clause-asked : goal.returns-then-branch-clause-asked
returns-then-branch-clause-asked c = (
  reads_told (catalog_of c.args.tables.now) (members_view c.args.body.now.entries)
      (members_view c.in_ok-asked.asked.now.entries) c.in_ok-asked.ensures.taken
      (map keys_read c.in_ok-read.read.items) c.in_ok-read.ensures.read c.in_ok-known.ensures.tested
      (map keys_said c.in_ok-said.said.items) c.in_ok-said.ensures.said c.in_ok-there.there.items
      c.in_ok-there.ensures.placed true
      (sym c.if-branch.true ∙ c.in_ok-any_repeat.ensures
      ∙ ap (list_any (λ r. has_repeat r.keys.items)) c.deref.ensures.value),
  omega arith,
)

pub returns-clause-asked : goal.returns-clause-asked
returns-clause-asked c =
    reads_told (catalog_of c.args.tables.now) (members_view c.args.body.now.entries)
    (members_view c.in_ok-asked.asked.now.entries) c.in_ok-asked.ensures.taken
    (map keys_read c.in_ok-read.read.items) c.in_ok-read.ensures.read c.in_ok-known.ensures.tested
    (map keys_said c.in_ok-said.said.items) c.in_ok-said.ensures.said c.in_ok-there.there.items
    c.in_ok-there.ensures.placed false
    (sym c.if-branch.false ∙ c.in_ok-any_repeat.ensures
    ∙ ap (list_any (λ r. has_repeat r.keys.items)) c.deref.ensures.value)
