-- What is kept at a row more, and a row at which nothing is kept.
use Rattle.std.proofs.Common.{[], ◌∷◌, Err, length, subst, sym, rules}
use Rattle.std.proofs.lemmas.Iterator.Adapters.{YieldsList-from_vec}
use Rattle.std.proofs.lemmas.Iterator.Consumers.{YieldsList-turn}
use Rattle.alt_base.proofs.Prefixes.{prefix_trans}
use Rattle.alt_rowchanges.proofs.PageRows.{kept_row, put_kept}
use Rattle.alt_rowchanges.proofs.PageRows.{last_row}
use Rattle.alt_rowchanges.proofs.pages.read_index_page.Goals as goal
use Rattle.alt_views.specs.Read.{IsKeptAt, ReadsIndexRow}

pub loop-key-preserved : goal.loop-key-preserved
loop-key-preserved c = record {
  begun = prefix_trans c.args.out.now.items c.loop-key.out.items c.push.new.self.items
      c.loop-key.invariant.begun (c.in-Ok.item ∷ [], c.in_ok-push-in-Ok.ensures.items);
  put = put_kept c.args.schema.now c.args.index.now c.loop-key.yielded
      (c.in-Some.key, c.in-Some.row) c.in-Ok.item c.args.out.now.items c.loop-key.out.items
      c.push.new.self.items c.loop-key.invariant.put
      (λ kept is. c.in-Ok.ensures.reads kept
      (subst (λ key. IsKeptAt c.args.schema.now c.args.index.now kept key c.in-Some.row)
      (sym c.as_slice.ensures.same) is))
      c.in_ok-push-in-Ok.ensures.items;
  last = last_row c.loop-key.yielded (c.in-Some.key, c.in-Some.row);
}

pub returns-in-Err-Bad-clause-fault : goal.returns-in-Err-Bad-clause-fault
returns-in-Err-Bad-clause-fault c items are =
    let turn = YieldsList-turn
    (YieldsList-from_vec {s = c.into_iter-key-iterator.result} c.args.page.items (search rules)
    (search rules)) c.loop-key.yielded c.loop-key.key-iterator c.loop-key.yielded_by
    c.next.result c.next.new.self (c.in-Some.key, c.in-Some.row) c.in-Some.is
    c.next.ensures.steps in
    let (kept, is) = kept_row c.args.schema.now c.args.index.now c.args.page.items items
    (length c.loop-key.yielded) (c.in-Some.key, c.in-Some.row) are turn.0 turn.1 in
    subst (λ fault. ReadsIndexRow kept (Err fault)) c.in-Err-Bad.field-0-is
    (c.in-Err-Bad.ensures.reads kept
    (subst (λ key. IsKeptAt c.args.schema.now c.args.index.now kept key c.in-Some.row)
    (sym c.as_slice.ensures.same) is))
