-- The item of a row more, and a row that is none of an item.
use Rattle.std.proofs.Common.{ap, Err, length, rules}
use Rattle.std.proofs.lemmas.Iterator.Adapters.{YieldsList-from_vec}
use Rattle.std.proofs.lemmas.Iterator.Consumers.{YieldsList-turn}
use Rattle.alt_rowchanges.proofs.PageRows.{item_at, put_more}
use Rattle.alt_rowchanges.proofs.PageRows.{last_row}
use Rattle.alt_rowchanges.proofs.pages.read_page.Goals as goal

pub loop-place-preserved : goal.loop-place-preserved
loop-place-preserved c = record {
  put = put_more c.loop-place.yielded (c.in-Some.place, c.in-Some.row) c.in-Ok.item
      c.args.out.now.items c.loop-place.out.items c.push.new.self.items
      c.loop-place.invariant.put c.in-Ok.ensures.item.0 c.in-Ok.ensures.item.1
      c.in_ok-push-in-Ok.ensures.items;
  last = last_row c.loop-place.yielded (c.in-Some.place, c.in-Some.row);
}

pub returns-in-Err-Bad-clause-fault : goal.returns-in-Err-Bad-clause-fault
returns-in-Err-Bad-clause-fault c items are =
    let turn = YieldsList-turn
    (YieldsList-from_vec {s = c.into_iter-place-iterator.result} c.args.page.items (search rules)
    (search rules)) c.loop-place.yielded c.loop-place.place-iterator c.loop-place.yielded_by
    c.next.result c.next.new.self (c.in-Some.place, c.in-Some.row) c.in-Some.is
    c.next.ensures.steps in
    let (item, read, row) = item_at c.args.page.items items (length c.loop-place.yielded)
    (c.in-Some.place, c.in-Some.row) are turn.0 turn.1 in
    c.in-Err-Bad.ensures.none (ap (λ f. Err f) c.in-Err-Bad.field-0-is) item read row
