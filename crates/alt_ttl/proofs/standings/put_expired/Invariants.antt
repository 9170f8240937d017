-- What was put of the first items, with what is put of the others, is what is put of all.
use Rattle.std.proofs.Common.{◌≡◌, ◌≤◌, ◌++◌, take, length}
use Rattle.std.specs.Vec.Iter.{into_iter_items}
use Rattle.alt_machine.specs.declared.TheConstants.{MOST_EXPIRED}
use Rattle.alt_ttl.specs.private.Searched.{standings_of}
use Rattle.alt_ttl.proofs.standings.put_expired.Given as goal

abbrev pub invariant-loop-item : goal.invariant-loop-item
invariant-loop-item l = record {
  few : length l.out.items ≤ MOST_EXPIRED;
  put : take MOST_EXPIRED (l.out.items ++ standings_of l.schema l.name l.moment (into_iter_items l.item-iterator))
      ≡ take MOST_EXPIRED (l.fn.out.items ++ standings_of l.schema l.name l.moment l.fn.items.items);
}
