-- A front of the items was examined, and the page goes on.
use Rattle.std.proofs.Common.{◌≡◌, ◌≢◌, false, List, [], All}
use Rattle.std.specs.Vec.Iter.{into_iter_items}
use Rattle.alt_ops_query.proofs.WalkLaws.{SoFar}
use Rattle.alt_paging.specs.Offered.{WasOffered, has_ended}
use Rattle.alt_paging.specs.declared.ask.PageAsk.{PageAsk}
use Rattle.alt_value.specs.Tree.{Pair}
use Rattle.alt_ops_query.proofs.walking.examine.Given as goal

abbrev pub invariant-loop-item : goal.invariant-loop-item
invariant-loop-item l = record {
  examined : (ask : PageAsk) (seen : List (List Pair)) → WasOffered l.fn.pager ask seen
      → All (λ i. i ≢ []) l.fn.items.items
      → SoFar l.fn.pager l.pager l.fn.items.items (into_iter_items l.item-iterator) ask seen;
  going : has_ended l.pager ≡ false;
}
