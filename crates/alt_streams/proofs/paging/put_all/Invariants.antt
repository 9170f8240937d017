-- The records of a front of the changes were put, and the page goes on.
use Rattle.std.proofs.Common.{◌≡◌, false, ℕ, List, map, Some, All}
use Rattle.std.specs.Vec.Iter.{into_iter_items}
use Rattle.alt_changes.specs.ChangeRows.{change_in}
use Rattle.alt_machine.specs.State.{Change}
use Rattle.alt_schema.specs.declared.schema.View.{View}
use Rattle.alt_streams.specs.private.Paged.{PageHasRecords, IsFit, is_full}
use Rattle.alt_streams.proofs.Pieces.{SoFar}
use Rattle.alt_streams.proofs.paging.put_all.Given as goal

abbrev pub invariant-loop-change : goal.invariant-loop-change
invariant-loop-change l = record {
  put : (shows : View) (most from : ℕ) (seen : List Change) → l.schema.view ≡ Some shows
      → PageHasRecords l.schema shows most from l.fn.page seen
      → All IsFit (map change_in l.fn.changes.items)
      → SoFar l.schema shows most from seen (map change_in l.fn.changes.items) l.page
      (map change_in (into_iter_items l.change-iterator));
  fit : All IsFit (map change_in l.fn.changes.items)
      → All IsFit (map change_in (into_iter_items l.change-iterator));
  going : is_full l.page ≡ false;
}
