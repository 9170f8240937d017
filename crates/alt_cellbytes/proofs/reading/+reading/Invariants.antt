-- The elements so far, and the bytes behind them; each call has fewer bytes.
use Rattle.std.proofs.Common.{◌≡◌, ◌≤◌, ◌+◌, ◌*◌, ◌++◌, length}
use Rattle.std.specs.List.{AllByRecursion, flat_map}
use Rattle.alt_value.specs.CellBytes.{cell_bytes}
use Rattle.alt_value.specs.Size.{depth}
use Rattle.alt_cellbytes.specs.Places.{AreMapEntries, entry_bytes}
use Rattle.alt_cellbytes.specs.Values.{HasBytes}
use Rattle.alt_cellbytes.proofs.reading.+reading.Given as goal

abbrev pub invariant-take_elements-loop-done : goal.invariant-take_elements-loop-done
invariant-take_elements-loop-done l = record {
  count : length l.list ≡ l._done;
  members : AllByRecursion HasBytes l.list;
  shallow : AllByRecursion (λ t. depth t ≤ l.most) l.list;
  bytes : l.bytes ≡ flat_map cell_bytes l.list ++ l.rest;
}

abbrev pub invariant-take_entries-loop-done : goal.invariant-take_entries-loop-done
invariant-take_entries-loop-done l = record {
  count : length l.map ≡ l._done;
  members : AreMapEntries l.map;
  shallow : AllByRecursion (λ e. depth e.1 ≤ l.most) l.map;
  bytes : l.bytes ≡ flat_map entry_bytes l.map ++ l.rest;
}

abbrev pub decreases-take_value : goal.decreases-take_value
decreases-take_value l = 3 * length l.bytes.now

abbrev pub decreases-take_list : goal.decreases-take_list
decreases-take_list l = 3 * length l.bytes.now + 2

abbrev pub decreases-take_map : goal.decreases-take_map
decreases-take_map l = 3 * length l.bytes.now + 2

abbrev pub decreases-take_elements : goal.decreases-take_elements
decreases-take_elements l = 3 * length l.bytes.now + 1

abbrev pub decreases-take_entries : goal.decreases-take_entries
decreases-take_entries l = 3 * length l.bytes.now + 1
