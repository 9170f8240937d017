use Rattle.std.proofs.Common.{◌≡◌, ◌≤◌, ◌+◌, ◌*◌, List, IsTrue, map}
use Rattle.std.specs.Option.{option_copied}
use Rattle.alt_cells.specs.Walks.{RowMap, RowList, rows_from}
use Rattle.alt_merge.specs.Costs.{HasLists, all_width, all_due, all_times}
use Rattle.alt_merge.specs.Merges.{HoldsEach}
use Rattle.alt_merge.proofs.passing.pass_over.Given as goal

abbrev pub invariant-loop-i : goal.invariant-loop-i
invariant-loop-i g l =
    let state = g.D.Disk.state in
    let s = g.S.RowSource in
    record {
      tells : IsTrue (state l.fn.disk).tells → IsTrue (state l.disk).tells;
      way : l.merge.forward ≡ l.fn.forward;
      spent : IsTrue (state l.fn.disk).tells → (maps : List RowMap)
          → HoldsEach s.holds (state l.fn.disk) l.fn.merge.sources.items maps
          → (rest : List RowList)
          × HasLists (s.left (state l.disk)) l.merge.sources.items l.merge.heads.items l.fn.forward
          rest
          × ((state l.disk).reads + all_due s.width l.merge.heads.items l.merge.sources.items
          + all_times s.width l.merge.sources.items rest
          ≤ (state l.fn.disk).reads + 2 * all_width s.width l.fn.merge.sources.items
          + all_times s.width l.fn.merge.sources.items
          (map (λ m. rows_from m (option_copied l.fn.from) l.fn.forward) maps));
    }
