-- What is left of a walk, and paid for. Private contracts alone cite these words.
use Rattle.std.specs.Prelude.{◌≡◌, ◌≤◌, ◌+◌, ℕ, Bool, List, map}
use Rattle.alt_cells.specs.Joined.{all_joined}
use Rattle.alt_cells.specs.Rows.{join_row}
use Rattle.alt_cells.specs.Walks.{RowList, walk_cmp}
use Rattle.alt_disk.specs.Disk.{DiskState}
use Rattle.alt_merge.specs.Costs.{HasLists, all_due, all_times}
use Rattle.alt_merge.specs.Whole.{heads_of, is_forward, sources_of}
use Rattle.alt_merge.specs.declared.merge.Merge.{Merge}
use Rattle.alt_families.specs.Reads.{passed_of}
use Rattle.alt_families.specs.Sources.{source_left, source_width}
use Rattle.alt_families.specs.declared.source.Source.{Source}

-- These rows are left of the walk, joined of what is left of each source; and the reads so far, with those that are due and one for each version
-- with such a key that is left in a file, are at most so many.
pub record IsPaid (p : List ℕ → Bool) (most : ℕ) (s : DiskState) (walk : Merge Source)
    (forward : Bool) (rest : RowList) : Type 0 where
  pub lists : List RowList
  pub has : HasLists (source_left s) (sources_of walk) (heads_of walk) forward lists
  pub way : is_forward walk ≡ forward
  pub is : rest ≡ all_joined (walk_cmp forward) join_row lists
  pub paid : s.reads + all_due source_width (heads_of walk) (sources_of walk)
      + all_times source_width (sources_of walk) (map (passed_of p) lists) ≤ most
