-- The merge stands, some rows are left, and all else is as it was.
use Rattle.std.proofs.Common.{◌≡◌, ◌≢◌, ℕ}
use Rattle.alt_cells.specs.Walks.{RowList}
use Rattle.alt_disk.specs.Disk.{IsTrusted, Goes}
use Rattle.alt_disk.specs.Runs.{Spans}
use Rattle.alt_layout.specs.Layout.{Layout}
use Rattle.alt_layout.specs.Moments.{Has}
use Rattle.alt_hand.specs.Carrying.{AreStill}
use Rattle.alt_hand.specs.InHand.{HandStandsForLayout}
use Rattle.alt_hand.specs.Merging.{files_at}
use Rattle.alt_merging.specs.Mergings.{MergingStands, family_of_merging, file_of_merging, taken_of}
use Rattle.alt_merging.proofs.merging.Merging.exhaust.Given as goal

abbrev pub invariant-steps : goal.invariant-steps
invariant-steps g l = let state = g.D.Disk.state in record {
  ok : IsTrusted (state l.fn.disk) → (m : Layout) → HandStandsForLayout (state l.fn.disk) l.hand m
      → HandStandsForLayout (state l.disk) l.hand m;
  merging : IsTrusted (state l.fn.disk) → (left : RowList)
      × MergingStands (state l.disk) l.hand l.self left;
  family : family_of_merging l.self ≡ family_of_merging l.fn.self;
  taken : taken_of l.self ≡ taken_of l.fn.self;
  file : file_of_merging l.self ≡ file_of_merging l.fn.self;
  only : IsTrusted (state l.fn.disk) → (f : ℕ) → f ≢ file_of_merging l.fn.self
      → (state l.disk).file f ≡ (state l.fn.disk).file f;
  still : IsTrusted (state l.fn.disk) → (other : ℕ)
      → AreStill (state l.fn.disk) (state l.disk) (files_at l.hand other);
  spans : IsTrusted (state l.fn.disk) → (m : Layout) → HandStandsForLayout (state l.fn.disk) l.hand m
      → Spans (state l.fn.disk) (state l.disk) (λ g. Unit {0}) (Has m);
  goes : Goes (state l.fn.disk) (state l.disk);
  well : (state l.disk).faults ≡ (state l.fn.disk).faults;
}
