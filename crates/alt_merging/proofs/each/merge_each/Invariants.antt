-- The families so far are merged, and the others are as they were.
use Rattle.std.proofs.Common.{◌≡◌, ◌≤◌, ◌+◌, ℕ, take, true, false}
use Rattle.alt_disk.specs.Disk.{IsTrusted, Goes}
use Rattle.alt_disk.specs.Runs.{Spans}
use Rattle.alt_layout.specs.Layout.{Layout}
use Rattle.alt_manifest.specs.Versions.{IsIn}
use Rattle.alt_hand.specs.Adding.{AddsVersion, LeavesOut, MakesNone}
use Rattle.alt_hand.specs.Carrying.{AreStill}
use Rattle.alt_hand.specs.InHand.{HandStandsForLayout, length_of, limits_of, next_file_of, next_of}
use Rattle.alt_hand.specs.Merging.{files_at, memory_at}
use Rattle.alt_hand.specs.Working.{Works, WorksIn}
use Rattle.alt_merging.specs.Merged.{AreMerged}
use Rattle.alt_merging.proofs.each.merge_each.Given as goal

abbrev pub invariant-loop-family : goal.invariant-loop-family
invariant-loop-family g l = let state = g.D.Disk.state in record {
  ok : IsTrusted (state l.fn.disk) → (m : Layout) → HandStandsForLayout (state l.fn.disk) l.fn.hand m
      → (n : Layout) × HandStandsForLayout (state l.disk) l.hand n × Works l.live m n;
  merged : IsTrusted (state l.fn.disk) → (family : ℕ) → IsIn (take l.family-index l.live) family
      → AreMerged (state l.disk) (files_at l.hand family);
  files : (family : ℕ) → IsIn l.live family
      → (IsIn (take l.family-index l.live) family → ⊥)
      → files_at l.hand family ≡ files_at l.fn.hand family;
  still : IsTrusted (state l.fn.disk) → (family : ℕ) → IsIn l.live family
      → (IsIn (take l.family-index l.live) family → ⊥)
      → AreStill (state l.fn.disk) (state l.disk) (files_at l.fn.hand family);
  idle : l.merged ≡ false → IsTrusted (state l.fn.disk) → (family : ℕ)
      → IsIn (take l.family-index l.live) family
      → AreMerged (state l.fn.disk) (files_at l.fn.hand family);
  idle_disk : l.merged ≡ false → state l.disk ≡ state l.fn.disk;
  idle_hand : l.merged ≡ false → l.hand ≡ l.fn.hand;
  busy : l.merged ≡ true → IsTrusted (state l.fn.disk) → (family : ℕ) × IsIn l.live family
      × (AreMerged (state l.fn.disk) (files_at l.fn.hand family) → ⊥);
  memory : (family : ℕ) → IsIn l.live family
      → memory_at l.hand family ≡ memory_at l.fn.hand family;
  kept : IsTrusted (state l.fn.disk) → (family : ℕ) → IsIn l.live family
      → AreMerged (state l.fn.disk) (files_at l.fn.hand family)
      → files_at l.hand family ≡ files_at l.fn.hand family;
  leaves_out : l.merged ≡ true → LeavesOut l.live l.fn.hand l.hand;
  adds : l.merged ≡ true → IsTrusted (state l.fn.disk) → (m : Layout)
      → HandStandsForLayout (state l.fn.disk) l.fn.hand m → AddsVersion (state l.disk) l.fn.hand l.hand;
  missing : IsTrusted (state l.fn.disk) → (m : Layout) → HandStandsForLayout (state l.fn.disk) l.fn.hand m
      → MakesNone (state l.fn.disk) (state l.disk) (next_file_of l.fn.hand);
  low : next_file_of l.fn.hand ≤ next_file_of l.hand;
  next_file : next_file_of l.hand ≤ next_file_of l.fn.hand + l.family-index;
  length : length_of l.hand ≡ length_of l.fn.hand;
  next : next_of l.hand ≡ next_of l.fn.hand;
  limits : limits_of l.hand ≡ limits_of l.fn.hand;
  spans : IsTrusted (state l.fn.disk) → (m : Layout) → HandStandsForLayout (state l.fn.disk) l.fn.hand m
      → Spans (state l.fn.disk) (state l.disk) (λ g. Unit {0}) (WorksIn l.live m);
  goes : Goes (state l.fn.disk) (state l.disk);
  well : (state l.disk).faults ≡ (state l.fn.disk).faults;
}
