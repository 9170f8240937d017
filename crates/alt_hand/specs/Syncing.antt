-- Files that are synced one by one, and what a stop leaves on the way.
use Rattle.std.specs.Prelude.{◌≡◌, ◌≤◌, ◌==◌, ℕ, true, List, Option, Some}
use Rattle.std.specs.List.{list_any}
use Rattle.alt_disk.specs.Fates.{Fits, synced}
use Rattle.alt_disk.specs.Disk.{DiskState, now}

-- Calls on whose way a stop leaves of each file what one left before them.
pub record Narrows (old new : DiskState) : Type 0 where
  pub later : old.moment ≤ new.moment
  pub past : (t g : ℕ) → t ≤ old.moment → new.fates t g ≡ old.fates t g
  pub each : (t g : ℕ) (left : Option (List ℕ)) → old.moment ≤ t → t ≤ new.moment
      → Fits (new.fates t g) left → Fits (now old g) left

-- each file that is there was synced: a stop leaves what reads give
abbrev pub AllSynced : DiskState → Type 0
AllSynced s = (f : ℕ) (bytes : List ℕ) → s.file f ≡ Some bytes → now s f ≡ synced bytes

-- so are the files of a list
abbrev pub AreSynced : DiskState → List ℕ → Type 0
AreSynced s list = (f : ℕ) (bytes : List ℕ) → list_any (λ g. f == g) list ≡ true
    → s.file f ≡ Some bytes → now s f ≡ synced bytes
