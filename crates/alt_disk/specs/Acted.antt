-- What a call that was kept does to the disk: to its file what it did, and to no other.
use Rattle.std.specs.Prelude.{◌≡◌, ℕ, List, [], ◌∷◌, ◌++◌, Option, Some, None}
use Rattle.alt_disk.specs.Disk.{DiskState, Others, Same, now}
use Rattle.alt_disk.specs.Memory.{bytes_after, fates_after}
use Rattle.alt_disk.specs.declared.made.Deed.{Deed}
use Rattle.alt_disk.specs.declared.made.Made.{Made}

-- the call was kept
pub record Acted (old new : DiskState) (f : ℕ) (deed : Deed) : Type 0 where
  pub others : Others old new f
  pub file : new.file f ≡ bytes_after deed (old.file f)
  pub fates : now new f ≡ fates_after deed (old.file f) (now old f)

-- there was a call to keep, and it was kept
abbrev pub ActedSome : DiskState → DiskState → ℕ → Option Deed → Type 0
ActedSome old new f None = ⊥
ActedSome old new f (Some deed) = Acted old new f deed

-- it counts as this, or as nothing
abbrev pub CountsAs : DiskState → DiskState → ℕ → Option Deed → Type 0
CountsAs old new f None = Same old new
CountsAs old new f (Some deed) = Acted old new f deed

-- there was a call to keep, and the list has it
abbrev pub PushedSome : List Made → List Made → ℕ → ℕ → Option Deed → Type 0
PushedSome old new time f None = ⊥
PushedSome old new time f (Some deed) = new ≡ old
    ++ record { time = time; file = f; deed = deed } ∷ []

-- the list has it, or is as before where there was none
abbrev pub KeptSome : List Made → List Made → ℕ → ℕ → Option Deed → Type 0
KeptSome old new time f None = new ≡ old
KeptSome old new time f (Some deed) = new ≡ old
    ++ record { time = time; file = f; deed = deed } ∷ []
