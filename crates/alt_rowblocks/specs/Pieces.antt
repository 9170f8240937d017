-- What the read of a piece of a file asks of the disk.
use Rattle.std.specs.Prelude.{◌≡◌, ◌⊎◌, ℕ, Bool}
use Rattle.alt_disk.specs.Disk.{DiskState, ReadCall}

-- one read of a file from a place on, of so many bytes at most, that answered or failed
abbrev pub ReadIs : DiskState → DiskState → ℕ → ℕ → ℕ → Type 0
ReadIs old new f at most = (answered : Bool) × ReadCall old new f at most answered

-- no call was made, or such a read
abbrev pub ReadsOnce : DiskState → DiskState → ℕ → ℕ → ℕ → Type 0
ReadsOnce old new f at most = (new ≡ old) ⊎ ReadIs old new f at most
