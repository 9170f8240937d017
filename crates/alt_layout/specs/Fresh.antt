-- A fresh store: an empty log of writes, of the second form, and a log of versions with the first one, of the first form.
use Rattle.std.specs.Prelude.{◌≡◌, ◌≢◌, ◌⊎◌, ℕ, List, [], ◌∷◌, ◌++◌, Some, None}
use Rattle.std.specs.Int.{w32, w64, to_be_bytes}
use Rattle.alt_disk.specs.Disk.{DiskState, IsSettled}
use Rattle.alt_gatelog.specs.Log.{log_bytes}
use Rattle.alt_gatelog.specs.declared.form.Form.TheVariants.{One, Two}

-- The only version so far: next file 3, next number 1, the segment of file 2, and no families.
unfoldable pub first_version : List ℕ
first_version =
    to_be_bytes w32 3
    ++ (to_be_bytes w64 1 ++ (to_be_bytes w64 1 ++ (to_be_bytes w32 2 ++ to_be_bytes w64 0)))

-- the file of the versions
abbrev pub versions_file : ℕ
versions_file = 1

-- and that of the entries
abbrev pub entries_file : ℕ
entries_file = 2

-- A disk with a fresh store and nothing else, in reads, of which a stop leaves what reads give.
pub record IsFresh (s : DiskState) : Type 0 where
  pub versions : s.file versions_file ≡ Some (log_bytes One (first_version ∷ []) 0 [])
  pub entries : s.file entries_file ≡ Some (log_bytes Two [] 0 [])
  pub others : (f : ℕ) → f ≢ versions_file → f ≢ entries_file → s.file f ≡ None
  pub versions_last : IsSettled s versions_file
  pub entries_last : IsSettled s entries_file

-- the files that a store is made of
abbrev pub IsFreshStoreFile : ℕ → Type 0
IsFreshStoreFile f = (f ≡ versions_file) ⊎ (f ≡ entries_file)
