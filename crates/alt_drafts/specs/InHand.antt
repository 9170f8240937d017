-- The row files of families in hand, and the bytes of their rows in memory.
use Rattle.std.specs.Prelude.{◌≡◌, ℕ, List, [], ◌∷◌, Option, None, ◌<◌, Some}
use Rattle.std.specs.BTreeMap.{get}
use Rattle.std.specs.FinMap.{entries}
use Rattle.std.specs.Ordering.{nat_cmp}
use Rattle.alt_disk.specs.Disk.{DiskState}
use Rattle.alt_rowfile.specs.InHand.{file_of as row_file, ReadsRows as RowReads}
use Rattle.alt_rowfile.specs.declared.rowfile.RowFile.{RowFile}
use Rattle.alt_layout.specs.Families.{Held}
use Rattle.alt_families.specs.Families.{Families}
use Rattle.alt_families.specs.declared.family.Family.{Family}

-- The files in hand are those of these numbers, in order, and each reads as the rows that it is said to hold.
abbrev pub AreOpen : DiskState → Held → List ℕ → List RowFile → Type 0
AreOpen s held [] [] = Unit {0}
AreOpen s held [] (f ∷ fs) = ⊥
AreOpen s held (g ∷ gs) [] = ⊥
AreOpen s held (g ∷ gs) (f ∷ fs) =
    (row_file f ≡ g) × RowReads s f (entries (held g)) × AreOpen s held gs fs

-- How many bytes were put into the rows that a family has in memory, counted up to 2^62.
abbrev pub bytes_in_memory : Option Family → ℕ
bytes_in_memory None = 0
bytes_in_memory (Some f) = f.table.1

-- Each family has fewer bytes than this in memory.
abbrev pub AreBelow : ℕ → Families → Type 0
AreBelow flush families = (family : ℕ) → bytes_in_memory (get nat_cmp families family) < flush
