-- Row files that were opened, and why one wasn't.
use Rattle.std.specs.Prelude.{◌≡◌, ◌⊎◌, ◌+◌, ℕ, List, [], ◌∷◌, Option, Some}
use Rattle.std.specs.FinMap.{entries}
use Rattle.alt_cells.specs.Walks.{RowMap}
use Rattle.alt_disk.specs.Disk.{DiskState, bytes_or_none}
use Rattle.alt_layout.specs.Families.{IsMapBelow}
use Rattle.alt_layout.specs.Files.{Image}
use Rattle.alt_manifest.specs.Versions.{IsIn}
use Rattle.alt_rowfile.specs.Format.{IsRowFile}
use Rattle.alt_rowfile.specs.InHand.{ReadsRows, file_of}
use Rattle.alt_rowfile.specs.Recovery.{ExplainsFile}
use Rattle.alt_rowfile.specs.declared.fault.RowFileFault.{RowFileFault}
use Rattle.alt_rowfile.specs.declared.fault.RowFileFault.TheVariants.{Damaged, DigestDiffers, Failed, NoMemory}
use Rattle.alt_rowfile.specs.declared.rowfile.RowFile.{RowFile}

-- The file in hand is that of this number and reads as these rows, whose timestamps aren't above the flushed number.
pub record IsOpened (s : DiskState) (flushed f : ℕ) (file : RowFile) (m : RowMap) : Type 0 where
  pub named : file_of file ≡ f
  pub reads : ReadsRows s file (entries m)
  pub past : IsMapBelow (flushed + 1) m

-- So is each of several, in order.
abbrev pub AreOpened : DiskState → ℕ → List ℕ → List RowFile → List RowMap → Type 0
AreOpened s flushed [] [] [] = Unit {0}
AreOpened s flushed [] [] (m ∷ ms) = ⊥
AreOpened s flushed [] (f ∷ fs) ms = ⊥
AreOpened s flushed (g ∷ gs) [] ms = ⊥
AreOpened s flushed (g ∷ gs) (f ∷ fs) [] = ⊥
AreOpened s flushed (g ∷ gs) (f ∷ fs) (m ∷ ms) =
    IsOpened s flushed g f m × AreOpened s flushed gs fs ms

-- The file is a row file with a timestamp above the flushed number.
pub record IsLate (flushed : ℕ) (file : Option (List ℕ)) : Type 0 where
  pub rows : RowMap
  pub bytes : List ℕ
  pub there : file ≡ Some bytes
  pub are : IsRowFile (entries rows) bytes
  pub late : IsMapBelow (flushed + 1) rows → ⊥

-- Damaged names the file and the place 0 where it is such a file.
abbrev pub ExplainsLate : ℕ → ℕ → Option (List ℕ) → RowFileFault → Type 0
ExplainsLate f flushed file (Damaged g at) = (g ≡ f) × (at ≡ 0) × IsLate flushed file
ExplainsLate f flushed file (DigestDiffers g kept found) = ⊥
ExplainsLate f flushed file Failed = Unit {0}
ExplainsLate f flushed file NoMemory = Unit {0}

-- A fault tells why the file is no row file, or that it is late.
abbrev pub ExplainsRows : ℕ → ℕ → Option (List ℕ) → RowFileFault → Type 0
ExplainsRows f flushed file fault = ExplainsFile f (bytes_or_none file) fault
    ⊎ ExplainsLate f flushed file fault

-- It tells so of one of these files.
abbrev pub ExplainsOpening : Image → List ℕ → ℕ → RowFileFault → Type 0
ExplainsOpening image files flushed fault =
    (f : ℕ) × IsIn files f × ExplainsRows f flushed (image f) fault
