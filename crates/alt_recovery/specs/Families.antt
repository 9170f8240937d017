-- Families whose row files were opened, and why one wasn't.
use Rattle.std.specs.Prelude.{◌≡◌, ◌++◌, ℕ, List, [], ◌∷◌}
use Rattle.std.specs.BTreeMap.{get}
use Rattle.std.specs.FinMap.{empty, entries}
use Rattle.std.specs.List.{AllByRecursion}
use Rattle.std.specs.Ordering.{nat_cmp}
use Rattle.alt_disk.specs.Disk.{DiskState}
use Rattle.alt_families.specs.Families.{Families, files_in, rows_in}
use Rattle.alt_layout.specs.Families.{Held, files_of}
use Rattle.alt_layout.specs.Files.{AreRowFiles, Image}
use Rattle.alt_manifest.specs.declared.version.FamilyVersion.{FamilyVersion}
use Rattle.alt_rowfile.specs.InHand.{ReadsRows, file_of}
use Rattle.alt_rowfile.specs.declared.fault.RowFileFault.{RowFileFault}
use Rattle.alt_rowfile.specs.declared.fault.RowFileFault.TheVariants.{Damaged, DigestDiffers, Failed, NoMemory}
use Rattle.alt_rowfile.specs.declared.rowfile.RowFile.{RowFile}
use Rattle.alt_recovery.specs.Opening.{ExplainsOpening}

-- The files in hand are those of these numbers, in order, and each reads as the rows that it is said to hold.
abbrev pub AreInHand : DiskState → Held → List ℕ → List RowFile → Type 0
AreInHand s held [] [] = Unit {0}
AreInHand s held [] (f ∷ fs) = ⊥
AreInHand s held (g ∷ gs) [] = ⊥
AreInHand s held (g ∷ gs) (f ∷ fs) =
    (file_of f ≡ g) × ReadsRows s f (entries (held g)) × AreInHand s held gs fs

-- The files of each family hold these rows and are in hand, and no family has rows in memory.
pub record AreOpenedFamilies (s : DiskState) (held : Held) (fs : List FamilyVersion)
    (opened : Families) : Type 0 where
  pub files : AllByRecursion (AreRowFiles s.file held) fs
  pub open_files : (family : ℕ) → AreInHand s held (files_of fs family)
      (files_in (get nat_cmp opened family))
  pub none : (family : ℕ) → rows_in (get nat_cmp opened family) ≡ empty

-- A fault tells why a file of one of the families wasn't opened.
pub record IsBadFamily (image : Image) (fs : List FamilyVersion)
    (fault : RowFileFault) : Type 0 where
  pub before : List FamilyVersion
  pub family : FamilyVersion
  pub behind : List FamilyVersion
  pub is : fs ≡ before ++ family ∷ behind
  pub told : ExplainsOpening image family.files family.flushed fault

-- Damage and a digest that differs tell so.
abbrev pub ExplainsFamilies : Image → List FamilyVersion → RowFileFault → Type 0
ExplainsFamilies image fs (Damaged f at) = IsBadFamily image fs (Damaged f at)
ExplainsFamilies image fs (DigestDiffers f kept found) =
    IsBadFamily image fs (DigestDiffers f kept found)
ExplainsFamilies image fs Failed = Unit {0}
ExplainsFamilies image fs NoMemory = Unit {0}
