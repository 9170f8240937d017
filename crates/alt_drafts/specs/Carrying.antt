-- That a step of a draft leaves a merge of a family's files under way one.
use Rattle.std.specs.Prelude.{◌≡◌, ℕ, List, ◌++◌, Option}
use Rattle.std.specs.List.{AllByRecursion}
use Rattle.alt_disk.specs.Disk.{DiskState}
use Rattle.alt_manifest.specs.declared.version.Version.{Version}
use Rattle.alt_rowfile.specs.InHand.{file_of as row_file}
use Rattle.alt_rowfile.specs.declared.rowfile.RowFile.{RowFile}
use Rattle.alt_families.specs.Families.{files_in}
use Rattle.alt_families.specs.declared.family.Family.{Family}
use Rattle.alt_drafts.specs.Merging.{MayEnd}

-- Row files read as they read.
abbrev pub AreStill : DiskState → DiskState → List RowFile → Type 0
AreStill old new files = AllByRecursion (λ f. new.file (row_file f) ≡ old.file (row_file f)) files

-- Of a draft and of a family in hand: its files stay in front, read as they read, and a merge of the first of them may still end.
pub record CarriesDraft (a b : DiskState) (u w : Version) (old new : Option Family)
    (family : ℕ) : Type 0 where
  pub more : List RowFile
  pub files : files_in new ≡ files_in old ++ more
  pub still : AreStill a b (files_in old)
  pub merging : (taken number file : ℕ) → MayEnd a u (files_in old) family taken number file
      → MayEnd b w (files_in new) family taken number file
