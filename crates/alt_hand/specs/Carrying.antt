-- That calls of an engine leave a merge of a family's files under way one.
use Rattle.std.specs.Prelude.{◌≡◌, ℕ, List, ◌++◌}
use Rattle.alt_disk.specs.Disk.{DiskState}
use Rattle.alt_rowfile.specs.declared.rowfile.RowFile.{RowFile}
use Rattle.alt_hand.specs.Merging.{IsMerging, files_at}
use Rattle.alt_hand.specs.declared.hand.Hand.{Hand}
pub use Rattle.alt_drafts.specs.Carrying.{AreStill, CarriesDraft}

-- Its files stay in front, read as they read, a merge of the first of them stays one, and the file that the merge writes reads as it read.
pub record CarriesFamily (a b : DiskState) (e f : Hand) (family : ℕ) : Type 0 where
  pub more : List RowFile
  pub files : files_at f family ≡ files_at e family ++ more
  pub still : AreStill a b (files_at e family)
  pub merging : (taken number file : ℕ) → IsMerging a e family taken number file
      → IsMerging b f family taken number file
  pub beside : (taken number file : ℕ) → IsMerging a e family taken number file
      → b.file file ≡ a.file file
