-- What a call on a row file in hand says where it answers Damaged.
use Rattle.std.specs.Prelude.{◌≡◌, ◌<◌, ℕ, List, IsTrue}
use Rattle.alt_disk.specs.Disk.{DiskState, contents}
use Rattle.alt_cells.specs.declared.source.SourceFault.{SourceFault}
use Rattle.alt_cells.specs.declared.source.SourceFault.TheVariants.{Damaged, Failed, NoMemory}
use Rattle.alt_rowblocks.specs.Format.{Entry}
use Rattle.alt_rowfile.specs.InHand.{block_count, file_of}
use Rattle.alt_rowblocks.specs.Loading.{LoadedAt}
use Rattle.alt_rowfile.specs.Reading.{place_of_block}
use Rattle.alt_rowfile.specs.declared.rowfile.RowFile.{RowFile}

-- The place is that of one of the file's blocks and, where the disk tells what it has, no rows' bytes stand there.
pub record IsBadBlock (s : DiskState) (file : RowFile) (at : ℕ) : Type 0 where
  pub block : ℕ
  pub within : block < block_count file
  pub place : at ≡ place_of_block file block
  pub bad : IsTrue s.tells → (b : List Entry)
      → LoadedAt (contents s (file_of file)) file.marks.items file.end block b → ⊥

-- damage is of this file, and at such a place
abbrev pub IsDamageIn : DiskState → RowFile → SourceFault → Type 0
IsDamageIn s file (Damaged f at) = (f ≡ file_of file) × IsBadBlock s file at
IsDamageIn s file Failed = Unit {0}
IsDamageIn s file NoMemory = Unit {0}
