-- What a call on a row file in hand asks of the disk: one block at most, by one read of its length.
use Rattle.std.specs.Prelude.{◌≡◌, ◌⊎◌, ◌<◌, ◌-◌, ℕ}
use Rattle.alt_disk.specs.Disk.{DiskState}
use Rattle.alt_rowfile.specs.InHand.{block_count, file_of}
use Rattle.alt_rowblocks.specs.Loading.{place_at, next_place}
use Rattle.alt_rowfile.specs.declared.rowfile.RowFile.{RowFile}
use Rattle.alt_rowblocks.specs.Pieces.{ReadIs}

-- the place of a block of a file in hand, and its length
abbrev pub place_of_block : RowFile → ℕ → ℕ
place_of_block file i = place_at file.marks.items i

-- the length of a block of a file in hand, up to the next one
abbrev pub length_of_block : RowFile → ℕ → ℕ
length_of_block file i = next_place file.marks.items file.end i - place_of_block file i

-- one read of one of the file's blocks, from its place on and of its length
pub record ReadsABlock (old new : DiskState) (file : RowFile) : Type 0 where
  pub block : ℕ
  pub within : block < block_count file
  pub read : ReadIs old new (file_of file) (place_of_block file block) (length_of_block file block)

-- no call was made, or that one
abbrev pub ReadsAtMostABlock : DiskState → DiskState → RowFile → Type 0
ReadsAtMostABlock old new file = (new ≡ old) ⊎ ReadsABlock old new file
