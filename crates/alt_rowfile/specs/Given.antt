-- What an answer may be made of, whatever the file has: the bytes of one of its blocks, all of them, as they were read.
use Rattle.std.specs.Prelude.{◌≡◌, ◌⊎◌, ◌<◌, ◌+◌, ℕ, Bool, true, false, IsTrue, List, [], length, take, drop, Option, Some, None}
use Rattle.alt_disk.specs.Disk.{DiskState, contents}
use Rattle.alt_cells.specs.declared.row.RowCells.{RowCells}
use Rattle.alt_rowblocks.specs.Format.{Entry}
use Rattle.alt_rowblocks.specs.Holding.{IsInHand}
use Rattle.alt_rowfile.specs.InHand.{block_count, file_of}
use Rattle.alt_rowfile.specs.Reading.{length_of_block, place_of_block}
use Rattle.alt_rowblocks.specs.Searching.{EndsAt}
use Rattle.alt_rowfile.specs.Walking.{IsEnd, IsNext, place_behind_block}
use Rattle.alt_rowblocks.specs.declared.hand.Hand.{Hand}
use Rattle.alt_rowfile.specs.declared.rowfile.RowFile.{RowFile}
use Rattle.alt_rowfile.specs.declared.walk.RowFileWalk.{RowFileWalk}
use Rattle.alt_rowblocks.specs.Taken.{IsFoundIn, IsBegun, IsTaken, HandGives}

-- They were read of a block of the file: as many as it has and, where the disk tells what it has, those that stand there.
pub record AreRead (s : DiskState) (file : RowFile) (block : ℕ) (bytes : List ℕ) : Type 0 where
  pub within : block < block_count file
  pub size : length bytes ≡ length_of_block file block
  pub there : IsTrue s.tells
      → bytes ≡ take (length_of_block file block) (drop (place_of_block file block) (contents s (file_of file)))

-- and these were read of that block
pub record IsRowRead (s : DiskState) (file : RowFile) (block : ℕ) (key : List ℕ)
    (row : Option RowCells) : Type 0 where
  pub bytes : List ℕ
  pub read : AreRead s file block bytes
  pub found : IsFoundIn bytes key row

-- A look for a key read no block and found no row, or found what one of the file's blocks has there.
abbrev pub IsRowGiven : DiskState → DiskState → RowFile → List ℕ → Option RowCells → Type 0
IsRowGiven old new file key row =
    ((new ≡ old) × (row ≡ None)) ⊎ ((block : ℕ) × IsRowRead old file block key row)

-- nothing is in hand, in no direction
abbrev pub IsNothing : Hand → Type 0
IsNothing hand = (forward : Bool) → IsInHand hand forward []

-- where a walk that has read nothing goes on: before all blocks, or downwards behind them
abbrev pub outset : Bool → ℕ → ℕ
outset true count = 0
outset false count = count

-- A walk from no key has nothing in hand, and all blocks are to be read. One from a key began in the last block that begins at or below it,
-- whose bytes were read, and goes on beside that block; or there is none, and it has nothing in hand.
abbrev pub IsSought : DiskState → DiskState → RowFile → Option (List ℕ) → Bool → ℕ → Hand → Type 0
IsSought old new file None forward next hand =
    (new ≡ old) × IsNothing hand × (next ≡ outset forward (block_count file))
IsSought old new file (Some key) forward next hand =
    ((new ≡ old) × IsNothing hand × EndsAt file.marks.items key 0 × (next ≡ 0))
    ⊎ ((block : ℕ) × AreRead old file block hand.bytes.items × IsBegun hand (Some key) forward
    × EndsAt file.marks.items key (block + 1) × (next ≡ place_behind_block forward block))

-- A walk was sought so: it stays at its file, goes that way, and its place and what it has in hand were sought there.
abbrev pub walk_seeks : DiskState → DiskState → RowFileWalk → Option (List ℕ) → Bool → RowFileWalk
    → Type 0
walk_seeks old new before from forward after = (after.file ≡ before.file)
    × (after.forward ≡ forward) × IsSought old new before.file.now from forward after.next after.hand

-- A walk read its next block, began in it, gave what is first there, and goes on behind the block.
pub record ReadsNextBlock (old : DiskState) (before : RowFileWalk) (given : Option Entry)
    (after : RowFileWalk) : Type 0 where
  pub block : ℕ
  pub next : IsNext before.forward before.next (block_count before.file.now) block
  pub loaded : Hand
  pub read : AreRead old before.file.now block loaded.bytes.items
  pub begun : IsBegun loaded None before.forward
  pub gives : HandGives loaded before.forward given after.hand
  pub behind : after.next ≡ place_behind_block before.forward block

-- It made no call and gave None, as no block is left.
pub record IsAtEnd (old new : DiskState) (before : RowFileWalk) (given : Option Entry)
    (after : RowFileWalk) : Type 0 where
  pub none : given ≡ None
  pub end : IsEnd before.forward before.next (block_count before.file.now)
  pub uncalled : new ≡ old
  pub stays : after ≡ before

-- It made no call and gave the next row that it has in hand.
pub record IsOfHand (old new : DiskState) (before : RowFileWalk) (given : Option Entry)
    (after : RowFileWalk) : Type 0 where
  pub row : Entry
  pub some : given ≡ Some row
  pub taken : IsTaken before.hand before.forward row after.hand
  pub uncalled : new ≡ old
  pub next : after.next ≡ before.next

-- beyond what is in hand it gives what the next block has first, or None where there is none
abbrev pub GivesBeyondHand : DiskState → DiskState → RowFileWalk → Option Entry → RowFileWalk → Type 0
GivesBeyondHand old new before given after =
    IsAtEnd old new before given after ⊎ ReadsNextBlock old before given after

-- A walk answers so: it stays at its file and goes on that way, and gives the next row in hand or, where nothing is left in hand, what is
-- beyond.
abbrev pub walk_nexts : DiskState → DiskState → RowFileWalk → Option Entry → RowFileWalk → Type 0
walk_nexts old new before given after = (after.file ≡ before.file)
    × (after.forward ≡ before.forward)
    × (IsOfHand old new before given after
    ⊎ (IsInHand before.hand before.forward [] × GivesBeyondHand old new before given after))
