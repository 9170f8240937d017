-- Blocks, as they are read.
use Rattle.std.specs.Prelude.{◌≡◌, ℕ, ◌<◌, ◌^◌, Bool, false, List, ◌++◌, length, Option, Some, None, T}
use Rattle.std.specs.declared.cmp.Ordering.TheVariants.{Less}
use Rattle.std.specs.List.{AllByRecursion, flat_map}
use Rattle.std.specs.FinMap.Entries.{is_sorted}
use Rattle.alt_cells.specs.Keys.{key_cmp}
use Rattle.alt_filter.specs.declared.filter.Filter.{Filter}
use Rattle.alt_rowblocks.specs.Filtering.{AreFilters, FilterHoldsRows}
use Rattle.alt_rowblocks.specs.Format.{Entry, Mark, rows_bytes, block_bytes, front, rows_of, body, first_key, marks_from, IsBlock, IsFull, AreBlocks, IsHeldBlock}
use Rattle.alt_rowblocks.specs.Summaries.{last_key, summary_of}
use Rattle.alt_rowblocks.specs.declared.summary.Summary.{Summary}

-- it is above the key before it
abbrev pub IsAbove : Option (List ℕ) → List ℕ → Type 0
IsAbove None key = Unit {0}
IsAbove (Some last) key = key_cmp last key ≡ Less

-- these bytes are the rows of a block that may come next
pub record IsNextBlock (after : Option (List ℕ)) (is_last : Bool) (bytes : List ℕ)
    (b : List Entry) : Type 0 where
  pub block : IsBlock b
  pub full : is_last ≡ false → IsFull b
  pub held : IsHeldBlock b
  pub rising : T (is_sorted key_cmp b)
  pub above : IsAbove after (first_key b)
  pub is : bytes ≡ rows_bytes b

-- what was read of it
pub record IsReadBlock (first last : List ℕ) (rows : ℕ) (summary : Summary) (filter : Filter)
    (b : List Entry) : Type 0 where
  pub first_is : first ≡ first_key b
  pub last_is : Some last ≡ last_key b
  pub rows_is : rows ≡ length b
  pub summary_is : summary ≡ summary_of b
  pub filter_is : FilterHoldsRows filter b

-- blocks of this file's front
pub record AreBlocksOf (blocks : List (List Entry)) (bytes : List ℕ) : Type 0 where
  pub cut : AreBlocks blocks
  pub rising : T (is_sorted key_cmp (rows_of blocks))
  pub held : AllByRecursion IsHeldBlock blocks
  pub is : bytes ≡ flat_map block_bytes blocks

-- what was found of them
pub record IsFoundAs (marks : List Mark) (rows : ℕ) (summary : Summary) (filters : List Filter)
    (blocks : List (List Entry)) : Type 0 where
  pub marks_are : marks ≡ marks_from 8 blocks
  pub rows_is : rows ≡ length (rows_of blocks)
  pub summary_is : summary ≡ summary_of (rows_of blocks)
  pub filters_are : AreFilters filters blocks

-- a block stands in front of these bytes that may come next there
pub record BeginsWithNextBlock (after : Option (List ℕ)) (bytes behind : List ℕ) (b : List Entry) : Type 0 where
  pub block : IsBlock b
  pub full : 0 < length behind → IsFull b
  pub held : IsHeldBlock b
  pub rising : T (is_sorted key_cmp b)
  pub above : IsAbove after (first_key b)
  pub is : bytes ≡ block_bytes b ++ behind

-- all of a file before its digest
pub record IsBody (blocks : List (List Entry)) (bytes : List ℕ) : Type 0 where
  pub cut : AreBlocks blocks
  pub rising : T (is_sorted key_cmp (rows_of blocks))
  pub held : AllByRecursion IsHeldBlock blocks
  pub place : length (front blocks) < 2 ^ 64
  pub is : bytes ≡ body blocks
