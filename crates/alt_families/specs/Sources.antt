-- The sources of a family's rows, its table in memory and its files, as sources of one type.
use Rattle.std.specs.Prelude.{ℕ, Bool, List, Option}
use Rattle.alt_disk.specs.Disk.{DiskState}
use Rattle.alt_cells.specs.Walks.{RowMap, RowList, SameFiles}
use Rattle.alt_cells.specs.declared.row.RowCells.{RowCells}
use Rattle.alt_memtable.specs.Walk as mem
use Rattle.alt_rowfile.specs.Walking as row
use Rattle.alt_rowfile.specs.Given as given
use Rattle.alt_families.specs.declared.source.Source.{Source}
use Rattle.alt_families.specs.declared.source.Source.TheVariants.{Memory, File}

-- The files that the source reads.
abbrev pub source_reads : Source → ℕ → Bool
source_reads (Memory w) = mem.memory_walk_reads w
source_reads (File w) = row.walk_reads w

-- The most reads that one call of it costs.
abbrev pub source_width : Source → ℕ
source_width (Memory w) = mem.memory_walk_width w
source_width (File w) = row.walk_width w

-- The source was sought so: its walk was, and it stays a walk of its kind.
abbrev pub source_seeks : DiskState → DiskState → Source → Option (List ℕ) → Bool → Source → Type 0
source_seeks old new (Memory w) from forward (Memory v) = mem.memory_walk_seeks old new w from forward v
source_seeks old new (Memory w) from forward (File v) = ⊥
source_seeks old new (File w) from forward (Memory v) = ⊥
source_seeks old new (File w) from forward (File v) = given.walk_seeks old new w from forward v

-- The source gave this: its walk did, and it stays a walk of its kind.
abbrev pub source_nexts : DiskState → DiskState → Source → Option (List ℕ × RowCells) → Source → Type 0
source_nexts old new (Memory w) row (Memory v) = mem.memory_walk_nexts old new w row v
source_nexts old new (Memory w) row (File v) = ⊥
source_nexts old new (File w) row (Memory v) = ⊥
source_nexts old new (File w) row (File v) = given.walk_nexts old new w row v

-- The source stands for these rows.
abbrev pub source_holds : DiskState → Source → RowMap → Type 0
source_holds s (Memory w) = mem.memory_walk_holds s w
source_holds s (File w) = row.walk_holds s w

-- These rows are left of it.
abbrev pub source_left : DiskState → Source → RowList → Type 0
source_left s (Memory w) = mem.memory_walk_left s w
source_left s (File w) = row.walk_left s w

-- What the source stands for lasts while the files that it reads do.
pub source_holds_on : (old new : DiskState) (source : Source) (rows : RowMap)
    → SameFiles (source_reads source) old new
    → source_holds old source rows → source_holds new source rows
source_holds_on old new (Memory w) rows same h = mem.memory_walk_holds_on old new w rows same h
source_holds_on old new (File w) rows same h = row.walk_holds_on old new w rows same h

-- And so does what is left of it.
pub source_left_on : (old new : DiskState) (source : Source) (rows : RowList)
    → SameFiles (source_reads source) old new
    → source_left old source rows → source_left new source rows
source_left_on old new (Memory w) rows same h = mem.memory_walk_left_on old new w rows same h
source_left_on old new (File w) rows same h = row.walk_left_on old new w rows same h
