-- A row file that is being written.
use Rattle.std.specs.Prelude.{◌≡◌, ℕ, ◌<◌, ◌==◌, Bool, true, List, [], ◌∷◌, ◌++◌, length, T}
use Rattle.std.proofs.Common.{◌∙◌, ap, arith}
use Rattle.std.specs.List.{AllByRecursion}
use Rattle.std.specs.FinMap.Entries.{is_sorted}
use Rattle.alt_disk.specs.Disk.{DiskState, bytes_or_none}
use Rattle.alt_cells.specs.Walks.{SameFiles}
use Rattle.alt_cells.specs.Keys.{key_cmp}
use Rattle.alt_filter.specs.declared.filter.Filter.{Filter}
use Rattle.alt_rowblocks.specs.Filtering.{AreFilters, FilterHoldsRows}
use Rattle.alt_rowblocks.specs.Format.{Entry, Mark, rows_bytes, front, rows_of, marks_from, IsBlock, IsFull, IsHeldEntry, IsHeldBlock}
use Rattle.alt_rowfile.specs.Sinks.{IsPut}
use Rattle.alt_rowblocks.specs.Summaries.{summary_of}
use Rattle.alt_rowfile.specs.declared.sink.Sink.{Sink}
use Rattle.alt_rowblocks.specs.declared.summary.Summary.{Summary}
use Rattle.alt_rowfile.specs.declared.writer.RowFileWriter.{RowFileWriter}

-- the number of its file
abbrev pub writer_file : RowFileWriter → ℕ
writer_file w = w.sink.file

-- the open block, if it has a row
abbrev pub piece : List Entry → List (List Entry)
piece [] = []
piece (e ∷ es) = (e ∷ es) ∷ []

-- an open block without rows, or one
abbrev pub IsOpenBlock : List Entry → Type 0
IsOpenBlock [] = Unit {0}
IsOpenBlock (e ∷ es) = IsBlock (e ∷ es)

-- These blocks were written, and these rows wait in the open one.
pub record WritesAs (s : DiskState) (sink : Sink) (block : List ℕ) (marks : List Mark) (count : ℕ)
    (summary : Summary) (filters : List Filter) (filter : Filter) (closed : List (List Entry))
    (waiting : List Entry) : Type 0 where
  pub put : IsPut s sink (front closed)
  pub blocks : AllByRecursion IsBlock closed
  pub held : AllByRecursion IsHeldBlock closed
  pub opens : IsOpenBlock waiting
  pub open_held : AllByRecursion IsHeldEntry waiting
  pub rising : T (is_sorted key_cmp (rows_of closed ++ waiting))
  pub bytes : block ≡ rows_bytes waiting
  pub marks_are : marks ≡ marks_from 8 (closed ++ piece waiting)
  pub count_is : count ≡ length (rows_of closed ++ waiting)
  pub summary_is : summary ≡ summary_of (rows_of closed ++ waiting)
  pub filters_are : AreFilters filters closed
  pub open_holds : FilterHoldsRows filter waiting

-- the same of a writer, by its parts
abbrev pub WritesTo : DiskState → RowFileWriter → List (List Entry) → List Entry → Type 0
WritesTo s w closed waiting =
    WritesAs s w.sink w.block.items w.marks.items w.count w.summary w.filters.items w.filter closed
    waiting

-- The writer has added these rows: full blocks, and an open one that isn't full.
pub record WritesRows (s : DiskState) (w : RowFileWriter) (rows : List Entry) : Type 0 where
  pub closed : List (List Entry)
  pub waiting : List Entry
  pub to : WritesTo s w closed waiting
  pub full : AllByRecursion IsFull closed
  pub short : length (rows_bytes waiting) < 4096
  pub are : rows ≡ rows_of closed ++ waiting

-- it writes its file
abbrev pub writer_writes : RowFileWriter → ℕ → Bool
writer_writes w f = f == w.sink.file

-- a number equals itself
pub itself : (n : ℕ) → (n == n) ≡ true
itself n = grind arith

-- what it has added lasts while the file reads the same
pub writes_on : (old new : DiskState) (w : RowFileWriter) (rows : List Entry)
    → SameFiles (writer_writes w) old new → WritesRows old w rows → WritesRows new w rows
writes_on old new w rows same writes = record {
  closed = writes.closed;
  waiting = writes.waiting;
  to = record {
    put = record {
      file = ap bytes_or_none (same w.sink.file (itself w.sink.file))
          ∙ writes.to.put.file;
      at = writes.to.put.at;
      digest = writes.to.put.digest;
    };
    blocks = writes.to.blocks;
    held = writes.to.held;
    opens = writes.to.opens;
    open_held = writes.to.open_held;
    rising = writes.to.rising;
    bytes = writes.to.bytes;
    marks_are = writes.to.marks_are;
    count_is = writes.to.count_is;
    summary_is = writes.to.summary_is;
    filters_are = writes.to.filters_are;
    open_holds = writes.to.open_holds;
  };
  full = writes.full;
  short = writes.short;
  are = writes.are;
}
