-- The rows of a store: of each family those of its row files, joined with the writes of the log that are in none of them.
use Rattle.std.specs.Prelude.{◌≡◌, ◌+◌, ◌==◌, ℕ, List, [], ◌∷◌, if◌then◌else◌, Some, max, nat_lt}
use Rattle.std.specs.FinMap.{empty, get}
use Rattle.alt_cells.specs.declared.row.RowCells.{RowCells}
use Rattle.alt_cells.specs.Changes.{IsRowBelow}
use Rattle.alt_cells.specs.Joined.{joined_map}
use Rattle.alt_cells.specs.Rows.{join_row}
use Rattle.alt_layout.specs.Layout.{Layout, RowMap}
use Rattle.alt_writes.specs.Writes.{Write}
use Rattle.alt_manifest.specs.declared.version.FamilyVersion.{FamilyVersion}
use Rattle.alt_manifest.specs.declared.version.Version.{Version}
use Rattle.alt_layout.specs.Writes.{changes_in}

-- ---- A family in a version.

-- The greatest number of a write that the family's files hold; 0 where the version doesn't name it.
abbrev pub flushed_of : List FamilyVersion → ℕ → ℕ
flushed_of [] family = 0
flushed_of (f ∷ fs) family = if f.family == family then f.flushed else flushed_of fs family

-- The row files of the family; none where the version doesn't name it.
abbrev pub files_of : List FamilyVersion → ℕ → List ℕ
files_of [] family = []
files_of (f ∷ fs) family = if f.family == family then f.files else files_of fs family

-- ---- Its rows.

-- Which rows each row file holds, by the number of the file.
abbrev pub Held : Type 0
Held = ℕ → RowMap

-- The rows of several files are the join of each one's rows.
abbrev pub joined_files : Held → List ℕ → RowMap
joined_files held [] = empty
joined_files held (g ∷ gs) = joined_map join_row (held g) (joined_files held gs)

-- A write is joined to the rows of a family where its number is above the family's flushed one; else it counts for nothing.
abbrev pub with_one_write : ℕ → ℕ → RowMap → Write → RowMap
with_one_write flushed family m w =
    if nat_lt flushed w.number
    then joined_map join_row m (changes_in w.number family w.changes) else m

-- The rows of a family with all writes joined to them, one after another, whose numbers are above the flushed one.
abbrev pub with_later : ℕ → ℕ → RowMap → List Write → RowMap
with_later flushed family m [] = m
with_later flushed family m (w ∷ ws) = with_later flushed family (with_one_write flushed family m w) ws

-- The least number that is above those of all writes and isn't below `next`.
abbrev pub next_after : ℕ → List Write → ℕ
next_after next [] = next
next_after next (w ∷ ws) = next_after (max next (w.number + 1)) ws

-- The rows of a family are those of its files, with the writes joined that are above its flushed number.
abbrev pub family_rows : List FamilyVersion → Held → List Write → ℕ → RowMap
family_rows fs held writes family =
    with_later (flushed_of fs family) family (joined_files held (files_of fs family)) writes

-- The layout of a version over what its files hold: the rows of each family, and the number of the next write.
abbrev pub layout_of : Version → Held → List Write → Layout
layout_of v held writes = record {
  rows = family_rows v.families held writes;
  next_number = next_after v.next_number writes;
}

-- ---- Timestamps.

-- Each timestamp of these rows is below the number.
abbrev pub IsMapBelow : ℕ → RowMap → Type 0
IsMapBelow number m = (key : List ℕ) (row : RowCells) → get m key ≡ Some row → IsRowBelow number row
