-- A family in hand, or none: what it has in memory, and its files.
use Rattle.std.specs.Prelude.{ℕ, List, [], Option, Some, None}
use Rattle.std.specs.BTreeMap.{BTreeMap}
use Rattle.std.specs.FinMap.{empty}
use Rattle.alt_layout.specs.Layout.{RowMap}
use Rattle.alt_rowfile.specs.declared.rowfile.RowFile.{RowFile}
use Rattle.alt_families.specs.declared.family.Family.{Family}

-- Families by their numbers.
abbrev pub Families : Type 0
Families = BTreeMap ℕ Family

-- The rows that a family has in memory.
abbrev pub rows_in : Option Family → RowMap
rows_in None = empty
rows_in (Some f) = f.table.0

-- The files that it has in hand.
abbrev pub files_in : Option Family → List RowFile
files_in None = []
files_in (Some f) = f.files.items
