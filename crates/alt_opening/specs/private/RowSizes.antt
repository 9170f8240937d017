-- How many bytes the items have whose rows are read.
use Rattle.std.specs.Prelude.{◌≡◌, ℕ, List, Some}
use Rattle.std.specs.FinMap as map
use Rattle.alt_layout.specs.Layout.{Layout}
use Rattle.alt_machine.specs.State.{Texts}
use Rattle.alt_opening.specs.Scans.{RowsWhere}
use Rattle.alt_schema.specs.declared.schema.TableSchema.{TableSchema}
use Rattle.alt_tablerows.specs.ItemTests.{IsWithin}

-- so it is of each row of a table
abbrev pub RowsAreWithin : Layout → ℕ → TableSchema → Type 0
RowsAreWithin l most d = RowsWhere (λ key. Unit {0}) l d.family (IsWithin most)

-- and of those of all tables
abbrev pub AreAllWithin : Layout → Texts TableSchema → ℕ → Type 0
AreAllWithin l catalog most = (name : List ℕ) (d : TableSchema) → map.get catalog name ≡ Some d
    → RowsAreWithin l most d
