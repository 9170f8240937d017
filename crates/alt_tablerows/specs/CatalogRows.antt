-- The rows of a catalog: of descriptions and of the next family (docs/formats/table-rows.md).
use Rattle.std.specs.Prelude.{◌==◌, ℕ, List, [], ◌∷◌, ◌++◌, if◌then◌else◌, Option, Some, None, option_map, unwrap_or, codes}
use Rattle.std.specs.Int.{w32, to_be_bytes}
use Rattle.std.specs.FinMap as map
use Rattle.alt_cells.specs.Changes.{Columns}
use Rattle.alt_machine.specs.Building.{built_place, building_in}
use Rattle.alt_schemabytes.specs.Format.{description_bytes}
use Rattle.alt_schema.specs.declared.schema.Built.{Built}
use Rattle.alt_schema.specs.declared.schema.Built.TheVariants.{Whole, UpTo}
use Rattle.alt_schema.specs.declared.schema.TableSchema.{TableSchema}

-- a row of one column
abbrev pub one_column : List ℕ → List ℕ → Columns
one_column name value = map.insert map.empty name value

-- the catalog's family
abbrev pub catalog_family : ℕ
catalog_family = 0

-- the next family, which isn't written where it is 1
abbrev pub next_row : ℕ → Option Columns
next_row family = if family == 1 then None else Some
    (one_column (codes "next") (to_be_bytes w32 family))

-- the cells of a table's row, by their names: the attribute for time to live, where there is one, and the bytes of the description
abbrev pub table_cells : Option (List ℕ) → List ℕ → List (List ℕ × List ℕ)
table_cells None bytes = (codes "t", bytes) ∷ []
table_cells (Some name) bytes = (codes "l", name) ∷ (codes "t", bytes) ∷ []

-- a row of these
abbrev pub described_row : Option (List ℕ) → List ℕ → Columns
described_row time bytes = map.from_sorted (table_cells time bytes)

-- of a description, as if each index were whole
abbrev pub plain_row : TableSchema → Columns
plain_row d = described_row d.ttl (description_bytes d)

-- how far an index is built: not begun, or up to the place of the last item that it was built of
abbrev pub built_bytes : TableSchema → Built → List ℕ
built_bytes d Whole = []
built_bytes d (UpTo None) = 0 ∷ []
built_bytes d (UpTo (Some key)) = 1 ∷ unwrap_or (built_place d key) []

-- the family of the one that is being built, where there is one, and how far it is
abbrev pub built_cell : TableSchema → Option (List ℕ)
built_cell d =
    option_map (λ i. to_be_bytes w32 i.family ++ built_bytes d i.built) (building_in d)

-- a row with a cell for that, where there is one
abbrev pub with_built_cell : Option (List ℕ) → Columns → Columns
with_built_cell None row = row
with_built_cell (Some value) row = map.insert row (codes "b") value

-- the row of a table: its description, and beside its bytes what these don't tell
abbrev pub table_row : TableSchema → Columns
table_row d = with_built_cell (built_cell d) (plain_row d)
