-- The rows that stand for a state (docs/formats/table-rows.md), and the changes of rows that a write of the state makes.
use Rattle.std.specs.Prelude.{◌≡◌, ◌≤◌, ◌<◌, ◌^◌, ℕ, List, [], map as each, All, if◌then◌else◌, Option, Some, None, option_map}
use Rattle.std.specs.Ordering.{eq_by_cmp}
use Rattle.std.specs.FinMap as map
use Rattle.alt_cells.specs.Changes.{Columns}
use Rattle.alt_cells.specs.Keys.{key_cmp}
use Rattle.alt_tablerows.specs.ChangeRows.{change_columns, row_key}
use Rattle.alt_tablerows.specs.TrimRows.{trimmed_row}
use Rattle.alt_layout.specs.Layout.{Layout, shown}
use Rattle.alt_machine.specs.Building.{built_part}
use Rattle.alt_machine.specs.Indexed.{index_items}
use Rattle.alt_machine.specs.Sources.{index_at}
use Rattle.alt_machine.specs.State.{State, Table, Texts, Change}
use Rattle.alt_machine.specs.Valid.{IsHeldState}
use Rattle.alt_tablerows.specs.Held.{IsHeld}
use Rattle.alt_schema.specs.declared.schema.IndexSchema.{IndexSchema}
pub use Rattle.alt_tablerows.specs.CatalogRows.{catalog_family, next_row, one_column, table_row}
pub use Rattle.alt_tablerows.specs.StreamRows.{IsLeftover}
use Rattle.alt_tablerows.specs.IndexRows.{index_columns}
use Rattle.alt_tablerows.specs.ItemRows.{item_columns}

-- ---- the catalog, which is family 0

-- the next family stands at the empty key, and each description at its table's name
abbrev pub catalog_rows : State → List ℕ → Option Columns
catalog_rows s key =
    if eq_by_cmp key_cmp key [] then next_row s.next_family else option_map
    (λ t. table_row t.description) (map.get s.tables key)

-- ---- the tables

-- each item at its place, in the family of its table
abbrev pub item_rows : Table → List ℕ → Option Columns
item_rows t key = option_map item_columns (map.get t.items key)

-- what an index keeps of the items of which it is built, each at its place there, in the family of the index
abbrev pub index_rows : Table → IndexSchema → List ℕ → Option Columns
index_rows t i key = option_map (index_columns t.description i)
    (map.get (index_items t.description i (built_part t.description i.built t.items)) key)

-- changes by the keys of their rows
abbrev pub keyed_changes : List Change → Texts Change
keyed_changes changes = map.from_sorted (each (λ (c : Change). (row_key c.number, c)) changes)

-- what a stream has: at 0 the number of the last change that was trimmed, and each change that is kept at its number
abbrev pub stream_row : ℕ → List Change → List ℕ → Option Columns
stream_row trimmed changes key = if eq_by_cmp key_cmp key (row_key 0) then trimmed_row trimmed
    else option_map change_columns (map.get (keyed_changes changes) key)

-- the rows in the family of a table's stream
abbrev pub change_rows : Table → List ℕ → Option Columns
change_rows t key = stream_row t.trimmed t.changes key

-- What the rows show is the state: its numbers, its catalog, the items of each table in the table's family, those of each of its
-- indexes in that of the index, its changes in that of its stream, where rows may be left over, and nothing from the next family on.
-- Families below it that no table has count for nothing.
pub record Shows (l : Layout) (s : State) : Type 0 where
  pub number : l.next_number ≡ s.next_number
  pub catalog : (key : List ℕ) → shown l catalog_family key ≡ catalog_rows s key
  pub items : (name : List ℕ) (t : Table) → map.get s.tables name ≡ Some t
      → (key : List ℕ) → shown l t.description.family key ≡ item_rows t key
  pub indexes : (name : List ℕ) (t : Table) (number : ℕ) (i : IndexSchema)
      → map.get s.tables name ≡ Some t → index_at t.description (Some number) ≡ Some i
      → (key : List ℕ) → shown l i.family key ≡ index_rows t i key
  pub changes : (name : List ℕ) (t : Table) (family : ℕ) → map.get s.tables name ≡ Some t
      → t.description.stream_family ≡ Some family
      → (key : List ℕ) → (IsLeftover t.trimmed key → ⊥) → shown l family key ≡ change_rows t key
  pub beyond : (family : ℕ) (key : List ℕ) → s.next_family ≤ family → shown l family key ≡ None

-- a moment fits in 8 bytes
abbrev pub HasMoment : Change → Type 0
HasMoment c = c.moment < 2 ^ 64

-- Each item, each change and each description of the state is one that a program can hold, so its bytes tell it from every other.
pub record IsHeldWhole (s : State) : Type 0 where
  pub items : IsHeldState s
  pub moments : (name : List ℕ) (t : Table) → map.get s.tables name ≡ Some t
      → All HasMoment t.changes
  pub descriptions : (name : List ℕ) (t : Table) → map.get s.tables name ≡ Some t
      → IsHeld t.description
