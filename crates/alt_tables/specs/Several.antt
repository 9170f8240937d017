-- Writes of several items at one moment, which are one entry of the log.
use Rattle.std.specs.Prelude.{◌≡◌, ℕ, true, List, [], ◌∷◌, ◌++◌, Option, None, Some, IfSome, IsSome, T, unwrap_or, if◌then◌else◌}
use Rattle.std.specs.FinMap as map
use Rattle.std.specs.Option.{option_map_or}
use Rattle.alt_cells.specs.Batches.{is_distinct}
use Rattle.alt_cells.specs.declared.batch.RowChange.{RowChange}
use Rattle.alt_codec.specs.declared.writer.Writer.{Writer}
use Rattle.alt_layout.specs.Layout.{Layout, IsPast}
use Rattle.alt_machine.specs.Keys.{place_of}
use Rattle.alt_machine.specs.Ops.BatchWriteItem.{PlacedWrite, writes_of_by}
use Rattle.alt_machine.specs.Outcomes.{last_state}
use Rattle.alt_machine.specs.Same.{is_same}
use Rattle.alt_machine.specs.State.{State, Table, Texts}
use Rattle.alt_machine.specs.Valid.{IsStored, IsValid}
use Rattle.alt_machine.specs.Writes.{with_write_by}
use Rattle.alt_rowchanges.specs.OpeningStateRows.{Shows, IsHeldWhole}
use Rattle.alt_schema.specs.declared.schema.TableSchema.{TableSchema}
use Rattle.alt_tables.specs.Found.{IsFoundInTable}
use Rattle.alt_rowchanges.specs.Leftovers.{lowest_left}
use Rattle.alt_rowchanges.specs.RowChanges.{changed_rows, write_changes}
use Rattle.alt_tables.specs.declared.by_keys.ItemWrite.{ItemWrite}
use Rattle.alt_tables.specs.declared.several.ItemChange.{ItemChange}

-- it holds of each element
abbrev pub Every : {A : Type 0} → (A → Type 0) → List A → Type 0
Every P [] = Unit {0}
Every P (x ∷ xs) = P x × Every P xs

-- ---- what is to be written

-- where a change writes, and what it leaves there
abbrev pub written_at : ItemChange → PlacedWrite
written_at c = record { table = c.table; place = c.found.place; new = c.new }

-- its table is there, and what it leaves may stand at its place
pub record MayWrite (catalog : Texts TableSchema) (w : PlacedWrite) : Type 0 where
  pub there : map.contains_key catalog w.table ≡ true
  pub stored : (d : TableSchema) → map.get catalog w.table ≡ Some d
      → IfSome w.new (IsStored d w.place)

-- two write at different places, or in different tables
abbrev pub AreApart : PlacedWrite → PlacedWrite → Type 0
AreApart v w = v.table ≡ w.table → v.place ≡ w.place → ⊥

-- each two of them do
abbrev pub AreAllApart : List PlacedWrite → Type 0
AreAllApart [] = Unit {0}
AreAllApart (w ∷ ws) = Every (AreApart w) ws × AreAllApart ws

-- what was found stands there
abbrev pub IsFound : State → ItemChange → Type 0
IsFound s c = IsFoundInTable s c.table c.found

-- ---- by keys

-- The table of a write is there, its key is one of the table, and what it leaves may stand at the key's place.
pub record MayWriteKey (catalog : Texts TableSchema) (w : ItemWrite) : Type 0 where
  pub there : map.contains_key catalog w.table ≡ true
  pub key : (d : TableSchema) → map.get catalog w.table ≡ Some d → IsSome (place_of d w.key)
  pub stored : (d : TableSchema) (place : List ℕ) → map.get catalog w.table ≡ Some d
      → place_of d w.key ≡ Some place → IfSome w.new (IsStored d place)

-- what it says was there stands there
abbrev pub WasThere : State → ItemWrite → Type 0
WasThere s w = (t : Table) (place : List ℕ) → map.get s.tables w.table ≡ Some t
    → place_of t.description w.key ≡ Some place → w.old ≡ map.get t.items place

-- the place of its key
abbrev pub place_within : Texts TableSchema → ItemWrite → List ℕ
place_within catalog w =
    option_map_or (λ d. unwrap_or (place_of d w.key) []) (map.get catalog w.table) []

-- where it writes, and what it leaves there
abbrev pub written_in : Texts TableSchema → ItemWrite → PlacedWrite
written_in catalog w =
    record { table = w.table; place = place_within catalog w; new = w.new }

-- ---- the row changes

-- the rows behind these batches of row changes, each of which is a write with the next number
abbrev pub with_batches : Layout → List (List RowChange) → Layout
with_batches l [] = l
with_batches l (b ∷ bs) = with_batches (changed_rows l b) bs

-- in none of them a row stands twice
abbrev pub BatchesAreDistinct : List (List RowChange) → Type 0
BatchesAreDistinct batches = Every (λ b. T (is_distinct b)) batches

-- Then these batches, as the next writes, turn the rows of one state into those of another.
pub record TurnsAll (batches : List (List RowChange)) (s r : State) : Type 0 where
  pub shows : BatchesAreDistinct batches → (l : Layout) → IsPast l → Shows l s
      → Shows (with_batches l batches) r
  pub valid : IsValid r
  pub held : IsHeldWhole r

-- those of a write of a state to a table, where the lowest two of the rows that are left over in its stream are hidden
abbrev pub batch_of : Layout → State → ℕ → Writer → Table → PlacedWrite → List RowChange
batch_of l s moment writer t w =
    let after = (with_write_by s.next_number moment writer t w.place w.new).trimmed in
    write_changes t.description s.next_number moment writer w.place (map.get t.items w.place)
    w.new t.trimmed after (lowest_left l t.description after)

-- none, where it leaves what is there
abbrev pub batches_in : Layout → State → ℕ → Writer → PlacedWrite → Option Table
    → List (List RowChange)
batches_in l s moment writer w None = []
batches_in l s moment writer w (Some t) = if is_same (map.get t.items w.place) w.new then []
    else batch_of l s moment writer t w ∷ []

abbrev pub batches_by : Layout → State → ℕ → Writer → PlacedWrite → List (List RowChange)
batches_by l s moment writer w = batches_in l s moment writer w (map.get s.tables w.table)

-- those of several writes, each from the rows and the state behind those before it
abbrev pub batches_of : Layout → State → ℕ → Writer → List PlacedWrite → List (List RowChange)
batches_of l s moment writer [] = []
batches_of l s moment writer (w ∷ ws) = batches_by l s moment writer w
    ++ batches_of (with_batches l (batches_by l s moment writer w))
    (last_state s (writes_of_by s moment writer w)) moment writer ws
