-- What is read of the rows of indexes while a store is opened.
use Rattle.std.specs.Prelude.{◌≡◌, ◌<◌, ℕ, List, Option, Some, None, IfSome, if◌then◌else◌}
use Rattle.std.specs.Ordering.{is_lt}
use Rattle.alt_cells.specs.Changes.{Columns}
use Rattle.alt_cells.specs.Keys.{key_cmp}
use Rattle.alt_layout.specs.Layout.{Layout, shown}
use Rattle.alt_machine.specs.Sources.{index_at}
use Rattle.alt_machine.specs.Valid.{IsStored}
use Rattle.alt_schema.specs.declared.schema.IndexSchema.{IndexSchema}
use Rattle.alt_schema.specs.declared.schema.TableSchema.{TableSchema}
use Rattle.alt_opening.specs.Scans.{IsBelow, RowsWhere}
use Rattle.alt_faults.specs.Faults.{OnlyRow}
use Rattle.alt_opening.specs.Faults.{told_by_opening}
use Rattle.alt_opening.specs.declared.faults.OpenFault.{OpenFault}
use Rattle.alt_value.specs.Tree.{Pair}
use Rattle.alt_tablerows.specs.IndexRows.{built_row}
use Rattle.alt_tablerows.specs.ItemRows.{item_columns, IsReadItem}

-- ---- rows of an index

-- A table's family shows an item at a place where it may stand.
pub record IsItemThere (l : Layout) (d : TableSchema) (place : List ℕ) (item : List Pair)
    : Type 0 where
  pub shows : shown l d.family place ≡ Some (item_columns item)
  pub stored : IsStored d place item
  pub read : IsReadItem item

-- One of its items has that row in an index.
pub record HasRow (l : Layout) (d : TableSchema) (i : IndexSchema) (key : List ℕ)
    (columns : Columns) : Type 0 where
  pub place : List ℕ
  pub item : List Pair
  pub there : IsItemThere l d place item
  pub row : built_row d i item ≡ Some (key, columns)

-- At a key an index shows the row that an item has there, and nothing where none has one.
pub record IsRightAt (l : Layout) (d : TableSchema) (i : IndexSchema) (key : List ℕ)
    : Type 0 where
  pub own : (columns : Columns) → shown l i.family key ≡ Some columns → HasRow l d i key columns
  pub each : (columns : Columns) → HasRow l d i key columns → shown l i.family key ≡ Some columns

-- it does so at each key
abbrev pub IndexRead : Layout → TableSchema → IndexSchema → Type 0
IndexRead l d i = (key : List ℕ) → IsRightAt l d i key

-- At this key it doesn't, and it does at each lesser one.
pub record IsFirstOff (l : Layout) (d : TableSchema) (i : IndexSchema) (key : List ℕ)
    : Type 0 where
  pub before : (k : List ℕ) → IsBelow k key → IsRightAt l d i k
  pub wrong : IsRightAt l d i key → ⊥

-- a wrong row is the first of the index
abbrev pub IsIndexFault : Layout → TableSchema → IndexSchema → OpenFault → Type 0
IsIndexFault l d i f = OnlyRow (λ family key. (family ≡ i.family) × IsFirstOff l d i key)
    (told_by_opening f)

-- ---- all indexes of a table

-- each of the lesser numbers is read
abbrev pub IndexesWhere : (ℕ → Type 0) → Layout → TableSchema → Type 0
IndexesWhere Here l d = (number : ℕ) (i : IndexSchema) → Here number
    → index_at d (Some number) ≡ Some i → IndexRead l d i

-- each is
abbrev pub IndexesRead : Layout → TableSchema → Type 0
IndexesRead l d = IndexesWhere (λ n. Unit {0}) l d

-- The first wrong row of one of them, of which those of lesser numbers are read.
pub record IsFirstOfOwn (l : Layout) (d : TableSchema) (family : ℕ) (key : List ℕ)
    : Type 0 where
  pub number : ℕ
  pub index : IndexSchema
  pub at : index_at d (Some number) ≡ Some index
  pub of_family : family ≡ index.family
  pub first : IsFirstOff l d index key
  pub lesser : IndexesWhere (λ n. n < number) l d

-- a wrong row is the first of them
abbrev pub IsOwnFault : Layout → TableSchema → OpenFault → Type 0
IsOwnFault l d f = OnlyRow (IsFirstOfOwn l d) (told_by_opening f)

-- ---- the least wrong key of two

-- the lesser of two keys, where both are there
abbrev pub lesser : Option (List ℕ) → Option (List ℕ) → Option (List ℕ)
lesser None b = b
lesser (Some a) None = Some a
lesser (Some a) (Some b) = if is_lt (key_cmp b a) then Some b else Some a

-- a key is below that one, where one is told
abbrev pub IsAhead : List ℕ → Option (List ℕ) → Type 0
IsAhead key None = Unit {0}
IsAhead key (Some k) = IsBelow key k

-- ---- rows that are missing

-- The item has a row in the index there, which isn't shown.
pub record IsMissing (l : Layout) (d : TableSchema) (i : IndexSchema) (item : List Pair)
    (key : List ℕ) : Type 0 where
  pub columns : Columns
  pub row : built_row d i item ≡ Some (key, columns)
  pub missing : shown l i.family key ≡ Some columns → ⊥

-- Whether the row of an item is missing: where no key is told it has none, or its row is shown.
abbrev pub TellsMissing : Layout → TableSchema → IndexSchema → List Pair → Option (List ℕ)
    → Type 0
TellsMissing l d i item None = (key : List ℕ) (columns : Columns)
    → built_row d i item ≡ Some (key, columns) → shown l i.family key ≡ Some columns
TellsMissing l d i item (Some key) = IsMissing l d i item key

-- the same of the item that a row of the table is of
abbrev pub TellsMissingOf : Layout → TableSchema → IndexSchema → Columns → Option (List ℕ)
    → Type 0
TellsMissingOf l d i row o = (item : List Pair) → IsReadItem item → row ≡ item_columns item
    → TellsMissing l d i item o

-- the row in the index of the item of a table's row is shown, where it is ahead
abbrev pub ShowsAhead : Layout → TableSchema → IndexSchema → Option (List ℕ) → List ℕ → Columns
    → Type 0
ShowsAhead l d i o place row = (item : List Pair) (key : List ℕ) (columns : Columns)
    → IsReadItem item → row ≡ item_columns item → built_row d i item ≡ Some (key, columns)
    → IsAhead key o → shown l i.family key ≡ Some columns

-- The least key at which the row of an item isn't shown, of the items at those places.
pub record IsLeastMissing (Here : List ℕ → Type 0) (l : Layout) (d : TableSchema)
    (i : IndexSchema) (o : Option (List ℕ)) : Type 0 where
  pub shows : RowsWhere Here l d.family (ShowsAhead l d i o)
  pub missing : IfSome o (λ key. (place : List ℕ) × (item : List Pair)
      × IsItemThere l d place item × IsMissing l d i item key)

-- ---- rows of no item

-- each row of an index, of those whose keys pass, is that of an item
abbrev pub AreOwn : (List ℕ → Type 0) → Layout → TableSchema → IndexSchema → Type 0
AreOwn Here l d i = RowsWhere Here l i.family (HasRow l d i)

-- The first key at which an index shows a row that is none of an item.
pub record IsFirstForeign (l : Layout) (d : TableSchema) (i : IndexSchema)
    (o : Option (List ℕ)) : Type 0 where
  pub own : AreOwn (λ key. IsAhead key o) l d i
  pub foreign : IfSome o (λ key. (columns : Columns) × (shown l i.family key ≡ Some columns)
      × (HasRow l d i key columns → ⊥))
