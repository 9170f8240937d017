-- What is read of the catalog while a store is opened.
use Rattle.std.specs.Prelude.{◌≡◌, ◌≢◌, ◌<◌, ◌≤◌, ◌==◌, ℕ, Bool, nat_le, List, [], Option, Some, None, Contains, if◌then◌else◌, length, slice_index_or}
use Rattle.std.specs.List.{list_any}
use Rattle.std.specs.Option.{option_map_or}
use Rattle.std.specs.FinMap as map
use Rattle.alt_cells.specs.Changes.{Columns}
use Rattle.alt_layout.specs.Layout.{Layout, shown}
use Rattle.alt_machine.specs.declared.TheConstants.{FAMILIES_END, MOST_TABLES}
use Rattle.alt_machine.specs.State.{State, Texts, descriptions, families_of}
use Rattle.alt_machine.specs.Valid.{IsValid}
use Rattle.alt_schema.specs.declared.schema.TableSchema.{TableSchema}
use Rattle.alt_opening.specs.private.IndexScans.{IndexesRead, IsFirstOfOwn}
use Rattle.alt_opening.specs.Recovery.{IsFirstWrong}
use Rattle.alt_opening.specs.Scans.{IsBelow, ItemsRead}
use Rattle.alt_opening.specs.Sized.{AreSized}
use Rattle.alt_opening.specs.StateRows.{Shows, IsHeldWhole, catalog_family, next_row, table_row}
use Rattle.alt_opening.specs.StreamScans.{ChangesRead, IsFirstOfStream, stream_trimmed}
use Rattle.alt_opening.specs.Trimmed.{AreTrimmedOf, number_at}
use Rattle.alt_opening.specs.declared.trimmed.Trimmed.{Trimmed}
use Rattle.alt_tablerows.specs.Good.{IsGood}
use Rattle.alt_faults.specs.Faults.{OnlyRow}
use Rattle.alt_opening.specs.Faults.{told_by_opening}
use Rattle.alt_opening.specs.declared.faults.OpenFault.{OpenFault}

-- the row at the empty key tells the next family
pub record IsNextFamily (l : Layout) (family : ℕ) : Type 0 where
  pub low : 1 ≤ family
  pub high : family ≤ FAMILIES_END
  pub row : shown l catalog_family [] ≡ next_row family

-- ---- families

-- one of them is a table's
abbrev pub shares : List ℕ → TableSchema → Bool
shares families d = list_any (λ f. list_any (λ g. g == f) families) (families_of d)

-- ---- a table

-- Two tables have no family in common.
pub record ShareNoFamily (d e : TableSchema) : Type 0 where
  pub families : (family : ℕ) → Contains (families_of d) family
      → Contains (families_of e) family → ⊥

-- it is apart from each table of a catalog
abbrev pub IsApart : Texts TableSchema → TableSchema → Type 0
IsApart catalog d = (other : List ℕ) (e : TableSchema) → map.get catalog other ≡ Some e
    → ShareNoFamily e d

-- It may stand there beside the tables of a catalog, of which there are not too many, and none has its name.
pub record TableMayStand (number family : ℕ) (catalog : Texts TableSchema) (name : List ℕ)
    (d : TableSchema) : Type 0 where
  pub few : map.len catalog < MOST_TABLES
  pub good : IsGood number family name d
  pub new : map.get catalog d.name ≡ None
  pub apart : IsApart catalog d

-- Its row is this.
pub record IsTableAt (number family : ℕ) (catalog : Texts TableSchema) (name : List ℕ)
    (columns : Columns) (d : TableSchema) : Type 0 where
  pub row : columns ≡ table_row d
  pub may : TableMayStand number family catalog name d

-- ---- the catalog

-- The catalog has the descriptions whose rows are shown, of those names that pass.
pub record CatalogWhere (Here : List ℕ → Type 0) (l : Layout) (family : ℕ)
    (catalog : Texts TableSchema) : Type 0 where
  pub next : IsNextFamily l family
  pub stands : (name : List ℕ) (d : TableSchema) → map.get catalog name ≡ Some d
      → Here name × (shown l catalog_family name ≡ Some (table_row d))
  pub read : (name : List ℕ) (row : Columns) → Here name → name ≢ []
      → shown l catalog_family name ≡ Some row
      → (d : TableSchema) × (map.get catalog name ≡ Some d)
  pub few : map.len catalog ≤ MOST_TABLES
  pub good : (name : List ℕ) (d : TableSchema) → map.get catalog name ≡ Some d
      → IsGood l.next_number family name d
  pub apart : (name other : List ℕ) (d e : TableSchema) → map.get catalog name ≡ Some d
      → map.get catalog other ≡ Some e → name ≢ other → ShareNoFamily d e

-- all of them
abbrev pub IsCatalog : Layout → ℕ → Texts TableSchema → Type 0
IsCatalog l family catalog = CatalogWhere (λ name. Unit {0}) l family catalog

-- those of the names below a key, which isn't the empty one
abbrev pub IsReadUpTo : Layout → ℕ → List ℕ → Texts TableSchema → Type 0
IsReadUpTo l family from catalog = IsBelow [] from
    × CatalogWhere (λ name. IsBelow name from) l family catalog

-- those of the names below the key that is told, or all where none is
abbrev pub IsReadOn : Layout → ℕ → Texts TableSchema → Option (List ℕ) → Type 0
IsReadOn l family catalog None = IsCatalog l family catalog
IsReadOn l family catalog (Some from) = IsReadUpTo l family from catalog

-- the items of its tables are read
abbrev pub AllItemsRead : Layout → Texts TableSchema → Type 0
AllItemsRead l catalog = (name : List ℕ) (d : TableSchema) → map.get catalog name ≡ Some d
    → ItemsRead l d

-- A table of a family above another one; none has a lesser such family.
pub record IsLeastTable (catalog : Texts TableSchema) (family : ℕ) (d : TableSchema)
    : Type 0 where
  pub name : List ℕ
  pub there : map.get catalog name ≡ Some d
  pub above : family < d.family
  pub least : (other : List ℕ) (e : TableSchema) → map.get catalog other ≡ Some e
      → family < e.family → d.family ≤ e.family

-- that table, or none where each family is at most that one
abbrev pub IsNextTable : Texts TableSchema → ℕ → Option TableSchema → Type 0
IsNextTable catalog family None = (name : List ℕ) (d : TableSchema)
    → map.get catalog name ≡ Some d → d.family ≤ family
IsNextTable catalog family (Some d) = IsLeastTable catalog family d

-- the same of a list of descriptions
abbrev pub IsLeastAbove : List TableSchema → ℕ → TableSchema → Type 0
IsLeastAbove ds family d = (family < d.family) × ((k : ℕ) (e : TableSchema) → k < length ds
    → family < (slice_index_or ds k e).family → d.family ≤ (slice_index_or ds k e).family)

-- ---- all of it

-- The rows of the catalog and of the tables are read, and none stands from the next family on.
pub record AreTablesRead (l : Layout) (next : ℕ) (known : Texts TableSchema) : Type 0 where
  pub catalog : IsCatalog l next known
  pub items : AllItemsRead l known
  pub beyond : (family : ℕ) (key : List ℕ) → next ≤ family → shown l family key ≡ None

-- the streams of its tables are read
abbrev pub AllChangesRead : Layout → Texts TableSchema → Type 0
AllChangesRead l catalog = (name : List ℕ) (d : TableSchema) → map.get catalog name ≡ Some d
    → ChangesRead l d

-- The first wrong row of a stream of its tables, of which those of lesser families are read.
pub record IsFirstAmong (l : Layout) (catalog : Texts TableSchema) (family : ℕ)
    (key : List ℕ) : Type 0 where
  pub name : List ℕ
  pub description : TableSchema
  pub there : map.get catalog name ≡ Some description
  pub first : IsFirstOfStream l description family key
  pub lesser : (other : List ℕ) (e : TableSchema) → map.get catalog other ≡ Some e
      → e.family < description.family → ChangesRead l e

-- a wrong row of a stream is the first one
abbrev pub IsStreamsFault : Layout → Texts TableSchema → OpenFault → Type 0
IsStreamsFault l catalog f = OnlyRow (IsFirstAmong l catalog) (told_by_opening f)

-- the indexes of its tables are read
abbrev pub AllIndexesRead : Layout → Texts TableSchema → Type 0
AllIndexesRead l catalog = (name : List ℕ) (d : TableSchema) → map.get catalog name ≡ Some d
    → IndexesRead l d

-- The first wrong row of an index of its tables, of which those of lesser families are read.
pub record IsFirstIn (l : Layout) (catalog : Texts TableSchema) (family : ℕ)
    (key : List ℕ) : Type 0 where
  pub name : List ℕ
  pub description : TableSchema
  pub there : map.get catalog name ≡ Some description
  pub first : IsFirstOfOwn l description family key
  pub lesser : (other : List ℕ) (e : TableSchema) → map.get catalog other ≡ Some e
      → e.family < description.family → IndexesRead l e

-- a wrong row of an index is the first one
abbrev pub IsIndexesFault : Layout → Texts TableSchema → OpenFault → Type 0
IsIndexesFault l catalog f = OnlyRow (IsFirstIn l catalog) (told_by_opening f)

-- What is known of tables is what the rows of their streams tell.
abbrev pub AreTrimmedIn : Layout → Texts TableSchema → List Trimmed → Type 0
AreTrimmedIn l catalog known = (name : List ℕ) → number_at name known
    ≡ option_map_or (stream_trimmed l) (map.get catalog name) 0

-- So it is of the tables up to a family, and of the others nothing is known.
abbrev pub AreTrimmedUpTo : Layout → Texts TableSchema → ℕ → List Trimmed → Type 0
AreTrimmedUpTo l catalog family known = (name : List ℕ) → number_at name known
    ≡ option_map_or (λ (d : TableSchema). if nat_le d.family family then stream_trimmed l d else 0)
    (map.get catalog name) 0

-- A state whose rows these are with those of streams and of indexes, whose tables are those of the catalog, of whose items none has more
-- bytes than the largest, and of whose changes so much was trimmed as is known.
pub record Assembled (l : Layout) (next : ℕ) (known : Texts TableSchema) (largest : ℕ)
    (trimmed : List Trimmed) (s : State) : Type 0 where
  pub shows : Shows l s
  pub valid : IsValid s
  pub held : IsHeldWhole s
  pub catalog : descriptions s.tables ≡ known
  pub family : s.next_family ≡ next
  pub sized : AreSized s.tables largest
  pub trimmed_known : AreTrimmedOf s.tables trimmed

-- a wrong row is the first one
abbrev pub IsRowFault : Layout → OpenFault → Type 0
IsRowFault l f = OnlyRow (IsFirstWrong l) (told_by_opening f)
