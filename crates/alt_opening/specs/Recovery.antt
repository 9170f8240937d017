-- Why files are opened as no tables: they are no store's, or a row is wrong.
use Rattle.std.specs.Prelude.{◌≡◌, ◌<◌, ◌≤◌, ◌⊎◌, ℕ, List, Option, Some, None}
use Rattle.std.specs.FinMap as map
use Rattle.std.specs.declared.cmp.Ordering.TheVariants.{Less}
use Rattle.alt_cells.specs.Keys.{key_cmp}
use Rattle.alt_disk.specs.Disk.{DiskState, IsImage}
use Rattle.alt_layout.specs.Files.{IsLayout}
use Rattle.alt_layout.specs.Layout.{Layout, shown}
use Rattle.alt_engine.specs.HandRecovery.{IsBadFileAt, IsBadDigest}
use Rattle.alt_machine.specs.Sources.{index_at}
use Rattle.alt_machine.specs.State.{State, Table}
use Rattle.alt_machine.specs.Valid.{IsValid}
use Rattle.alt_schema.specs.declared.schema.IndexSchema.{IndexSchema}
use Rattle.alt_opening.specs.Images.{StandsFor}
use Rattle.alt_opening.specs.StateRows.{IsHeldWhole, IsLeftover, catalog_family, catalog_rows, change_rows, index_rows, item_rows}
use Rattle.alt_opening.specs.StreamScans.{ChangesRead, IsFirstOfStream}
use Rattle.alt_faults.specs.Faults.{Damage, bad_bytes, bad_digest, bad_row, OnlyDamaged}
use Rattle.alt_opening.specs.Faults.{told_by_opening}
use Rattle.alt_opening.specs.declared.faults.OpenFault.{OpenFault}

-- An image stands for each state for which one stands that a stop might have left before.
pub record StandsAsLeftBefore (old : DiskState) (image : ℕ → Option (List ℕ)) : Type 0 where
  pub before : ℕ → Option (List ℕ)
  pub left : IsImage old old.moment before
  pub same : (s : State) → StandsFor before s → StandsFor image s

-- So does whatever a stop leaves on the way of calls, at any moment.
abbrev pub WasLeft : DiskState → ℕ → (ℕ → Option (List ℕ)) → Type 0
WasLeft old moment image = StandsAsLeftBefore old image

-- of two rows the one of the lesser family comes first, and in one family that of the lesser key
abbrev pub IsBefore : ℕ → List ℕ → ℕ → List ℕ → Type 0
IsBefore f k family key = (f < family) ⊎ ((f ≡ family) × (key_cmp k key ≡ Less))

-- a row before that one, or that one itself
abbrev pub RowIsUpTo : ℕ → List ℕ → ℕ → List ℕ → Type 0
RowIsUpTo f k family key = IsBefore f k family key ⊎ ((f ≡ family) × (k ≡ key))

-- The rows at these places are those of the state, which is valid and held: those of the catalog and of the tables, and none from the
-- next family on. Those of streams and of indexes are told apart.
pub record LayoutAgreesAt (Here : ℕ → List ℕ → Type 0) (l : Layout) (s : State) : Type 0 where
  pub number : l.next_number ≡ s.next_number
  pub catalog : (key : List ℕ) → Here catalog_family key
      → shown l catalog_family key ≡ catalog_rows s key
  pub items : (name : List ℕ) (t : Table) → map.get s.tables name ≡ Some t → (key : List ℕ)
      → Here t.description.family key → shown l t.description.family key ≡ item_rows t key
  pub beyond : (family : ℕ) (key : List ℕ) → s.next_family ≤ family → Here family key
      → shown l family key ≡ None
  pub valid : IsValid s
  pub held : IsHeldWhole s

-- All of these rows are, and each stream shows the changes of its table and what was trimmed, whatever is left over. So the rows tell the
-- state, and those of indexes are a function of it.
pub record AgreesWhole (l : Layout) (s : State) : Type 0 where
  pub rows : LayoutAgreesAt (λ f k. Unit {0}) l s
  pub changes : (name : List ℕ) (t : Table) (family : ℕ) → map.get s.tables name ≡ Some t
      → t.description.stream_family ≡ Some family
      → (key : List ℕ) → (IsLeftover t.trimmed key → ⊥) → shown l family key ≡ change_rows t key

-- The first wrong one of these rows: those before it are rows of a state, and with it they are those of none. Families come in the
-- order of their numbers, the catalog before all, and in each its keys.
pub record IsFirstOfTables (l : Layout) (family : ℕ) (key : List ℕ) : Type 0 where
  pub before : (s : State) × LayoutAgreesAt (λ f k. IsBefore f k family key) l s
  pub none : (s : State) → LayoutAgreesAt (λ f k. RowIsUpTo f k family key) l s → ⊥

-- Where all these rows are those of a state, the first wrong one of a stream: it isn't that of a change that the table may keep, nor left over,
-- nor does it tell what was trimmed. Tables come in the order of their families, and in each stream its keys.
pub record IsFirstOfStreams (l : Layout) (family : ℕ) (key : List ℕ) : Type 0 where
  pub state : State
  pub agrees : LayoutAgreesAt (λ f k. Unit {0}) l state
  pub name : List ℕ
  pub table : Table
  pub there : map.get state.tables name ≡ Some table
  pub first : IsFirstOfStream l table.description family key
  pub tables : (other : List ℕ) (u : Table) → map.get state.tables other ≡ Some u
      → u.description.family < table.description.family → ChangesRead l u.description

-- an index shows the rows of its items
abbrev pub IndexAgrees : Layout → Table → IndexSchema → Type 0
IndexAgrees l t i = (key : List ℕ) → shown l i.family key ≡ index_rows t i key

-- Where these rows and those of streams are those of a state, the first wrong one of an index: what stands at that key, or is
-- missing there, isn't what the state's items give. Tables come in the order of their families, the indexes of each in that of
-- their numbers, and in each its keys.
pub record IsFirstOfIndexes (l : Layout) (family : ℕ) (key : List ℕ) : Type 0 where
  pub state : State
  pub agrees : AgreesWhole l state
  pub name : List ℕ
  pub table : Table
  pub there : map.get state.tables name ≡ Some table
  pub number : ℕ
  pub index : IndexSchema
  pub at : index_at table.description (Some number) ≡ Some index
  pub of_family : family ≡ index.family
  pub wrong : shown l index.family key ≡ index_rows table index key → ⊥
  pub keys : (k : List ℕ) → key_cmp k key ≡ Less
      → shown l index.family k ≡ index_rows table index k
  pub numbers : (n : ℕ) (i : IndexSchema) → n < number
      → index_at table.description (Some n) ≡ Some i → IndexAgrees l table i
  pub tables : (other : List ℕ) (u : Table) (n : ℕ) (i : IndexSchema)
      → map.get state.tables other ≡ Some u → u.description.family < table.description.family
      → index_at u.description (Some n) ≡ Some i → IndexAgrees l u i

-- The first wrong row: those of streams come behind those of tables, and those of indexes behind all others.
abbrev pub IsFirstWrong : Layout → ℕ → List ℕ → Type 0
IsFirstWrong l family key = IsFirstOfTables l family key
    ⊎ (IsFirstOfStreams l family key ⊎ IsFirstOfIndexes l family key)

-- files whose rows are those of no state, the first wrong one being this
pub record HasBadRow (files : ℕ → Option (List ℕ)) (family : ℕ) (key : List ℕ) : Type 0 where
  pub layout : Layout
  pub is : IsLayout files layout
  pub wrong : IsFirstWrong layout family key

-- damage is that of the files
abbrev pub IsOfFiles : (ℕ → Option (List ℕ)) → Damage → Type 0
IsOfFiles files (bad_bytes file place) = IsBadFileAt files file place
IsOfFiles files (bad_digest file kept found) = IsBadDigest files file kept found
IsOfFiles files (bad_row family key) = HasBadRow files family key

-- what damage tells is true of the files
abbrev pub IsExplained : (ℕ → Option (List ℕ)) → OpenFault → Type 0
IsExplained files f = OnlyDamaged (IsOfFiles files) (told_by_opening f)

-- where it tells of damage the files stand for no state
abbrev pub HasNoState : (ℕ → Option (List ℕ)) → OpenFault → Type 0
HasNoState files f = OnlyDamaged (λ damage. (s : State) → StandsFor files s → ⊥)
    (told_by_opening f)
