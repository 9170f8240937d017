-- What the tables in hand stand for, with the disk beneath them.
use Rattle.std.specs.Prelude.{◌≡◌, ◌≤◌, ℕ, Bool, false, List}
use Rattle.alt_disk.specs.Disk.{DiskState, IsTrusted, Goes}
use Rattle.alt_disk.specs.Runs.{Quiet}
use Rattle.alt_due.specs.Due.{KeepsKnown}
use Rattle.alt_due.specs.declared.due.Due.{Due}
use Rattle.std.specs.Prelude.{IsTrue}
use Rattle.alt_rowchanges.specs.OpeningEngineDeclaredEngine.{Engine}
use Rattle.alt_rowchanges.specs.OpeningEngineOpened.{StaysOn}
use Rattle.alt_rowchanges.specs.OpeningEngineInHand.{Bounds, StandsForLayout as EngineStands, next_write_of_engine, bounds_of_engine as engine_bounds, limits_of_engine as engine_limits}
use Rattle.alt_layout.specs.Layout.{Layout}
use Rattle.alt_rowchanges.specs.OpeningHandDeclaredLimits.{Limits}
use Rattle.alt_machine.specs.State.{State, Texts, descriptions}
use Rattle.alt_machine.specs.Valid.{IsValid}
use Rattle.alt_schema.specs.declared.schema.TableSchema.{TableSchema}
use Rattle.alt_rowchanges.specs.OpeningLive.{AreLiveIn}
use Rattle.alt_rowchanges.specs.OpeningOpened.{EngineHoldsState}
use Rattle.alt_rowchanges.specs.OpeningSized.{AreSized}
use Rattle.alt_rowchanges.specs.OpeningTrimmed.{AreTrimmedOf}
use Rattle.alt_rowchanges.specs.OpeningDeclaredTrimmed.{Trimmed}
use Rattle.alt_tables.specs.Built.{NoneBuilds}
use Rattle.alt_tables.specs.Foreseen.{Foresees}
use Rattle.alt_rowchanges.specs.Fronts.{AreFronts}
use Rattle.alt_rowchanges.specs.declared.fronts.Front.{Front}
use Rattle.alt_tables.specs.declared.tables.Tables.{Tables}

-- ---- what is known of the tables without the disk

-- the engine beneath them
abbrev pub engine_of : Tables → Engine
engine_of t = t.engine

-- the descriptions by the names of their tables
abbrev pub catalog_of : Tables → Texts TableSchema
catalog_of t = t.catalog

-- the number of the next write
abbrev pub next_write_of_tables : Tables → ℕ
next_write_of_tables t = next_write_of_engine t.engine

-- the family that the next table gets
abbrev pub next_family_of_tables : Tables → ℕ
next_family_of_tables t = t.family

-- what was trimmed of the changes of tables
abbrev pub trimmed_of : Tables → List Trimmed
trimmed_of t = t.trimmed.items

-- the fronts of streams
abbrev pub fronts_of : Tables → List Front
fronts_of t = t.fronts.items

-- the items that are due next
abbrev pub due_of : Tables → Due
due_of t = t.due

-- how many bytes an item has at most
abbrev pub largest_of : Tables → ℕ
largest_of t = t.largest

-- whether an index of one may be being built
abbrev pub builds_of : Tables → Bool
builds_of t = t.builds

-- the families that are live, in the order of their numbers
abbrev pub live_of : Tables → List ℕ
live_of t = t.live

-- from how many bytes on a family is flushed, and from how many files on merged
abbrev pub limits_of_tables : Tables → Limits
limits_of_tables t = engine_limits t.engine

-- what work goes by: these limits, and the number of the first file that it makes
abbrev pub bounds_of : Tables → Bounds
bounds_of t = engine_bounds t.engine

-- What is known without the disk stayed.
pub record KeepsCatalog (old new : Tables) : Type 0 where
  pub catalog : catalog_of new ≡ catalog_of old
  pub number : next_write_of_tables new ≡ next_write_of_tables old
  pub family : next_family_of_tables new ≡ next_family_of_tables old
  pub limits : bounds_of new ≡ bounds_of old

-- It stayed but for the number of the first file that work makes.
pub record KeepsLimits (old new : Tables) : Type 0 where
  pub catalog : catalog_of new ≡ catalog_of old
  pub number : next_write_of_tables new ≡ next_write_of_tables old
  pub family : next_family_of_tables new ≡ next_family_of_tables old
  pub limits : limits_of_tables new ≡ limits_of_tables old

-- ---- the state

-- The rows beneath the tables are those of the layout, as the disk reads and in whatever a stop now leaves.
abbrev pub HasRows : DiskState → Tables → Layout → Type 0
HasRows disk t l = EngineStands disk t.engine l

-- The tables and the disk beneath them stand for a valid state of the machine: it has the tables that are known, what was trimmed of their
-- changes, and the next number and the next family, and its rows are those on the disk. Live are the families of its tables, the fronts
-- that are known are those of its streams, the list of the items that are due next knows of each of its items, none of which has more bytes
-- than the largest, and where it is known that no index is being built none is.
pub record Stands (disk : DiskState) (t : Tables) (s : State) : Type 0 where
  pub catalog : catalog_of t ≡ descriptions s.tables
  pub number : next_write_of_tables t ≡ s.next_number
  pub family : next_family_of_tables t ≡ s.next_family
  pub live : AreLiveIn (catalog_of t) (live_of t)
  pub trimmed : AreTrimmedOf s.tables (trimmed_of t)
  pub rows : EngineHoldsState disk t.engine s
  pub fronts : (l : Layout) → HasRows disk t l → AreFronts l s.tables (fronts_of t)
  pub due : Foresees s.tables (due_of t)
  pub sized : AreSized s.tables (largest_of t)
  pub builds : builds_of t ≡ false → NoneBuilds (catalog_of t)
  pub valid : IsValid s

-- On a disk that tells its contents and keeps what was synced the tables stand for a state: after a call that failed they don't, and
-- then only a recovery goes on.
abbrev pub AreReady : DiskState → Tables → Type 0
AreReady disk t = IsTrusted disk → (s : State) × Stands disk t s

-- ---- the disk

-- A call that reads alone: where the disk tells its contents, every file stays, in reads and in what a stop leaves at each moment.
pub record Reads (old new : DiskState) : Type 0 where
  pub goes : Goes old new
  pub quiet : IsTrue old.tells → Quiet old new

-- It leaves what is known of the tables, and the rows beneath them; of the items that are due next more may be known, and the largest item
-- may have more bytes.
pub record KeepsTables (old new : DiskState) (t u : Tables) : Type 0 where
  pub catalog : u.catalog ≡ t.catalog
  pub live : u.live ≡ t.live
  pub family : u.family ≡ t.family
  pub trimmed : u.trimmed ≡ t.trimmed
  pub fronts : u.fronts ≡ t.fronts
  pub due : KeepsKnown t.due u.due
  pub largest : t.largest ≤ u.largest
  pub builds : u.builds ≡ t.builds
  pub limits : bounds_of u ≡ bounds_of t
  pub number : next_write_of_tables u ≡ next_write_of_tables t
  pub reads : Reads old new
  pub same : IsTrue old.tells → StaysOn old new t.engine u.engine
