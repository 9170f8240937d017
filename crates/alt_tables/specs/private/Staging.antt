-- Several writes as they are got ready, before the first of them is made: their row changes, and what they take from the fronts of streams.
use Rattle.std.specs.Prelude.{◌≡◌, ◌≤◌, ◌<◌, ◌+◌, ℕ, true, false, not, List, [], ◌∷◌, ◌++◌, length, filter, Option, None, Some, IsSome, unwrap_or}
use Rattle.std.specs.FinMap as map
use Rattle.std.specs.List.{find}
use Rattle.std.specs.Option.{option_map_or}
use Rattle.std.specs.Str.{bytes_eq}
use Rattle.alt_cells.specs.declared.batch.RowChange.{RowChange}
use Rattle.alt_codec.specs.declared.writer.Writer.{Writer}
use Rattle.alt_layout.specs.Layout.{Layout, shown}
use Rattle.alt_machine.specs.Ops.BatchWriteItem.{PlacedWrite, writes_of_all_by}
use Rattle.alt_machine.specs.Outcomes.{last_state}
use Rattle.alt_machine.specs.Same.{is_same}
use Rattle.alt_machine.specs.State.{State, Table, Texts, descriptions}
use Rattle.alt_machine.specs.Writes.{after_item_by}
use Rattle.alt_rowchanges.specs.OpeningTrimmed.{number_at}
use Rattle.alt_rowchanges.specs.OpeningDeclaredTrimmed.{Trimmed}
use Rattle.alt_schema.specs.declared.schema.TableSchema.{TableSchema}
use Rattle.alt_rowchanges.specs.Fronts.{first_moment, front_at}
use Rattle.alt_rowchanges.specs.Leftovers.{leftovers}
use Rattle.alt_tables.specs.Several.{Every, TurnsAll, batch_of, batches_of, with_batches, written_at}
use Rattle.alt_rowchanges.specs.Trims.{IsRest, IsTrim, is_over_a_day_before, leftovers_from}
use Rattle.alt_rowchanges.specs.declared.fronts.Front.{Front}
use Rattle.alt_tables.specs.declared.several.ItemChange.{ItemChange}
use Rattle.alt_tables.specs.declared.several.Noted.{Noted}
use Rattle.alt_tables.specs.declared.several.Staged.{Staged}
use Rattle.alt_rowchanges.specs.declared.trimming.Trim.{Trim}

-- ---- changes

-- it changes what was found
abbrev pub Differs : ItemChange → Type 0
Differs c = is_same c.found.item c.new ≡ false

-- those of a list that do
abbrev pub differing_of : List ItemChange → List ItemChange
differing_of changes = filter (λ (c : ItemChange). not (is_same c.found.item c.new)) changes

-- ---- the fronts of streams behind them

-- what the last of the writes so far to a table of that name takes
abbrev pub note_at : List ℕ → List Noted → Option Noted
note_at name notes = find (λ (e : Noted). bytes_eq e.table name) notes

-- Their tables are there, and in one with a stream what is trimmed lies before the next number.
abbrev pub AreNotes : Texts TableSchema → ℕ → List Noted → Type 0
AreNotes catalog next notes = Every (λ (e : Noted). (map.contains_key catalog e.table ≡ true)
    × ((d : TableSchema) → map.get catalog e.table ≡ Some d → IsSome d.stream_family
    → e.trim.number < next)) notes

-- the moment of the oldest change that is kept behind a write, which may be that of the write itself
abbrev pub oldest_by : ℕ → Trim → Option ℕ
oldest_by moment r = Some (unwrap_or r.oldest moment)

-- Behind the last of the writes to a table, which took this, the table is so. `l` are the rows before the first of the writes, and `m` those now.
pub record IsTouched (l m : Layout) (moment : ℕ) (r : Trim) (t : Table) : Type 0 where
  pub trimmed : t.trimmed ≡ r.number
  pub low : (1 ≤ r.from) × (r.from ≤ r.number + 1)
  pub oldest : (family : ℕ) → t.description.stream_family ≡ Some family
      → first_moment t.changes ≡ oldest_by moment r
  pub young : (family : ℕ) → t.description.stream_family ≡ Some family
      → is_over_a_day_before (oldest_by moment r) moment ≡ false
  pub left : (family : ℕ) → t.description.stream_family ≡ Some family
      → leftovers m family r.number ≡ leftovers_from l family r.from r.number

-- none of the writes was to this table
pub record IsUntouched (l m : Layout) (was now : Option Table) : Type 0 where
  pub same : now ≡ was
  pub rows : (t : Table) (family : ℕ) → was ≡ Some t → t.description.stream_family ≡ Some family
      → (key : List ℕ) → shown m family key ≡ shown l family key

-- the table by what is noted of it
abbrev pub IsTableAhead : Layout → Layout → ℕ → Option Table → Option Table → Option Noted → Type 0
IsTableAhead l m moment was now None = IsUntouched l m was now
IsTableAhead l m moment was now (Some e) =
    (t : Table) × (now ≡ Some t) × IsTouched l m moment e.trim t

-- Behind writes of these batches, of which this is noted, one state has become another.
pub record IsStateAhead (l : Layout) (s : State) (moment : ℕ) (notes : List Noted)
    (batches : List (List RowChange)) (r : State) : Type 0 where
  pub turns : TurnsAll batches s r
  pub number : r.next_number ≡ s.next_number + length batches
  pub family : r.next_family ≡ s.next_family
  pub catalog : descriptions r.tables ≡ descriptions s.tables
  pub tables : (q : List ℕ) → IsTableAhead l (with_batches l batches) moment
      (map.get s.tables q) (map.get r.tables q) (note_at q notes)

-- ---- one write

-- What a write to a table takes behind others, where one of them was to it.
pub record IsAgain (l m : Layout) (t : Table) (moment : ℕ) (r : Trim) : Type 0 where
  pub trim : IsTrim m t moment r
  pub rest : IsRest l m t r

-- the same, with the number of the last change that was trimmed before
pub record IsTrimmedAgain (l m : Layout) (t : Table) (moment : ℕ) (r : ℕ × Trim) : Type 0 where
  pub before : r.0 ≡ t.trimmed
  pub again : IsAgain l m t moment r.1

-- One more is got ready behind the others.
pub record IsStagedOn (l : Layout) (s : State) (moment : ℕ) (writer : Writer) (c : ItemChange)
    (r : State) (old new : Staged) : Type 0 where
  pub table : Table
  pub there : map.get r.tables c.table ≡ Some table
  pub batches : new.batches.items ≡ old.batches.items
      ++ batch_of (with_batches l old.batches.items) r moment writer table (written_at c) ∷ []
  pub ahead : IsStateAhead l s moment new.notes.items new.batches.items
      (after_item_by r moment writer c.table table c.found.place c.new)

-- ---- all of them

-- These writes of a state are got ready.
pub record IsStaged (l : Layout) (s : State) (moment : ℕ) (writer : Writer) (ws : List PlacedWrite)
    (r : Staged) : Type 0 where
  pub batches : r.batches.items ≡ batches_of l s moment writer ws
  pub ahead : IsStateAhead l s moment r.notes.items r.batches.items
      (last_state s (writes_of_all_by s moment writer ws))

-- what is known of a front by what is noted: where a write was to a table with a stream, what it leaves
abbrev pub IsFrontKnown : Texts TableSchema → ℕ → List ℕ → Option Noted → List Front → List Front
    → Type 0
IsFrontKnown catalog moment q None old new = front_at q new ≡ front_at q old
IsFrontKnown catalog moment q (Some e) old new =
    ((f : Front) → front_at q new ≡ Some f
    → (d : TableSchema) → map.get catalog q ≡ Some d → IsSome d.stream_family
    → (f.oldest ≡ oldest_by moment e.trim) × (f.from ≡ e.trim.from))
    × ((d : TableSchema) → map.get catalog q ≡ Some d → d.stream_family ≡ None
    → front_at q new ≡ front_at q old)

-- What is noted is known.
pub record AreKnown (catalog : Texts TableSchema) (moment : ℕ) (notes : List Noted)
    (old_trimmed new_trimmed : List Trimmed) (old new : List Front) : Type 0 where
  pub trimmed : (q : List ℕ) → number_at q new_trimmed
      ≡ option_map_or (λ (e : Noted). e.trim.number) (note_at q notes) (number_at q old_trimmed)
  pub fronts : (q : List ℕ) → IsFrontKnown catalog moment q (note_at q notes) old new
