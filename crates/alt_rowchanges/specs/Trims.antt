-- What a write takes from the front of a table's stream, as it is read before the write.
use Rattle.std.specs.Prelude.{◌≡◌, ◌≢◌, ◌≤◌, ◌<◌, ◌+◌, ◌-◌, ◌^◌, ℕ, List, [], ◌∷◌, Bool, false, Option, Some, None, take, drop, filter, nat_lt, All, AllPairs, Vec, is_some, unwrap_or, if◌then◌else◌}
use Rattle.std.specs.List.{range_with_len}
use Rattle.std.specs.Option.{option_map_or}
use Rattle.std.specs.declared.alloc.Global.{Global}
use Rattle.alt_cells.specs.Batches.{has_row}
use Rattle.alt_cells.specs.Changes.{Columns}
use Rattle.alt_cells.specs.declared.batch.RowChange.{RowChange}
use Rattle.alt_changes.specs.ChangeRows.{row_key}
use Rattle.alt_changes.specs.TrimRows.{AreLeft}
use Rattle.alt_layout.specs.Layout.{Layout, shown}
use Rattle.alt_machine.specs.State.{Change, Table}
use Rattle.alt_machine.specs.Trimming.{a_day, kept, trimmed_at}
use Rattle.alt_schema.specs.declared.schema.TableSchema.{TableSchema}
use Rattle.alt_rowchanges.specs.Fronts.{KnowsFront, first_moment, front_at}
use Rattle.alt_rowchanges.specs.Leftovers.{leftovers, lowest_left}
use Rattle.alt_rowchanges.specs.declared.fronts.Front.{Front}
use Rattle.alt_rowchanges.specs.declared.trimming.Trim.{Trim}

-- the number of the last change of a table that is trimmed after a write at a moment
abbrev pub trimmed_by : Table → ℕ → ℕ
trimmed_by t moment = if is_some t.description.stream_family
    then trimmed_at moment t.trimmed t.changes else t.trimmed

-- That number, the lowest of the rows that are left over then, and what is known of the stream's front once they are hidden, but for the
-- change of the write itself.
pub record IsTrim (l : Layout) (t : Table) (moment : ℕ) (r : Trim) : Type 0 where
  pub number : r.number ≡ trimmed_by t moment
  pub lowest : r.leftovers.items ≡ lowest_left l t.description r.number
  pub oldest : (family : ℕ) → t.description.stream_family ≡ Some family
      → r.oldest ≡ first_moment (kept moment t.changes)
  pub low : (1 ≤ r.from) × (r.from ≤ r.number + 1)
  pub above : (family : ℕ) → t.description.stream_family ≡ Some family
      → All (λ n. r.from ≤ n) (drop 2 (leftovers l family r.number))

-- Whatever the disk gave, the rows that go are different ones which may be left over, and the number lies between the one from before
-- and that of the write.
pub record TrimIsWithin (before next : ℕ) (r : Trim) : Type 0 where
  pub rise : before ≤ r.number
  pub below : r.number < next
  pub left : AreLeft r.number r.leftovers.items
  pub differ : AllPairs (λ m n. m ≢ n) r.leftovers.items

-- ---- the rows of numbers

-- These are the rows of the numbers, one by one.
abbrev pub AreNumbersOf : List (List ℕ × Columns) → List ℕ → Type 0
AreNumbersOf [] [] = Unit {0}
AreNumbersOf [] (n ∷ ns) = ⊥
AreNumbersOf (e ∷ es) [] = ⊥
AreNumbersOf (e ∷ es) (n ∷ ns) = (e.0 ≡ row_key n) × (n < 2 ^ 64) × AreNumbersOf es ns

-- two numbers at most, which rise from 1 on up to another one
abbrev pub AreTwo : ℕ → List ℕ → Type 0
AreTwo most [] = Unit {0}
AreTwo most (m ∷ []) = (1 ≤ m) × (m ≤ most)
AreTwo most (m ∷ n ∷ []) = (1 ≤ m) × (m < n) × (n ≤ most)
AreTwo most (m ∷ n ∷ k ∷ ks) = ⊥

-- the number behind the second of two, and behind another one where there are fewer
abbrev pub number_behind_second : ℕ → List ℕ → ℕ
number_behind_second most [] = most + 1
number_behind_second most (m ∷ []) = most + 1
number_behind_second most (m ∷ n ∷ ns) = n + 1

-- ---- what is read of a front

-- the moment of the oldest change, if there is one, is over a day before another one
abbrev pub is_over_a_day_before : Option ℕ → ℕ → Bool
is_over_a_day_before oldest moment = option_map_or (λ m. nat_lt (m + a_day) moment) oldest false

-- It is known of a table that this is the moment of the oldest change of its stream, and it isn't too old.
abbrev pub IsYoung : List ℕ → ℕ → List Front → Option ℕ → Type 0
IsYoung name moment known oldest = (f : Front) × (front_at name known ≡ Some f)
    × (f.oldest ≡ oldest) × (is_over_a_day_before oldest moment ≡ false)

-- of these changes, before which that number was trimmed, the number of the last that is trimmed by a moment, and the moment of the first
-- that is kept
pub record IsKeptFrom (moment before : ℕ) (changes : List Change) (r : ℕ × Option ℕ) : Type 0 where
  pub number : r.0 ≡ trimmed_at moment before changes
  pub oldest : r.1 ≡ first_moment (kept moment changes)

-- The lowest two of the rows that are left over up to a number, and a number below which none of the others is.
pub record IsLowest (l : Layout) (family number : ℕ) (r : Vec ℕ Global × ℕ) : Type 0 where
  pub lowest : r.0.items ≡ take 2 (leftovers l family number)
  pub low : (1 ≤ r.1) × (r.1 ≤ number + 1)
  pub above : All (λ n. r.1 ≤ n) (drop 2 (leftovers l family number))

-- the numbers from one on up to another at which a family shows a row
abbrev pub leftovers_from : Layout → ℕ → ℕ → ℕ → List ℕ
leftovers_from l family from number = filter (λ n. is_some (shown l family (row_key n)))
    (range_with_len from (number + 1 - from))

-- Of these the lowest two, and a number from which on the others are all there are.
pub record IsLowestFrom (l : Layout) (family from number : ℕ) (r : Vec ℕ Global × ℕ) : Type 0 where
  pub lowest : r.0.items ≡ take 2 (leftovers_from l family from number)
  pub low : (1 ≤ r.1) × (r.1 ≤ number + 1)
  pub rest : drop 2 (leftovers_from l family from number) ≡ leftovers_from l family r.1 number

-- Once they are hidden in some rows, what is left over there is what others show from that number on.
abbrev pub IsRest : Layout → Layout → Table → Trim → Type 0
IsRest l m t r = (family : ℕ) → t.description.stream_family ≡ Some family
    → drop 2 (leftovers m family r.number) ≡ leftovers_from l family r.from r.number

-- the number from which on rows may be left over, as it is known of a table
abbrev pub left_from : List ℕ → List Front → ℕ
left_from name known = option_map_or (λ (f : Front). f.from) (front_at name known) 1

-- ---- what is written, and what is known behind it

-- the rows that go aren't changed yet
pub record CanTrim (before : ℕ) (r : Trim) (batch : List RowChange) (family : ℕ) : Type 0 where
  pub rise : before ≤ r.number
  pub left : AreLeft r.number r.leftovers.items
  pub differ : AllPairs (λ m n. m ≢ n) r.leftovers.items
  pub zero : has_row batch family (row_key 0) ≡ false
  pub rows : All (λ n. has_row batch family (row_key n) ≡ false) r.leftovers.items

-- Of a table with a stream it is known that its front is what was read, where the oldest change is that of the write if no other is kept.
pub record IsNoted (d : TableSchema) (name : List ℕ) (moment : ℕ) (r : Trim) (old new : List Front)
    : Type 0 where
  pub stream : (family : ℕ) → d.stream_family ≡ Some family
      → KnowsFront name (Some (unwrap_or r.oldest moment)) r.from old new
  pub none : d.stream_family ≡ None → new ≡ old
