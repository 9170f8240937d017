-- What a BatchGetItem has read, as the machine has it.
use Rattle.std.specs.Prelude.{◌≡◌, ℕ, ◌+◌, ◌≤◌, ◌&&◌, Bool, true, false, List, [], ◌∷◌, ◌++◌, codes, length, map, drop, sum_by, Option, Result, Ok, Err}
use Rattle.std.specs.Cmp.Lexicographic.{slice_cmp}
use Rattle.std.specs.FinMap as finite
use Rattle.std.specs.List.{cons_option, filter_map}
use Rattle.std.specs.Ordering.{is_lt, nat_cmp}
use Rattle.serde_json.specs.Data.{Data, array, object, Members, no_members, member, put}
use Rattle.serde_json.specs.View.{view, items_of, items_view, members_view}
use Rattle.serde_json.specs.Written.{items_have_float, members_have_float}
use Rattle.alt_codec.specs.Writing.{json_of_pairs}
use Rattle.alt_machine.specs.declared.PlacedMember.{PlacedMember}
use Rattle.alt_machine.specs.declared.TheConstants.{BATCH_BYTES, LARGEST_ITEM}
use Rattle.alt_machine.specs.Ops.BatchGetItem as machine
use Rattle.alt_machine.specs.Ops.BatchGetItem.{Shown, found_at, keys_object, size_at, read_of}
use Rattle.alt_machine.specs.Ops.GetItem.{parts}
use Rattle.alt_machine.specs.State.{State, Texts}
use Rattle.alt_request.specs.TablesSeveral.{Every}
use Rattle.alt_ops_batch.specs.declared.reading.Read.{Read}
use Rattle.alt_ops_batch.specs.declared.reading.Taken.{Taken}
use Rattle.alt_request.specs.Carried.{WhereFailed}
use Rattle.alt_request.specs.declared.stop.Stop.{Stop}
use Rattle.alt_request.specs.declared.stop.Stop.TheVariants.{Refused, Fault}
use Rattle.alt_ops_batch.specs.declared.asked_reads.TableReads.{TableReads}
use Rattle.alt_shape.specs.Body.{items_json, tables_json}
use Rattle.alt_shape.specs.Refusals.{Answer, answered}
use Rattle.alt_shape.specs.declared.body.TableItems.{TableItems}
use Rattle.alt_schema.specs.declared.schema.TableSchema.{TableSchema}
use Rattle.alt_request.specs.TablesFaults.{IsFindFault}
use Rattle.alt_value.specs.Tree.{Pair}

-- ---- what is read so far

-- tables with their items, put one after another behind those before
abbrev pub responses_of : Members → List TableItems → Members
responses_of ms [] = ms
responses_of ms (t ∷ ts) =
    responses_of (put t.table (array (items_json t.items.items)) ms) ts

-- the names of tables rise from one before them on
abbrev pub rises : List ℕ → List TableItems → Bool
rises name [] = true
rises name (t ∷ ts) = is_lt (slice_cmp nat_cmp name t.table) && rises t.table ts

-- the sizes, the items of each table and the keys that are left, as JSON
abbrev pub read_so : Read → machine.ItemsReadSoFar
read_so read = record {
  size = read.size;
  responses = responses_of no_members read.responses.items;
  unprocessed = members_view read.unprocessed.entries;
}

-- No float stands among the keys that are left.
pub record IsPlainRead (read : Read) : Type 0 where
  pub unprocessed : members_have_float (members_view read.unprocessed.entries) ≡ false

-- the sizes so far are less than what ends a batch and one item more
abbrev pub IsBounded : ℕ → Type 0
IsBounded size = size ≤ BATCH_BYTES + LARGEST_ITEM

-- the tables of all keys are there
abbrev pub KeyTablesAreThere : Texts TableSchema → List PlacedMember → Type 0
KeyTablesAreThere catalog keys =
    Every (λ (k : PlacedMember). finite.contains_key catalog k.table ≡ true) keys

-- those of the keys of each read are
abbrev pub AreAllKnown : Texts TableSchema → List TableReads → Type 0
AreAllKnown catalog asked = Every (λ (r : TableReads). KeyTablesAreThere catalog r.keys.items) asked

-- ---- the keys of a table

-- a key as it is left
abbrev pub unprocessed_key_json : PlacedMember → Data
unprocessed_key_json key = json_of_pairs key.item

-- The items of these keys are shown behind those before, up to the one at which the sizes reach 16 MB, and the keys behind it are left.
pub record TakesItems (s : State) (paths : Shown) (before : ℕ) (keys : List PlacedMember)
    (old new : Taken)
    (after : ℕ) : Type 0 where
  pub items : new.items.items ≡ old.items.items
      ++ map (parts paths) (filter_map (found_at s) (read_of s before keys))
  pub left : map view new.left.items ≡ map view old.left.items
      ++ map unprocessed_key_json (drop (length (read_of s before keys)) keys)
  pub size : after ≡ before + sum_by (size_at s) (read_of s before keys)

-- So they are, with nothing before.
pub record ItemsAreTaken (s : State) (paths : Shown) (before : ℕ) (keys : List PlacedMember)
    (taken : Taken)
    (after : ℕ) : Type 0 where
  pub items : taken.items.items
      ≡ map (parts paths) (filter_map (found_at s) (read_of s before keys))
  pub left : map view taken.left.items ≡ map unprocessed_key_json (drop (length (read_of s before keys)) keys)
  pub size : after ≡ before + sum_by (size_at s) (read_of s before keys)

-- an item is shown behind those before it, where there is one
abbrev pub ShowsMore : Shown → Option (List Pair) → List (List Pair) → List (List Pair) → Type 0
ShowsMore paths found old new = new ≡ old ++ map (parts paths) (cons_option found [])

-- No float stands among the keys that are left.
pub record IsPlainTaken (taken : Taken) : Type 0 where
  pub left : items_have_float (items_view taken.left.items) ≡ false

-- a table is named with its keys that are left, where there are any
abbrev pub name_left : List ℕ → Members → List Data → Members → Members
name_left name body [] ms = ms
name_left name body (d ∷ ds) ms = put name (keys_object body (array (items_of (d ∷ ds)))) ms

-- No keys are left, and the tables, put one after another, stand in their order.
pub record ResponsesAreWhole (responses : List TableItems) (unprocessed : Members) : Type 0 where
  pub ordered : responses_of no_members responses ≡ tables_json responses
  pub empty : unprocessed ≡ no_members

-- the reply with these tables
abbrev pub reply_of : Members → Members → Answer
reply_of responses unprocessed = answered (member (codes "Responses") (object responses)
    (member (codes "UnprocessedKeys") (object unprocessed) no_members))

-- ---- how it stops

-- by a fault of a call that reads
abbrev pub IsFault : Stop → Type 0
IsFault (Refused r) = ⊥
IsFault (Fault f) = IsFindFault f

-- by a fault, and where the device failed this holds
abbrev pub IfErrFailed : {A : Type 0} → Result A Stop → Type 0 → Type 0
IfErrFailed (Ok x) P = Unit {0}
IfErrFailed (Err (Refused r)) P = ⊥
IfErrFailed (Err (Fault f)) P = WhereFailed f P
