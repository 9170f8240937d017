-- What is proved of the machine itself.
use Rattle.std.specs.Prelude.{◌≡◌, ◌≢◌, ◌≤◌, ℕ, Bool, false, not, List, [], length, map as each, take, Option, Some, None, option_and_then, option_map, All, Contains}
use Rattle.std.specs.FinMap as map
use Rattle.std.specs.Option.{option_map_or}
use Rattle.alt_codec.specs.declared.writer.Writer.TheVariants.{Expiry}
use Rattle.alt_expr.specs.KeyForm.{Key, ask_of}
use Rattle.alt_expr.specs.Pages.{passes}
use Rattle.alt_expr.specs.UpdateLanguage.{target}
use Rattle.alt_expr.specs.Updated.{updated}
use Rattle.alt_keyorder.specs.Laws.{Lie}
use Rattle.alt_keyorder.specs.Place.{Place}
use Rattle.alt_legacy.specs.Changes.{NamedChange, legacy_updated, makes_item, Differ}
use Rattle.alt_legacy.specs.Keys.{asked_by_entries}
use Rattle.alt_legacy.specs.Meets as older
use Rattle.alt_legacy.specs.Trees.{attribute_path, action_of, condition_of}
use Rattle.alt_legacy.specs.declared.entry.Entry.{Entry}
use Rattle.alt_machine.specs.Building.{build}
use Rattle.alt_machine.specs.Conditional as conditional
use Rattle.alt_machine.specs.Conditional.{seen}
use Rattle.alt_machine.specs.declared.Operation.{Operation}
use Rattle.alt_machine.specs.declared.Operation.TheVariants.{ExpireItems}
use Rattle.alt_machine.specs.Indexed.{index_place, index_entry, index_items}
use Rattle.alt_machine.specs.Keys.{key_place}
use Rattle.alt_machine.specs.Older.{some_actions}
use Rattle.alt_machine.specs.Ops.UpdateItem.{makes_none}
use Rattle.alt_machine.specs.Outcomes.{a_number, last_state, state_after}
use Rattle.alt_machine.specs.Sources.{index_at}
use Rattle.alt_machine.specs.State.{State, Table, Texts, Change}
use Rattle.alt_machine.specs.Step.{step}
use Rattle.alt_machine.specs.Valid.{IsValid, IsHeldState}
use Rattle.alt_machine.specs.Wanted.{lack_among}
use Rattle.alt_schema.specs.Indexes.{index_row}
use Rattle.alt_schema.specs.declared.schema.IndexSchema.{IndexSchema}
use Rattle.alt_schema.specs.declared.schema.TableSchema.{TableSchema}
use Rattle.alt_value.specs.Item.{at_name}
use Rattle.alt_value.specs.Tree.{Pair}
use Rattle.alt_value.specs.Values.{IsItemOfValues}

-- Valid states go to valid states: that after the first so many writes of a request is valid, where these lack no number and no family.
abbrev pub StepsKeepValid : Type 0
StepsKeepValid = (s : State) (op : Option Operation) (body : List ℕ) (moment k : ℕ) → IsValid s
    → lack_among (step s op body moment).wants s (take k (step s op body moment).atoms) ≡ None
    → IsValid (state_after k s (step s op body moment).atoms)

-- A request makes one state lasting at most, so no stop cuts it.
abbrev pub OneAtom : Type 0
OneAtom = (s : State) (op : Option Operation) (body : List ℕ) (moment : ℕ)
    → length (step s op body moment).atoms ≤ 1

-- A step in which a run builds an index further is one write at most, and leads from a valid state to a valid one, where it lacks no
-- number.
abbrev pub BuildsKeepValid : Type 0
BuildsKeepValid = (s : State) → (length (build s) ≤ 1)
    × (IsValid s → lack_among a_number s (build s) ≡ None → IsValid (last_state s (build s)))

-- The items of a table lie by their keys: their places have an order (the token, then the HASH value, then the RANGE value), in which
-- only places of equal keys tie, and the bytes of places lie so.
abbrev pub ItemsLieByKeys : Type 0
ItemsLieByKeys = (d : TableSchema) (i j : List Pair) (p q : Place) → IsItemOfValues i → IsItemOfValues j
    → key_place d i ≡ Some p → key_place d j ≡ Some q → Lie p q

-- Those of an index lie so too, by the keys of the index and then by those of the table.
abbrev pub IndexPlacesLie : Type 0
IndexPlacesLie = (d : TableSchema) (i : IndexSchema) (x y : List Pair) (p q : Place)
    → IsItemOfValues x → IsItemOfValues y
    → index_place d i x ≡ Some p → index_place d i y ≡ Some q → Lie p q

-- An index of a table has each of the table's items that has the index's key attributes, cut to what the index keeps, at its place
-- there; and it has no others.
pub record Indexes (t : Table) (i : IndexSchema) : Type 0 where
  pub each : (place : List ℕ) (item row : List Pair) → map.get t.items place ≡ Some item
      → index_row t.description item i ≡ Some row
      → (key : List ℕ) × (index_entry t.description i item ≡ Some (key, row))
      × (map.get (index_items t.description i t.items) key ≡ Some row)
  pub alone : (key : List ℕ) (row : List Pair)
      → map.get (index_items t.description i t.items) key ≡ Some row
      → (place : List ℕ) × (item : List Pair) × (map.get t.items place ≡ Some item)
      × (index_entry t.description i item ≡ Some (key, row))

-- Each index of each table of a valid state does.
abbrev pub AllIndex : Type 0
AllIndex = (s : State) (name : List ℕ) (t : Table) (number : ℕ) (i : IndexSchema) → IsValid s
    → IsHeldState s → map.get s.tables name ≡ Some t
    → index_at t.description (Some number) ≡ Some i → Indexes t i

-- ---- time to live

-- the items of a table, where it is there
abbrev pub items_of : State → List ℕ → Option (Texts (List Pair))
items_of s name = option_map (λ t. t.items) (map.get s.tables name)

-- its changes
abbrev pub changes_of : State → List ℕ → List Change
changes_of s name = option_map_or (λ t. t.changes) (map.get s.tables name) []

-- No request but an ExpireItems deletes an item because of its time: the items that it leaves are the same at any moment, and each change
-- that is told to be of time to live was there before it.
pub record OthersExpireNone : Type 0 where
  pub items : (s : State) (op : Option Operation) (body : List ℕ) (m n : ℕ) (name : List ℕ)
      → op ≢ Some ExpireItems
      → items_of (last_state s (step s op body m).atoms) name
      ≡ items_of (last_state s (step s op body n).atoms) name
  pub changes : (s : State) (op : Option Operation) (body : List ℕ) (moment : ℕ) (name : List ℕ)
      → op ≢ Some ExpireItems
      → All (λ (c : Change). c.by ≡ Expiry → Contains (changes_of s name) c)
      (changes_of (last_state s (step s op body moment).atoms) name)

-- A step in which an index is built deletes none, because of its time or else: it leaves each table its items, and its changes.
abbrev pub BuildsLeaveItems : Type 0
BuildsLeaveItems = (s : State) (name : List ℕ)
    → (items_of (last_state s (build s)) name ≡ items_of s name)
    × (changes_of (last_state s (build s)) name ≡ changes_of s name)

-- ---- members of the older interface

-- The condition of entries holds of what is there, and as a filter of an item, exactly where that meets the entries.
pub record OlderConditions : Type 0 where
  pub meets : (any : Bool) (entries : List Entry) (old : Option (List Pair))
      → conditional.meets_condition (condition_of any entries) old ≡ older.meets_entries any entries (seen old)
  pub passes : (any : Bool) (entries : List Entry) (item : List Pair)
      → passes (condition_of any entries) item
      ≡ older.meets_entries any entries (λ name. at_name name item)

-- As a condition on keys it asks what the entries do, and nothing where they aren't one.
abbrev pub OlderKeys : Type 0
OlderKeys = (hash : Key) (range : Option Key) (entries : List Entry)
    → option_and_then (ask_of hash range) (condition_of false entries)
    ≡ asked_by_entries hash range entries

-- The update of changes of different names makes of what is there what they do, or is refused for the same fault; it makes no item exactly
-- where they don't, and its parts are the attributes of their names.
pub record OlderUpdates : Type 0 where
  pub after : (changes : List NamedChange) (old : Option (List Pair))
      → Differ (each (λ c. c.name) changes)
      → updated (seen old) (each action_of changes) ≡ legacy_updated (seen old) changes
  pub makes : (changes : List NamedChange)
      → makes_none (some_actions (each action_of changes)) ≡ not (makes_item changes)
  pub parts : (changes : List NamedChange)
      → each target (each action_of changes) ≡ each (λ c. attribute_path c.name) changes
