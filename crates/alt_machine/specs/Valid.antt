-- What holds of every state that the machine comes to from the empty store.
use Rattle.std.specs.Prelude.{◌≡◌, ◌≢◌, ◌≤◌, ◌<◌, ◌&&◌, ℕ, Bool, true, false, not, nat_lt, nat_le, T, List, [], length, Option, Some, None, IfSome, All, AllPairs, Contains}
use Rattle.std.specs.List.{list_all}
use Rattle.std.specs.Str.{bytes_eq}
use Rattle.std.specs.FinMap as map
use Rattle.alt_schema.specs.Described.{IsDescription}
use Rattle.alt_schema.specs.Indexes.{indexes, is_used, of_range}
use Rattle.alt_schema.specs.Rules.{is_name, all_differ, most_locals, most_globals, most_included}
use Rattle.alt_schema.specs.declared.schema.IndexSchema.{IndexSchema}
use Rattle.alt_schema.specs.declared.schema.KeyAttr.{KeyAttr}
use Rattle.alt_schema.specs.declared.schema.Projection.{Projection}
use Rattle.alt_schema.specs.declared.schema.Projection.TheVariants as projects
use Rattle.alt_schema.specs.declared.schema.TableSchema.{TableSchema}
use Rattle.alt_value.specs.Item.{IsItem}
use Rattle.alt_value.specs.Size.{item_size, fields_depth}
use Rattle.alt_value.specs.Tree.{Pair, fields_of}
use Rattle.alt_value.specs.Values.{IsItemOfValues, fields_full}
use Rattle.alt_machine.specs.declared.TheConstants.{LARGEST_ITEM, MOST_TABLES, NUMBERS_END, FAMILIES_END}
use Rattle.alt_machine.specs.Building.{IsBuilt}
use Rattle.alt_machine.specs.Keys.{key_fits, place_of}
use Rattle.alt_machine.specs.State.{State, Table, Change, families_of}

-- ---- items

-- the most lists and maps around a value of an item (Developer Guide, "Service, account, and table quotas")
abbrev pub deepest : ℕ
deepest = 32

-- An item of a table, now or once, stands at the place of its key. Its key fits, it isn't too large, no value in it is too deep, no
-- set in it is empty, and its names rise, none of them empty. Its keys in indexes need not fit: what was written before an index
-- came stays, and isn't in the index.
pub record IsStored (d : TableSchema) (place : List ℕ) (item : List Pair) : Type 0 where
  pub stands : place_of d item ≡ Some place
  pub fits : key_fits d item ≡ true
  pub size : item_size item ≤ LARGEST_ITEM
  pub depth : fields_depth (fields_of item) ≤ deepest
  pub full : T (fields_full (fields_of item))
  pub names : IsItem item

-- ---- descriptions

-- HASH, and perhaps RANGE, of two different names, none of them empty
abbrev pub is_pair : KeyAttr → Option KeyAttr → Bool
is_pair hash range = nat_lt 0 (length hash.name) && of_range
    (λ r. nat_lt 0 (length r.name) && not (bytes_eq hash.name r.name)) true range

-- both are there, of two different names
abbrev pub are_two : Option KeyAttr → Option KeyAttr → Bool
are_two None j = false
are_two (Some r) None = false
are_two (Some r) (Some j) = not (bytes_eq j.name r.name)

-- a local index has the HASH key of its table and another RANGE key
abbrev pub is_local : KeyAttr → Option KeyAttr → IndexSchema → Bool
is_local hash range i = bytes_eq i.hash.name hash.name && are_two range i.range

-- a projection that names attributes names 1 to 20, and each name has bytes
abbrev pub names_few : Projection → Bool
names_few projects.All = true
names_few projects.KeysOnly = true
names_few (projects.Include names) = nat_lt 0 (length names) &&
    (nat_le (length names) most_included && list_all (λ n. nat_lt 0 (length n)) names)

-- A description as it is made: the table and its indexes have names; keys, local indexes and projections are as they have to be; at
-- most 5 local and 20 global indexes of different names, of which at most one is being built; and exactly the key attributes are
-- defined, none of them twice.
pub record IsMade (d : TableSchema) : Type 0 where
  pub spelled : is_name d.name ≡ true
  pub indexes_spelled : list_all (λ i. is_name i.name) (indexes d) ≡ true
  pub indexes_differ : all_differ (λ i. i.name) (indexes d) ≡ true
  pub keys : is_pair d.hash d.range ≡ true
  pub index_keys : list_all (λ i. is_pair i.hash i.range) (indexes d) ≡ true
  pub used : list_all (λ a. is_used d a.name) d.definitions ≡ true
  pub locals : list_all (is_local d.hash d.range) d.locals ≡ true
  pub projections : list_all (λ i. names_few i.projection) (indexes d) ≡ true
  pub locals_few : length d.locals ≤ most_locals
  pub globals_few : length d.globals ≤ most_globals
  pub built : IsBuilt d
  pub whole : IsDescription d

-- ---- changes

-- A change has a number below the next. The old item and the new one differ, and those of them that are there have one and the same key.
pub record IsChange (d : TableSchema) (next : ℕ) (c : Change) : Type 0 where
  pub number : c.number < next
  pub differ : c.old ≢ c.new
  pub place : List ℕ
  pub old : IfSome c.old (IsStored d place)
  pub new : IfSome c.new (IsStored d place)

-- The changes of a table rise by their numbers, from above the number of the last that was trimmed, which is below the next; and one
-- without a stream has none and trimmed none.
pub record AreChanges (d : TableSchema) (next trimmed : ℕ) (changes : List Change) : Type 0 where
  pub each : All (IsChange d next) changes
  pub rise : AllPairs (λ (a b : Change). a.number < b.number) changes
  pub above : All (λ (c : Change). trimmed < c.number) changes
  pub trimmed_before : trimmed < next
  pub none : d.stream_family ≡ None → (changes ≡ []) × (trimmed ≡ 0)

-- ---- tables

-- A table stands under its own name. Its number was taken before, and so were its families, of which no two are the same.
pub record IsTable (s : State) (name : List ℕ) (t : Table) : Type 0 where
  pub named : t.description.name ≡ name
  pub made : IsMade t.description
  pub number : (1 ≤ t.description.number) × (t.description.number < s.next_number)
  pub families : All (λ f. (1 ≤ f) × (f < s.next_family)) (families_of t.description)
  pub differ : AllPairs (λ f g. f ≢ g) (families_of t.description)
  pub items : (place : List ℕ) (item : List Pair) → map.get t.items place ≡ Some item
      → IsStored t.description place item
  pub changes : AreChanges t.description s.next_number t.trimmed t.changes

-- There are at most 256 tables, each of them as it is to be; a family is of one table alone; and the next number and the next family are in
-- their ranges.
pub record IsValid (s : State) : Type 0 where
  pub few : map.len s.tables ≤ MOST_TABLES
  pub tables : (name : List ℕ) (t : Table) → map.get s.tables name ≡ Some t → IsTable s name t
  pub families : (name other : List ℕ) (t u : Table) (family : ℕ) → map.get s.tables name ≡ Some t
      → map.get s.tables other ≡ Some u
      → Contains (families_of t.description) family → Contains (families_of u.description) family
      → name ≡ other
  pub next_number : (1 ≤ s.next_number) × (s.next_number ≤ NUMBERS_END)
  pub next_family : (1 ≤ s.next_family) × (s.next_family ≤ FAMILIES_END)

-- both items of a change, where they are there, are such that a program can hold them
abbrev pub IsChangeOfValues : Change → Type 0
IsChangeOfValues c = IfSome c.old IsItemOfValues × IfSome c.new IsItemOfValues

-- Each item of the state and of its changes is one that a program can hold: its texts are UTF-8, its numbers fit, and so on at every
-- level. What is read from memory is such, and what is read from JSON as data need not be, so it is told beside what is valid.
pub record IsHeldState (s : State) : Type 0 where
  pub items : (name place : List ℕ) (t : Table) (item : List Pair) → map.get s.tables name ≡ Some t
      → map.get t.items place ≡ Some item
      → IsItemOfValues item
  pub changes : (name : List ℕ) (t : Table) → map.get s.tables name ≡ Some t
      → All IsChangeOfValues t.changes
