-- How far an index is built: of every item of its table, or of those up to a place; and the step in which it is built further, while
-- writes go on (Developer Guide, "Managing global secondary indexes", "Backfilling").
use Rattle.std.specs.Prelude.{◌≡◌, ◌≤◌, ℕ, List, [], ◌∷◌, map, length, take, nat_le, Bool, true, false, not, Option, Some, None, is_some, if◌then◌else◌}
use Rattle.std.specs.FinMap as finite
use Rattle.std.specs.FinMap.Entries.{where_key}
use Rattle.std.specs.List.{filter, find, last_or, list_all}
use Rattle.std.specs.Option.{option_map_or}
use Rattle.std.specs.Ordering.{is_le}
use Rattle.alt_schema.specs.Bare.{is_whole}
pub use Rattle.alt_schema.specs.SoFar.{index_so_far as so_far, schema_so_far as described_so_far}
use Rattle.alt_schema.specs.declared.schema.Built.{Built}
use Rattle.alt_schema.specs.declared.schema.Built.TheVariants.{Whole, UpTo}
use Rattle.alt_schema.specs.declared.schema.IndexSchema.{IndexSchema}
use Rattle.alt_schema.specs.declared.schema.TableSchema.{TableSchema}
use Rattle.alt_value.specs.Members.{text_order}
use Rattle.alt_value.specs.Tree.{Pair}
use Rattle.alt_machine.specs.declared.TheConstants.{BUILT_AT_ONCE}
use Rattle.alt_machine.specs.Keys.{place_of}
use Rattle.alt_machine.specs.Lists.{key_attributes, start_place}
use Rattle.alt_machine.specs.State.{State, Table, Texts, after_write}

-- ---- how far an index is built

-- the place of a key of a table, at which no item need be: it has the key attributes, each of its kind, and no others
abbrev pub built_place : TableSchema → List Pair → Option (List ℕ)
built_place d key = start_place d None key

-- It is built of the item at a place: of each where it is whole, else of those up to the last that it was built of.
abbrev pub reaches : TableSchema → Built → List ℕ → Bool
reaches d Whole place = true
reaches d (UpTo None) place = false
reaches d (UpTo (Some key)) place =
    option_map_or (λ last. is_le (text_order place last)) (built_place d key) false

-- it is built of an item of the table
abbrev pub is_built_of_item : TableSchema → Built → List Pair → Bool
is_built_of_item d built item = option_map_or (reaches d built) (place_of d item) (is_whole built)

-- the items of a table of which an index is built
abbrev pub built_part : TableSchema → Built → Texts (List Pair) → Texts (List Pair)
built_part d built items =
    finite.from_sorted (where_key text_order (reaches d built) (finite.entries items))

-- the others, by their places, which are still to come
abbrev pub left_part : TableSchema → Built → Texts (List Pair) → List (List ℕ × List Pair)
left_part d built items = filter (λ e. not (reaches d built e.0)) (finite.entries items)

-- ---- what holds of the indexes of a table

-- an index is being built
abbrev pub is_building : IndexSchema → Bool
is_building i = not (is_whole i.built)

-- the one of a table that is
abbrev pub building_in : TableSchema → Option IndexSchema
building_in d = find is_building d.globals

-- an index is built up to a key of the table, if it isn't whole and has begun
abbrev pub is_built_to : TableSchema → Built → Bool
is_built_to d Whole = true
is_built_to d (UpTo None) = true
is_built_to d (UpTo (Some key)) = is_some (built_place d key)

-- At most one index of a table is being built, a global one, up to a key of the table.
pub record IsBuilt (d : TableSchema) : Type 0 where
  pub locals : list_all (λ i. is_whole i.built) d.locals ≡ true
  pub one : length (filter is_building d.globals) ≤ 1
  pub keys : list_all (λ i. is_built_to d i.built) d.globals ≡ true

-- ---- a step

-- how far an index is built after so many of the items that are left, or all of them where there are fewer
abbrev pub built_after : TableSchema → ℕ → List (List ℕ × List Pair) → Built
built_after d most left = if nat_le (length left) most then Whole
    else UpTo (last_or None (map (λ e. key_attributes d None e.1) (take most left)))

-- a table of which an index is built of so many items more
abbrev pub built_further : ℕ → Table → IndexSchema → Table
built_further most t i = record t {
  description = described_so_far
      (built_after t.description most (left_part t.description i.built t.items)) t.description;
}

-- the state in which that of a name is, by one write
abbrev pub with_built : State → ℕ → List ℕ → Table → IndexSchema → State
with_built s most name t i = after_write s (finite.insert s.tables name (built_further most t i))

-- the first of these tables of which an index is being built, by its name, with that index
abbrev pub first_building : List (List ℕ × Table) → Option ((List ℕ × Table) × IndexSchema)
first_building [] = None
first_building (e ∷ es) =
    option_map_or (λ i. Some (e, i)) (building_in e.1.description) (first_building es)

-- The step that a run makes by itself: one write on the first table by name of which an index is being built, and none where there is
-- no such table.
abbrev pub build : State → List State
build s = option_map_or (λ f. with_built s BUILT_AT_ONCE f.0.0 f.0.1 f.1 ∷ [])
    (first_building (finite.entries s.tables)) []
