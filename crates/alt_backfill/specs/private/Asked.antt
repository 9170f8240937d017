-- What comes of the tests of an UpdateTable, and which table a Build is of.
use Rattle.std.specs.Prelude.{◌≡◌, ℕ, Bool, true, List, [], ◌∷◌, Option, Some, None, is_some, codes, option_map, option_and_then, Result, Ok, Err}
use Rattle.std.specs.FinMap as map
use Rattle.std.specs.List.{find, list_any}
use Rattle.serde_json.specs.Data.{Data, Members}
use Rattle.serde_json.specs.Find.{as_object}
use Rattle.alt_backfill.specs.declared.asked.Later.{Later}
use Rattle.alt_machine.specs.Building.{building_in}
use Rattle.alt_machine.specs.Members.{table_name}
use Rattle.alt_machine.specs.Ops.UpdateTable.{acts, altered, asked_at, changes, of_body, of_indexes, update_table}
use Rattle.alt_machine.specs.Outcomes.{Outcome, refuses, unless_refused}
use Rattle.alt_machine.specs.Refusals.{first_answer}
use Rattle.alt_machine.specs.State.{State, Texts, descriptions}
use Rattle.alt_machine.specs.Valid.{IsValid}
use Rattle.alt_request.specs.declared.stop.Stop.{Stop}
use Rattle.alt_request.specs.declared.stop.Stop.TheVariants.{Refused, Fault}
use Rattle.alt_schema.specs.Rules.{is_name}
use Rattle.alt_schema.specs.Stated.{text_of}
use Rattle.alt_schema.specs.declared.described.SchemaFault.{SchemaFault}
use Rattle.alt_schema.specs.declared.described.SchemaFault.TheVariants as schema
use Rattle.alt_schema.specs.declared.schema.TableSchema.{TableSchema}
use Rattle.alt_shape.specs.Refusals.{IsKnown}
use Rattle.alt_shape.specs.Shape.{given}
use Rattle.alt_request.specs.TablesFaults.{IsReadFault}
use Rattle.alt_request.specs.TablesStands.{catalog_of, next_family_of_tables}
use Rattle.alt_request.specs.TablesDeclaredTableFault.TheVariants.{NoMemory}
use Rattle.alt_request.specs.TablesDeclaredTables.{Tables}

-- ---- the changes

-- the first of several, where there is one
abbrev pub first_of : {A : Type 0} → List A → Option A
first_of [] = None
first_of (x ∷ xs) = Some x

-- what the first of the changes asks at a name
abbrev pub first_asked : List ℕ → Members → Option Members
first_asked name ms = first_of (asked_at name ms)

-- what a value asks at a name, where it is a change
abbrev pub change_asked : List ℕ → Data → Option Members
change_asked name d = option_and_then (λ u. option_and_then as_object (given name u)) (as_object d)

-- what is asked has the name of an index
abbrev pub names_index : Members → Bool
names_index m = is_name (text_of (codes "IndexName") m)

-- ---- an UpdateTable

-- no refusal applies to a table that is there, under its own name, and that is its description then
pub record MayBeAltered (tables : Tables) (ms : Members) (later : Later) : Type 0 where
  pub body : first_answer (of_body ms) ≡ None
  pub description : TableSchema
  pub there : map.get (catalog_of tables) (table_name ms) ≡ Some description
  pub named : description.name ≡ table_name ms
  pub free : first_answer (of_indexes description ms) ≡ None
  pub is : later.schema ≡ altered description ms (next_family_of_tables tables)
  pub alters : later.alters ≡ list_any acts (changes ms)

-- That is so; or the machine refuses the request too, in a valid state with these tables.
abbrev pub IsAlteringOrRefused : Tables → Members → Result Later Stop → Type 0
IsAlteringOrRefused tables ms (Ok later) = MayBeAltered tables ms later
IsAlteringOrRefused tables ms (Err (Refused r)) = IsKnown r
    × ((s : State) → descriptions s.tables ≡ catalog_of tables → IsValid s
    → update_table s ms ≡ refuses r)
IsAlteringOrRefused tables ms (Err (Fault f)) = IsReadFault f

-- Of a table at hand: no refusal applies, and that is its description then; or the machine refuses it too.
abbrev pub IsAskedOf : TableSchema → Members → ℕ → Result Later Stop → Type 0
IsAskedOf d ms family (Ok later) = (first_answer (of_indexes d ms) ≡ None)
    × (later.schema ≡ altered d ms family) × (later.alters ≡ list_any acts (changes ms))
IsAskedOf d ms family (Err (Refused r)) = IsKnown r
    × ((o : Outcome) → unless_refused (of_indexes d ms) o ≡ refuses r)
IsAskedOf d ms family (Err (Fault f)) = IsReadFault f

-- what a fault of a description stops a request with
abbrev pub stop_of_schema_fault : SchemaFault → Stop
stop_of_schema_fault (schema.Refused r) = Refused r
stop_of_schema_fault schema.NoMemory = Fault NoMemory

-- ---- a Build

-- an index of a table is being built
abbrev pub builds : TableSchema → Bool
builds d = is_some (building_in d)

-- the description of the first table by name of which an index is being built
abbrev pub IsFirstBuilding : Texts TableSchema → Option TableSchema → Type 0
IsFirstBuilding catalog o = option_map (λ (d : TableSchema). (d.name, d)) o
    ≡ find (λ e. builds e.1) (map.entries catalog)

-- it stands under its own name
pub record IsBuilding (catalog : Texts TableSchema) (d : TableSchema) : Type 0 where
  pub there : map.get catalog d.name ≡ Some d
  pub builds : builds d ≡ true
