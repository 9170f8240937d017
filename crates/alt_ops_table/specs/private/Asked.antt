-- What comes of the tests of a CreateTable.
use Rattle.std.specs.Prelude.{◌≡◌, ℕ, ◌<◌, None, Result, Ok, Err}
use Rattle.std.specs.FinMap as map
use Rattle.serde_json.specs.Data.{Members}
use Rattle.alt_machine.specs.declared.TheConstants.{MOST_TABLES}
use Rattle.alt_machine.specs.Ops.CreateTable.{of_body, create_table}
use Rattle.alt_machine.specs.Outcomes.{refuses}
use Rattle.alt_machine.specs.Refusals.{first_answer}
use Rattle.alt_machine.specs.State.{State, descriptions}
use Rattle.alt_machine.specs.Wanted.{table_lack}
use Rattle.alt_request.specs.declared.stop.Stop.{Stop}
use Rattle.alt_request.specs.declared.stop.Stop.TheVariants.{Refused, Fault}
use Rattle.alt_schema.specs.Described.{IsNew, description_of}
use Rattle.alt_schema.specs.Rules.{create_table_refusal}
use Rattle.alt_schema.specs.declared.schema.TableSchema.{TableSchema}
use Rattle.alt_shape.specs.Refusals.{IsKnown}
use Rattle.alt_request.specs.TablesFaults.{IsReadFault}
use Rattle.alt_request.specs.TablesStands.{catalog_of, next_write_of_tables, next_family_of_tables}
use Rattle.alt_request.specs.TablesDeclaredTables.{Tables}

-- no refusal applies, and that is the table to be made, of the next family where there is room for one
pub record IsToBeMade (tables : Tables) (moment : ℕ) (ms : Members) (d : TableSchema) : Type 0 where
  pub body : first_answer (of_body ms) ≡ None
  pub taken : create_table_refusal ms ≡ None
  pub absent : map.get (catalog_of tables) d.name ≡ None
  pub few : map.len (catalog_of tables) < MOST_TABLES
  pub new : IsNew d
  pub family : ℕ
  pub is : d ≡ description_of ms moment (next_write_of_tables tables) family
  pub next : table_lack (next_write_of_tables tables) (next_family_of_tables tables) ≡ None → family ≡ next_family_of_tables tables

-- That is so; or the machine refuses the request too.
abbrev pub IsToBeMadeOrRefused : Tables → ℕ → Members → Result TableSchema Stop → Type 0
IsToBeMadeOrRefused tables moment ms (Ok d) = IsToBeMade tables moment ms d
IsToBeMadeOrRefused tables moment ms (Err (Refused r)) = IsKnown r
    × ((s : State) → descriptions s.tables ≡ catalog_of tables
    → create_table s moment ms ≡ refuses r)
IsToBeMadeOrRefused tables moment ms (Err (Fault f)) = IsReadFault f
