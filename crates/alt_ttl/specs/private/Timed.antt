-- What comes of the tests of an UpdateTimeToLive.
use Rattle.std.specs.Prelude.{◌≡◌, false, Some, None, Result, Ok, Err}
use Rattle.std.specs.FinMap as map
use Rattle.serde_json.specs.Data.{Members}
use Rattle.alt_machine.specs.Members.{table_name}
use Rattle.alt_machine.specs.Ops.UpdateTimeToLive.{is_barred, of_body, update_time_to_live}
use Rattle.alt_machine.specs.Outcomes.{refuses}
use Rattle.alt_machine.specs.Refusals.{first_answer}
use Rattle.alt_machine.specs.State.{State, Texts, descriptions}
use Rattle.alt_request.specs.declared.stop.Stop.{Stop}
use Rattle.alt_request.specs.declared.stop.Stop.TheVariants.{Refused, Fault}
use Rattle.alt_schema.specs.declared.schema.TableSchema.{TableSchema}
use Rattle.alt_shape.specs.Refusals.{IsKnown}
use Rattle.alt_request.specs.TablesFaults.{IsReadFault}

-- no refusal applies, and the table is there
pub record MayBeTimed (catalog : Texts TableSchema) (ms : Members) : Type 0 where
  pub body : first_answer (of_body ms) ≡ None
  pub description : TableSchema
  pub there : map.get catalog (table_name ms) ≡ Some description
  pub free : is_barred ms description ≡ false

-- That is so; or the machine refuses the request too.
abbrev pub IsTimed : {X : Type 0} → Texts TableSchema → Members → Result X Stop → Type 0
IsTimed catalog ms (Ok x) = MayBeTimed catalog ms
IsTimed catalog ms (Err (Refused r)) = IsKnown r
    × ((s : State) → descriptions s.tables ≡ catalog → update_time_to_live s ms ≡ refuses r)
IsTimed catalog ms (Err (Fault f)) = IsReadFault f
