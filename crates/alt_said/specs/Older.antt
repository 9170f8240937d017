-- The members of the older interface, as the machine has them.
use Rattle.alt_machine.specs.Refusals.{◌>>=◌}
use Rattle.std.specs.Prelude.{false, option_map, Some, Result, Ok}
use Rattle.serde_json.specs.Data.{Members}
use Rattle.alt_machine.specs.Older as machine
use Rattle.alt_legacy.specs.declared.fault.LegacyFault.{LegacyFault}
use Rattle.alt_legacy.specs.declared.fault.LegacyFault.TheVariants as fault
use Rattle.alt_legacy.specs.Trees.{condition_in, update_in, paths_in}
use Rattle.alt_legacy.specs.declared.reading.Form.TheVariants.{Filter}
use Rattle.alt_machine.specs.declared.Expressions.{Expressions}
use Rattle.alt_said.specs.declared.older.Older.{Older}
use Rattle.alt_said.specs.declared.stop.Stop.{Stop}
use Rattle.alt_said.specs.declared.stop.Stop.TheVariants.{Refused, Fault}
use Rattle.alt_shape.specs.Refusals.{Answer, bad_legacy_parameter, bad_key_condition}
use Rattle.alt_tables.specs.DeclaredTableFault.TheVariants.{NoMemory}

-- the members that stand in the place of expressions
abbrev pub older_of : Older → machine.Older
older_of older = record {
  keys = option_map (λ w. w.now) older.keys;
  condition = option_map (λ w. w.now) older.condition;
  form = older.form;
  update = option_map (λ w. w.now) older.update;
  names = option_map (λ w. w.now) older.names;
}

-- a request stops for a member that isn't of its form by the refusal, or for want of memory
abbrev pub stop_of : LegacyFault → Stop
stop_of fault.Bad = Refused bad_legacy_parameter
stop_of fault.NotKey = Refused bad_key_condition
stop_of fault.NoMemory = Fault NoMemory

-- what the members say, each in the place of its expression; the machine says the same (`older_said`)
abbrev pub all_older : machine.Older → Members → Result Expressions Answer
all_older older ms = do
  keys ← machine.said_by (condition_in Filter false) (machine.older_at older.keys ms)
  condition ← machine.said_by (condition_in older.form (machine.is_any ms))
      (machine.older_at older.condition ms)
  update ← machine.said_by (λ d. option_map machine.some_actions (update_in d))
      (machine.older_at older.update ms)
  projection ← machine.said_by (λ d. option_map Some (paths_in d))
      (machine.older_at older.names ms)
  Ok (record {
    key_condition = keys;
    condition = condition;
    update = update;
    projection = projection;
  })
