-- A valid state in which a table has another attribute for time to live, or none, is valid.
use Rattle.std.proofs.Common.{◌≡◌, refl, ℕ, ◌<◌, List, Option, Some, inl, arith}
use Rattle.std.specs.FinMap as map
use Rattle.serde_json.specs.Data.{Members}
use Rattle.alt_schema.specs.declared.schema.TableSchema.{TableSchema}
use Rattle.alt_schema.proofs.BareLaws.{timed_described}
use Rattle.alt_machine.specs.declared.TheConstants.{NUMBERS_END}
use Rattle.alt_machine.specs.Members.{table_name}
use Rattle.alt_machine.specs.Ops.DescribeTimeToLive as describe
use Rattle.alt_machine.specs.Ops.UpdateTimeToLive.{of_body, of_time, time_left, update_time_to_live, with_time}
use Rattle.alt_machine.specs.Outcomes.{a_number}
use Rattle.alt_machine.specs.State.{State, Table}
use Rattle.alt_machine.specs.Valid.{IsMade, IsTable, IsValid}
use Rattle.alt_machine.proofs.Chains.{Steps, no_steps, one_step, steps-unless}
use Rattle.alt_machine.proofs.Lacks.{number_room}
use Rattle.alt_machine.proofs.Redescribed.{IsAlike, keys_alike, with_description_valid}
use Rattle.alt_machine.proofs.Targets.{steps-on_table}

module _ (d : TableSchema) (ttl : Option (List ℕ)) where
  abbrev e : TableSchema
  e = record d { ttl = ttl }

  -- it is a description of the same table
  pub alike_same : IsAlike d e
  alike_same = record { name = refl; hash = refl; range = refl; stream = refl; number = refl }

  -- it is as it is made
  made_same : IsMade d → IsMade e
  made_same is = record {
    spelled = is.spelled;
    indexes_spelled = is.indexes_spelled;
    indexes_differ = is.indexes_differ;
    keys = is.keys;
    index_keys = is.index_keys;
    used = is.used;
    locals = is.locals;
    projections = is.projections;
    locals_few = is.locals_few;
    globals_few = is.globals_few;
    built = record {
      locals = is.built.locals;
      one = is.built.one;
      keys = keys_alike d e alike_same d.globals is.built.keys;
    };
    whole = timed_described d ttl is.whole;
  }

module _ (s : State) (name : List ℕ) (t : Table) (ttl : Option (List ℕ)) (v : IsValid s)
    (room : s.next_number < NUMBERS_END) (there : map.get s.tables name ≡ Some t) where
  -- a valid state stays valid with that table
  pub with_time_valid : IsValid (with_time s name t ttl)
  with_time_valid =
      let old : IsTable s name t = v.tables name t there in
      let d : TableSchema = t.description in
      with_description_valid s name t (record d { ttl = ttl }) s.next_family v room there (omega arith)
      v.next_family.1 (alike_same d ttl) (made_same d ttl old.made) old.families old.differ
      (λ f h. inl h)

-- the write of an UpdateTimeToLive leads from a valid state to a valid one
pub update_time_steps : (s : State) (ms : Members) → Steps s (update_time_to_live s ms)
unfolding update_time_to_live
update_time_steps s ms = steps-on_table s (of_body ms) ms _ (λ t target.
    steps-unless s (of_time ms t.description) _ (λ free.
    one_step a_number s (with_time s (table_name ms) t (time_left ms))
    (λ v enough. with_time_valid s (table_name ms) t (time_left ms) v (number_room s enough)
    target.there)))

-- a DescribeTimeToLive writes nothing
pub describe_time_steps : (s : State) (ms : Members)
    → Steps s (describe.describe_time_to_live s ms)
unfolding describe.describe_time_to_live
describe_time_steps s ms = steps-on_table s (describe.of_body ms) ms _ (λ t target. no_steps _ s)
