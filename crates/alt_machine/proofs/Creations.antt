-- A CreateTable leads from a valid state to a valid one.
use Rattle.std.proofs.Common.{◌≡◌, refl, ℕ, ◌<◌, nat_le, false, Option, Some, None, [], ◌∷◌}
use Rattle.std.proofs.lemmas.Bool.{leb-false}
use Rattle.std.specs.FinMap as map
use Rattle.serde_json.specs.Data.{Members}
use Rattle.alt_machine.specs.declared.TheConstants.{MOST_TABLES}
use Rattle.alt_machine.specs.Members.{table_name}
use Rattle.alt_machine.specs.Ops.CreateTable.{of_body, of_tables, creates, create_table, with_table}
use Rattle.alt_machine.specs.Outcomes.{unless_refused, a_table}
use Rattle.alt_machine.specs.Refusals.{first_answer, refuse_if, refuse_by}
use Rattle.alt_machine.specs.State.{State}
use Rattle.alt_machine.proofs.Chains.{Steps, steps-unless, one_step}
use Rattle.alt_machine.proofs.Lacks.{table_room}
use Rattle.alt_machine.proofs.Made.{made_number, made_family, made_new, made_is}
use Rattle.alt_machine.proofs.States.{with_table_valid}
use Rattle.alt_machine.proofs.Tests.{rest_none, if_fails}
use Rattle.alt_schema.specs.Described.{description_of}
use Rattle.alt_schema.specs.Rules.{create_table_refusal}
use Rattle.alt_shape.specs.Refusals.{table_exists, too_many_tables}
use Rattle.alt_shape.specs.declared.refusal.Refusal.{Refusal}

-- where a refusal answers nothing there is none
not_refused : (o : Option Refusal) → refuse_by o ≡ None → o ≡ None
not_refused None e = refl
not_refused (Some r) e = absurd (let f : ⊥ = cc in f)

module _ (s : State) (ms : Members) (free : first_answer (of_tables s ms) ≡ None) where
  -- what holds where the tables refuse nothing
  schema_taken : (create_table_refusal ms ≡ None) × (first_answer
      (refuse_if (map.contains_key s.tables (table_name ms))
      table_exists ∷ refuse_if (nat_le MOST_TABLES (map.len s.tables)) too_many_tables ∷ []) ≡ None)
  schema_taken = let front = rest_none (refuse_by (create_table_refusal ms)) _ free in
      (not_refused (create_table_refusal ms) front.0, front.1)

  -- nothing of names, keys and indexes is refused
  pub is_taken : create_table_refusal ms ≡ None
  is_taken = schema_taken.0

  -- what the tests of a CreateTable tell: the name is free, and there is room for a table
  room_test : (map.contains_key s.tables (table_name ms) ≡ false)
      × (first_answer (refuse_if (nat_le MOST_TABLES (map.len s.tables)) too_many_tables ∷ [])
      ≡ None)
  room_test = if_fails (map.contains_key s.tables (table_name ms)) table_exists _ schema_taken.1

  -- no table has the name
  pub is_absent : map.contains_key s.tables (table_name ms) ≡ false
  is_absent = room_test.0

  -- there are fewer tables than there may be
  pub has_room : map.len s.tables < MOST_TABLES
  has_room = leb-false MOST_TABLES (map.len s.tables)
      (if_fails (nat_le MOST_TABLES (map.len s.tables)) too_many_tables _ room_test.1).0

-- each write of a CreateTable leads from a valid state to a valid one
pub create_steps : (s : State) (moment : ℕ) (ms : Members) → Steps s (create_table s moment ms)
unfolding create_table
create_steps s moment ms =
    steps-unless s (of_body ms) (unless_refused (of_tables s ms)
    (creates s (description_of ms moment s.next_number s.next_family))) (λ body.
    steps-unless s (of_tables s ms) (creates s
    (description_of ms moment s.next_number s.next_family)) (λ free.
    one_step a_table s (with_table s (description_of ms moment s.next_number s.next_family))
    (λ v enough.
    with_table_valid s (description_of ms moment s.next_number s.next_family) v
    (made_is ms moment s.next_number s.next_family (is_taken s ms free))
    (made_new ms moment s.next_number s.next_family (is_taken s ms free))
    (made_number ms moment s.next_number s.next_family)
    (made_family ms moment s.next_number s.next_family)
    (has_room s ms free) (table_room s enough))))
