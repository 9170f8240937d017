-- The write of an UpdateTable leads from a valid state to a valid one.
use Rattle.std.proofs.Common.{◌≡◌, ◌≢◌, refl, ℕ, ◌+◌, ◌<◌, ◌≤◌, Bool, true, false, ◌&&◌, is_some, List, [], ◌∷◌, Option, Some, None, inl, inr, arith}
use Rattle.std.specs.FinMap as map
use Rattle.std.specs.List.{list_all, list_any}
use Rattle.std.specs.Prelude.{codes, if◌then◌else◌}
use Rattle.std.proofs.lemmas.List.Elements.{All-weaker}
use Rattle.std.specs.Cmp.{first_so, second_so}
use Rattle.serde_json.specs.Data.{Members}
use Rattle.alt_schema.specs.Rules.{is_name}
use Rattle.alt_schema.specs.Stated.{definitions_of}
use Rattle.alt_schema.specs.declared.schema.KeyAttr.{KeyAttr}
use Rattle.alt_schema.specs.declared.schema.TableSchema.{TableSchema}
use Rattle.alt_schema.specs.declared.stated.StatedIndex.{StatedIndex}
use Rattle.alt_shape.specs.Bodies as bodies
use Rattle.alt_shape.specs.Refusals.{bad_index, bad_index_update, bad_key_schema, bad_name, no_such_index}
use Rattle.alt_machine.specs.declared.TheConstants.{NUMBERS_END, FAMILIES_END}
use Rattle.alt_schema.specs.Altered.{definitions_fit, indexes_fit_with, is_none_of, keys_fit_with, with_index, without_index}
use Rattle.alt_machine.specs.Building.{building_in}
use Rattle.alt_machine.specs.Members.{may_name, table_name}
use Rattle.alt_machine.specs.Ops.UpdateTable.{acts, altered, altered_by, alters, are_keys_good, are_single, changes, comes_early, coming, described, family_after, going, changed_index_names_fit, of_body, of_indexes, state_altered, update_table, wanted_for, with_description}
use Rattle.alt_machine.specs.Body.{of_shape}
use Rattle.alt_machine.specs.Outcomes.{says}
use Rattle.alt_machine.specs.Refusals.{first_answer, refuse_if, refuse_unless}
use Rattle.alt_machine.specs.State.{State, Table, families_of}
use Rattle.alt_machine.specs.Valid.{IsTable, IsValid}
use Rattle.alt_machine.specs.Wanted.{lack_of}
use Rattle.alt_machine.proofs.Added.{alike_added, differ_added, families_added, made_added, own_added}
use Rattle.alt_machine.proofs.Chains.{Steps, no_steps, one_step, steps-unless}
use Rattle.alt_machine.proofs.Lacks.{index_room, number_room}
use Rattle.alt_machine.proofs.Redescribed.{with_description_valid}
use Rattle.alt_machine.proofs.Removed.{alike_removed, differ_removed, families_removed, made_removed, own_removed}
use Rattle.alt_machine.proofs.Targets.{IsTarget, steps-on_table}
use Rattle.alt_machine.proofs.Tests.{if_fails, rest_none, unless_holds}

module _ (s : State) (name : List ℕ) (t : Table) (v : IsValid s)
    (there : map.get s.tables name ≡ Some t) (more : List KeyAttr) where
  abbrev d : TableSchema
  d = t.description

  is_table : IsTable s name t
  is_table = v.tables name t there

  -- with an index more
  added_valid : (i : StatedIndex) → (s.next_number < NUMBERS_END) × (s.next_family < FAMILIES_END)
      → keys_fit_with d more i ≡ true → indexes_fit_with d more i ≡ true → is_name i.name ≡ true
      → building_in d ≡ None
      → IsValid (with_description s name t (with_index d more s.next_family i) (s.next_family + 1))
  added_valid i room good fit named none =
      let f : ℕ = s.next_family in
      with_description_valid s name t (with_index d more f i) (f + 1) v room.0 there (omega arith)
      (omega (arith, room.1)) (alike_added d more f i)
      (made_added d more f i is_table.made good fit named none)
      (families_added d more f i (λ g. (1 ≤ g) × (g < f + 1)) (v.next_family.0, omega arith)
      (All-weaker (λ g. (1 ≤ g) × (g < f)) (λ g. (1 ≤ g) × (g < f + 1))
      (λ g low. (low.0, omega (arith, low.1))) (families_of d) is_table.families))
      (differ_added d more f i
      (All-weaker (λ g. (1 ≤ g) × (g < f)) (λ g. g ≢ f) (λ g low same. omega (arith, low.1, same))
      (families_of d) is_table.families) is_table.differ)
      (λ g at. elim (own_added d more f i g at) [
        | inl was ↦ inl was
        | inr new ↦ inr (omega (arith, new))
      ])

  -- with one less
  removed_valid : (gone : List ℕ) → s.next_number < NUMBERS_END
      → IsValid (with_description s name t (without_index d gone) s.next_family)
  removed_valid gone room =
      with_description_valid s name t (without_index d gone) s.next_family v room there (omega arith)
      v.next_family.1 (alike_removed d gone) (made_removed d gone is_table.made)
      (families_removed d gone (λ g. (1 ≤ g) × (g < s.next_family)) is_table.families)
      (differ_removed d gone is_table.differ) (λ g at. inl (own_removed d gone g at))

  -- and as it is
  same_valid : s.next_number < NUMBERS_END → IsValid (with_description s name t d s.next_family)
  same_valid room =
      with_description_valid s name t d s.next_family v room there (omega arith) v.next_family.1
      (record { name = refl; hash = refl; range = refl; stream = refl; number = refl })
      is_table.made is_table.families is_table.differ (λ g at. inl at)

  -- nothing is found
  none_is : {A : Type 0} (o : Option A) → is_some o ≡ false → o ≡ None
  none_is None e = refl
  none_is (Some x) e = absurd (let f : ⊥ = cc in f)

  -- whatever comes or goes, where nothing refuses it and nothing is lacked
  altered_valid : (cs : List StatedIndex) (ns : List (List ℕ))
      → list_all (λ i. is_name i.name) cs ≡ true → list_all (keys_fit_with d more) cs ≡ true
      → list_all (indexes_fit_with d more) cs ≡ true → comes_early d cs ≡ false
      → lack_of (wanted_for cs) s ≡ None
      → IsValid (with_description s name t (altered_by d more s.next_family cs ns)
      (family_after s.next_family cs))
  altered_valid (i ∷ is) ns named good fit early enough = added_valid i (index_room s enough)
      (first_so (keys_fit_with d more i) _ good) (first_so (indexes_fit_with d more i) _ fit)
      (first_so (is_name i.name) _ named) (none_is (building_in d) early)
  altered_valid [] (gone ∷ ns) named good fit early enough = removed_valid gone (number_room s enough)
  altered_valid [] [] named good fit early enough = same_valid (number_room s enough)

-- what a body that isn't refused names has good names
names_good : (ms : Members) → first_answer (of_body ms) ≡ None → changed_index_names_fit ms ≡ true
names_good ms free =
    let shaped = rest_none (of_shape (bodies.update_table ms)) _ free in
    let single = unless_holds (are_single ms) bad_index_update _ shaped.1 in
    second_so (may_name ms (codes "TableName")) _
    (unless_holds (may_name ms (codes "TableName") && changed_index_names_fit ms) bad_name [] single.1).0

module _ (s : State) (ms : Members) (t : Table) (target : IsTarget (of_body ms) s ms t)
    (free : first_answer (of_indexes t.description ms) ≡ None) where
  gone : first_answer (refuse_unless (are_keys_good t.description ms) bad_key_schema
      ∷ refuse_unless (list_all (indexes_fit_with t.description (definitions_of ms)) (coming ms)) bad_index
      ∷ refuse_if (comes_early t.description (coming ms)) bad_index_update ∷ []) ≡ None
  gone = (if_fails (list_any (is_none_of t.description) (going ms)) no_such_index _ free).1

  keys_pass : (are_keys_good t.description ms ≡ true)
      × (first_answer (refuse_unless (list_all (indexes_fit_with t.description (definitions_of ms))
      (coming ms)) bad_index
      ∷ refuse_if (comes_early t.description (coming ms)) bad_index_update ∷ []) ≡ None)
  keys_pass = unless_holds (are_keys_good t.description ms) bad_key_schema _ gone

  indexes_pass : (list_all (indexes_fit_with t.description (definitions_of ms)) (coming ms) ≡ true)
      × (first_answer (refuse_if (comes_early t.description (coming ms)) bad_index_update ∷ []) ≡ None)
  indexes_pass = unless_holds
      (list_all (indexes_fit_with t.description (definitions_of ms)) (coming ms)) bad_index _
      keys_pass.1

  -- the state then is valid
  state_valid : IsValid s → lack_of (wanted_for (coming ms)) s ≡ None
      → IsValid (state_altered s ms t)
  state_valid v enough = altered_valid s (table_name ms) t v target.there (definitions_of ms)
      (coming ms) (going ms)
      (first_so (list_all (λ (i : StatedIndex). is_name i.name) (coming ms)) _
      (names_good ms target.body))
      (second_so (definitions_fit t.description (altered t.description ms 0) (definitions_of ms)) _
      keys_pass.0)
      indexes_pass.0
      (if_fails (comes_early t.description (coming ms)) bad_index_update [] indexes_pass.1).0 enough

  alter_steps : Steps s (alters s ms t)
  alter_steps = by (list_any acts (changes ms))
    where
      by : (b : Bool) → Steps s (if b then record {
        answer = described (altered t.description ms s.next_family) (codes "UPDATING");
        atoms = state_altered s ms t ∷ [];
        wants = wanted_for (coming ms);
      }
          else says (described t.description (codes "ACTIVE")))
      by true = one_step (wanted_for (coming ms)) s (state_altered s ms t) state_valid
      by false = no_steps _ s

-- the write of an UpdateTable leads from a valid state to a valid one
pub update_table_steps : (s : State) (ms : Members) → Steps s (update_table s ms)
unfolding update_table
update_table_steps s ms = steps-on_table s (of_body ms) ms _ (λ t target.
    steps-unless s (of_indexes t.description ms) (alters s ms t)
    (λ free. alter_steps s ms t target free))
