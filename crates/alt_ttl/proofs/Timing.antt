-- The refusals of an UpdateTimeToLive, step by step, and what it comes to.
use Rattle.std.proofs.Common.{◌≡◌, sym, ap, subst, ◌∙◌, ℕ, true, false, [], ◌∷◌, Option, Some, None, Bor, Result, Ok, Err, arith}
use Rattle.std.specs.Result.{IsErr, IsErrAnd}
use Rattle.std.specs.FinMap as map
use Rattle.serde_json.specs.Data.{Members}
use Rattle.alt_machine.specs.Body.{body_refusals}
use Rattle.alt_machine.specs.Members.{table_name}
use Rattle.alt_machine.specs.Ops.UpdateTimeToLive.{is_barred, of_body, of_time, rules, shape, time_left, time_said, update_time_to_live, with_time}
use Rattle.alt_machine.specs.Outcomes.{refuses, unless_refused, writes}
use Rattle.alt_machine.specs.Refusals.{first_answer, refuse_if}
use Rattle.alt_machine.specs.State.{State, Table, Texts, descriptions}
use Rattle.alt_machine.proofs.Targets.{table-target}
use Rattle.alt_request.specs.Carried.{Carries, IfFailed}
use Rattle.alt_request.specs.Targets.{OnTable}
use Rattle.alt_request.specs.declared.stop.Stop.{Stop}
use Rattle.alt_request.specs.declared.stop.Stop.TheVariants.{Refused, Fault}
use Rattle.alt_request.proofs.Carrying.{faulted, refused_so}
use Rattle.alt_request.proofs.Moving.{unfailed_fault}
use Rattle.alt_request.proofs.Named.{table_found}
use Rattle.alt_request.proofs.Reaching.{err_is}
use Rattle.alt_schema.specs.declared.schema.TableSchema.{TableSchema}
use Rattle.alt_shape.specs.Refusals.{bad_time_to_live}
use Rattle.alt_shape.specs.declared.rule.Broken.{Broken}
use Rattle.alt_ttl.specs.private.Timed.{IsTimed, MayBeTimed}

-- the tests of a table that is barred, or isn't
of_barred : (ms : Members) (d : TableSchema) (s : State) (t : Table) → t.description ≡ d
    → is_barred ms d ≡ true
    → unless_refused (of_time ms t.description)
    (writes (with_time s (table_name ms) t (time_left ms) ∷ []) (time_said ms))
    ≡ refuses bad_time_to_live
of_barred ms d s t same barred =
    ap (λ b. unless_refused (refuse_if b bad_time_to_live ∷ [])
    (writes (with_time s (table_name ms) t (time_left ms) ∷ []) (time_said ms)))
    (ap (is_barred ms) same ∙ barred)

of_free : (ms : Members) (d : TableSchema) (s : State) (t : Table) → t.description ≡ d
    → is_barred ms d ≡ false
    → unless_refused (of_time ms t.description)
    (writes (with_time s (table_name ms) t (time_left ms) ∷ []) (time_said ms))
    ≡ writes (with_time s (table_name ms) t (time_left ms) ∷ []) (time_said ms)
of_free ms d s t same free =
    ap (λ b. unless_refused (refuse_if b bad_time_to_live ∷ [])
    (writes (with_time s (table_name ms) t (time_left ms) ∷ []) (time_said ms)))
    (ap (is_barred ms) same ∙ free)

module _ (catalog : Texts TableSchema) (ms : Members) where
  -- the tests of a body with that fault in its shape, where it has that one, are those of the operation
  pub of_broken : (broken : Option Broken) → broken ≡ shape ms → (r : Result (Bor TableSchema) Stop)
      → OnTable (body_refusals broken rules ms) catalog ms r → OnTable (of_body ms) catalog ms r
  of_broken broken is r h = subst (λ b. OnTable (body_refusals b rules ms) catalog ms r) is h

  -- what it comes to in a table that is there
  at_table : (s : State) (t : Table) → first_answer (of_body ms) ≡ None
      → map.get s.tables (table_name ms) ≡ Some t → update_time_to_live s ms
      ≡ unless_refused (of_time ms t.description)
      (writes (with_time s (table_name ms) t (time_left ms) ∷ []) (time_said ms))
  unfolding update_time_to_live
  at_table s t body there = table-target (of_body ms) s ms
      (λ u. unless_refused (of_time ms u.description)
      (writes (with_time s (table_name ms) u (time_left ms) ∷ []) (time_said ms))) t
      (record { body = body; there = there })

  -- its table isn't reached
  stopped : (X : Type 0) (stop : Stop) → OnTable (of_body ms) catalog ms (Err stop)
      → IsTimed {X = X} catalog ms (Err stop)
  unfolding update_time_to_live
  stopped X (Refused r) h = (
    h.0,
    λ s same. h.1 s (λ t. unless_refused (of_time ms t.description)
        (writes (with_time s (table_name ms) t (time_left ms) ∷ []) (time_said ms))) same,
  )
  stopped X (Fault f) h = h

  -- as it is passed on
  pub time_stopped : {X : Type 0} (r : Result X Stop) (stop : Stop)
      → IsErr r × IsErrAnd r (λ e. e ≡ stop) → OnTable (of_body ms) catalog ms (Err stop)
      → IsTimed catalog ms r
  time_stopped {X = X} r stop is h = subst (IsTimed catalog ms) (sym (err_is r stop is))
      (stopped X stop h)

  -- it is, and that can't be done there
  pub time_barred : (X : Type 0) (d : Bor TableSchema) → OnTable (of_body ms) catalog ms (Ok d)
      → is_barred ms d.now ≡ true → IsTimed {X = X} catalog ms (Err (Refused bad_time_to_live))
  time_barred X d h barred = (
    omega arith,
    λ s same.
        let found = table_found s catalog same (table_name ms) d.now h.1 in
        at_table s found.0 h.0 found.1 ∙ of_barred ms d.now s found.0 found.2 barred,
  )

  -- or it can
  pub time_free : (d : Bor TableSchema) → OnTable (of_body ms) catalog ms (Ok d)
      → is_barred ms d.now ≡ false → MayBeTimed catalog ms
  time_free d h free = record { body = h.0; description = d.now; there = h.1; free = free }

  -- and then it is done
  pub time_reached : MayBeTimed catalog ms → (s : State) → descriptions s.tables ≡ catalog
      → (t : Table) × (map.get s.tables (table_name ms) ≡ Some t) × (update_time_to_live s ms
      ≡ writes (with_time s (table_name ms) t (time_left ms) ∷ []) (time_said ms))
  time_reached may s same =
      let found = table_found s catalog same (table_name ms) may.description may.there in (
        found.0,
        found.1,
        at_table s found.0 may.body found.1
            ∙ of_free ms may.description s found.0 found.2 may.free,
      )

-- where it is refused the state stays
pub untimed : (X : Type 0) {file : ℕ} (ms : Members) (old now : State → Type 0) (catalog : Texts TableSchema)
    → ((s : State) → old s → descriptions s.tables ≡ catalog) → (stop : Stop)
    → IsTimed {X = X} catalog ms (Err stop) → ((s : State) → old s → now s)
    → Carries file (λ s. update_time_to_live s ms) old now (Err stop)
untimed X ms old now catalog known (Refused r) h stays =
    refused_so (λ s. update_time_to_live s ms) old now r h.0 (λ s stands. h.1 s (known s stands))
    stays
untimed X ms old now catalog known (Fault f) h stays =
    faulted (λ s. update_time_to_live s ms) old now f h stays

-- the tests never fail
pub timed_unfailed : (X : Type 0) (P : Type 0) (catalog : Texts TableSchema) (ms : Members)
    (stop : Stop) → IsTimed {X = X} catalog ms (Err stop) → IfFailed (Err stop) P
timed_unfailed X P catalog ms (Refused r) h = tt
timed_unfailed X P catalog ms (Fault f) h = unfailed_fault f P h
