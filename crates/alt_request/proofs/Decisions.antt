-- What a write comes to is what was decided, once it is known what is at its place.
use Rattle.std.proofs.Common.{◌≡◌, refl, sym, ap, subst, ◌∙◌, ℕ, Bool, true, false, List, Option, Some, None, Result, Ok, Err}
use Rattle.std.proofs.lemmas.Option.{same_Some}
use Rattle.std.specs.Prelude.{codes, if◌then◌else◌}
use Rattle.std.specs.FinMap as map
use Rattle.serde_json.specs.Data.{Members}
use Rattle.alt_disk.specs.Disk.{DiskState}
use Rattle.alt_machine.specs.Conditional.{meets_condition, asked, failed}
use Rattle.alt_machine.specs.declared.Expressions.{Expressions}
use Rattle.alt_machine.specs.Members.{table_name}
use Rattle.alt_machine.specs.Outcomes.{Outcome, says, writes, with_found}
use Rattle.alt_machine.specs.Replies.{item_answer}
use Rattle.alt_machine.specs.State.{State, Table}
use Rattle.alt_machine.specs.Writes.{item_writes}
use Rattle.alt_request.specs.private.Decided.{Decision, tells, leaves, left_or_told, decision, comes_to, Decides}
use Rattle.alt_request.specs.ItemWrites.{Writer, changes_item}
use Rattle.alt_request.specs.Steps.{Comes, IsMemory}
use Rattle.alt_said.specs.declared.stop.Stop.{Stop}
use Rattle.alt_said.specs.declared.stop.Stop.TheVariants.{Refused, Fault}
use Rattle.alt_schema.specs.declared.schema.TableSchema.{TableSchema}
use Rattle.alt_shape.specs.Refusals.{Answer}
use Rattle.alt_said.proofs.TablesStanding.{known}
use Rattle.alt_said.specs.TablesStands.{Stands, catalog_of}
use Rattle.alt_said.specs.TablesDeclaredTables.{Tables}
use Rattle.alt_value.specs.Tree.{Pair}

module _ (w : Writer) (s : State) (moment : ℕ) (ms : Members) (said : Expressions)
    (item : List Pair) (t : Table) (place : List ℕ) where
  abbrev at_place : Decision → Outcome
  at_place = comes_to s moment (table_name ms) t place

  abbrev shown : Option (List Pair) → Option (List Pair) → Answer
  shown old new = item_answer (codes "Attributes") (w.shows ms said old new)

  left_comes : (old : Option (List Pair)) (r : Result (Option (List Pair)) Answer)
      → with_found r (λ new.
      writes (item_writes s moment (table_name ms) t place new) (shown old new))
      ≡ at_place (left_or_told r (shown old))
  left_comes old (Ok new) = refl
  left_comes old (Err a) = refl

  judged_comes : (old : Option (List Pair)) (b : Bool)
      → (if b then with_found (w.leaves t.description said item old) (λ new.
      writes (item_writes s moment (table_name ms) t place new) (shown old new))
      else says (failed (asked (codes "ReturnValuesOnConditionCheckFailure") ms old)))
      ≡ at_place (if b then left_or_told (w.leaves t.description said item old) (shown old)
      else tells (failed (asked (codes "ReturnValuesOnConditionCheckFailure") ms old)))
  judged_comes old true = left_comes old (w.leaves t.description said item old)
  judged_comes old false = refl

  -- that is so of the description that the table has, and of what is there
  pub changes_come : (d : TableSchema) (old : Option (List Pair)) → d ≡ t.description
      → old ≡ map.get t.items place
      → changes_item w s moment ms said item t place ≡ at_place (decision w ms d said item old)
  changes_come d old same found =
      judged_comes (map.get t.items place) (meets_condition said.condition (map.get t.items place))
      ∙ (λ i. at_place (decision w ms (sym same i) said item (sym found i)))

-- what is left is what the operation leaves
pub decided_left : (w : Writer) (ms : Members) (d : TableSchema) (said : Expressions)
    (item : List Pair) (old new : Option (List Pair)) (a : Answer)
    → decision w ms d said item old ≡ leaves new a → w.leaves d said item old ≡ Ok new
decided_left w ms d said item old new a e = by_met (meets_condition said.condition old) e
  where
    by_left : (r : Result (Option (List Pair)) Answer) (answer : Option (List Pair) → Answer)
        → left_or_told r answer ≡ leaves new a → r ≡ Ok new
    by_left (Ok x) answer f = let same : x ≡ new = cc in λ i. Ok (same i)
    by_left (Err b) answer f = absurd (let g : ⊥ = cc in g)

    by_met : (b : Bool)
        → (if b then left_or_told (w.leaves d said item old)
        (λ new. item_answer (codes "Attributes") (w.shows ms said old new))
        else tells (failed (asked (codes "ReturnValuesOnConditionCheckFailure") ms old)))
        ≡ leaves new a → w.leaves d said item old ≡ Ok new
    by_met true f = by_left (w.leaves d said item old) _ f
    by_met false f = absurd (let g : ⊥ = cc in g)

-- and it is answered with the status 200
pub left_answered : (w : Writer) (ms : Members) (d : TableSchema) (said : Expressions)
    (item : List Pair) (old new : Option (List Pair)) (a : Answer)
    → decision w ms d said item old ≡ leaves new a → a.status ≡ 200
left_answered w ms d said item old new a e =
    by_met (meets_condition said.condition old) (w.leaves d said item old) e
  where
    shown_well : (o : Option (List Pair)) → (item_answer (codes "Attributes") o).status ≡ 200
    shown_well None = refl
    shown_well (Some i) = refl

    by_met : (b : Bool) (r : Result (Option (List Pair)) Answer)
        → (if b then left_or_told r
        (λ x. item_answer (codes "Attributes") (w.shows ms said old x))
        else tells (failed (asked (codes "ReturnValuesOnConditionCheckFailure") ms old)))
        ≡ leaves new a → a.status ≡ 200
    by_met true (Ok x) f =
        let same : item_answer (codes "Attributes") (w.shows ms said old x) ≡ a = cc in
        sym (ap (λ (b : Answer). b.status) same) ∙ shown_well (w.shows ms said old x)
    by_met true (Err b) f = absurd (let g : ⊥ = cc in g)
    by_met false r f = absurd (let g : ⊥ = cc in g)

-- ---- the steps of the decision

module _ (w : Writer) (ms : Members) (d : TableSchema) (said : Expressions) (item : List Pair)
    (old : Option (List Pair)) where
  -- where the condition holds, it is what the operation leaves
  pub met_so : true ≡ meets_condition said.condition old
      → decision w ms d said item old ≡ left_or_told (w.leaves d said item old)
      (λ new. item_answer (codes "Attributes") (w.shows ms said old new))
  met_so held = λ i. if sym held i then left_or_told (w.leaves d said item old)
      (λ new. item_answer (codes "Attributes") (w.shows ms said old new))
      else tells (failed (asked (codes "ReturnValuesOnConditionCheckFailure") ms old))

  -- where it doesn't, the refusal is told
  pub unmet_so : false ≡ meets_condition said.condition old
      → decision w ms d said item old
      ≡ tells (failed (asked (codes "ReturnValuesOnConditionCheckFailure") ms old))
  unmet_so failed_so = λ i. if sym failed_so i then left_or_told (w.leaves d said item old)
      (λ new. item_answer (codes "Attributes") (w.shows ms said old new))
      else tells (failed (asked (codes "ReturnValuesOnConditionCheckFailure") ms old))

-- the operation refuses it, or memory was wanting
pub decides_stop : (d : Decision) (r : Result (Option (List Pair)) Answer)
    (answer : Option (List Pair) → Answer) → d ≡ left_or_told r answer → (stop : Stop)
    → Comes {X = Option (List Pair)} (λ o. o) r (Err stop) → Decides d (Err stop)
decides_stop d r answer is (Refused q) h = (is ∙ ap (λ x. left_or_told x answer) h.0, h.1)
decides_stop d r answer is (Fault f) h = h

-- memory was wanting for the reply
pub decides_memory : (d : Decision) (stop : Stop) → IsMemory stop → Decides d (Err stop)
decides_memory d stop h = subst (λ e. Decides d (Err e)) (sym h) tt

-- something is left
pub decides_left : (d : Decision) (r : Result (Option (List Pair)) Answer)
    (answer : Option (List Pair) → Answer) → d ≡ left_or_told r answer
    → (new : Option (List Pair)) → r ≡ Ok new → (a : Answer) → a ≡ answer new → d ≡ leaves new a
decides_left d r answer is new e a told =
    is ∙ ap (λ x. left_or_told x answer) e ∙ ap (leaves new) (sym told)

-- ---- behind the look-up

-- what was decided of what was found in a table that stands is what the write comes to
pub comes_decided : (w : Writer) (s : State) (moment : ℕ) (ms : Members) (said : Expressions)
    (item : List Pair) (t : Table) (place : List ℕ) (d : TableSchema) (old : Option (List Pair))
    (disk : DiskState) (tables : Tables) (name at : List ℕ) → name ≡ table_name ms → at ≡ place
    → Some d ≡ map.get (catalog_of tables) name → Stands disk tables s
    → map.get s.tables name ≡ Some t → old ≡ map.get t.items at
    → changes_item w s moment ms said item t place
    ≡ comes_to s moment name t at (decision w ms d said item old)
comes_decided w s moment ms said item t place d old disk tables name at named placed schema stands
    there found =
    changes_come w s moment ms said item t place d old
    (same_Some d t.description (schema ∙ known disk tables s name t stands there))
    (found ∙ ap (map.get t.items) placed)
    ∙ (λ i. comes_to s moment (sym named i) t (sym placed i) (decision w ms d said item old))
