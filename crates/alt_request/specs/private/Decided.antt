-- What becomes of the request of a write, once it is known what is at its place, for private contracts.
use Rattle.std.specs.Prelude.{◌≡◌, ℕ, false, List, Option, Result, Ok, Err, codes, if◌then◌else◌}
use Rattle.serde_json.specs.Data.{Members}
use Rattle.serde_json.specs.Written.{has_float}
use Rattle.alt_machine.specs.Conditional.{meets_condition, asked, failed}
use Rattle.alt_machine.specs.declared.Expressions.{Expressions}
use Rattle.alt_machine.specs.Outcomes.{Outcome, says, writes}
use Rattle.alt_machine.specs.Replies.{item_answer}
use Rattle.alt_machine.specs.State.{State, Table}
use Rattle.alt_machine.specs.Writes.{item_writes}
use Rattle.alt_request.specs.Carried.{Carries, Moves}
use Rattle.alt_request.specs.ItemWrites.{Writer}
use Rattle.alt_request.specs.declared.deciding.Decided.{Decided}
use Rattle.alt_request.specs.declared.deciding.Decided.TheVariants.{Told, Left}
use Rattle.alt_said.specs.declared.stop.Stop.{Stop}
use Rattle.alt_said.specs.declared.stop.Stop.TheVariants.{Refused, Fault}
use Rattle.alt_disk.specs.Disk.{DiskState}
use Rattle.alt_schema.specs.declared.schema.TableSchema.{TableSchema}
use Rattle.alt_shape.specs.Body.{body_json}
use Rattle.alt_shape.specs.Refusals.{Answer, answer_of, refused, IsKnown}
use Rattle.alt_shape.specs.declared.refusal.Reply.{Reply}
use Rattle.alt_said.specs.TablesFaults.{IsReadFault}
use Rattle.alt_value.specs.Tree.{Pair}

-- an answer alone, or what is left at the place, and the answer
pub data Decision : Type 0 where
  tells : Answer → Decision
  leaves : Option (List Pair) → Answer → Decision

-- what is left with its answer, or the refusal
abbrev pub left_or_told : Result (Option (List Pair)) Answer → (Option (List Pair) → Answer)
    → Decision
left_or_told (Ok new) answer = leaves new (answer new)
left_or_told (Err refusal) answer = tells refusal

-- What is left where the condition holds of what is there, as the operation has it; else the refusal shows what is there where that is
-- asked for.
abbrev pub decision : Writer → Members → TableSchema → Expressions → List Pair → Option (List Pair)
    → Decision
decision w ms d said item old =
    if meets_condition said.condition old
    then left_or_told (w.leaves d said item old)
    (λ new. item_answer (codes "Attributes") (w.shows ms said old new))
    else tells (failed (asked (codes "ReturnValuesOnConditionCheckFailure") ms old))

-- what it comes to at a place of the table of that name
abbrev pub comes_to : State → ℕ → List ℕ → Table → List ℕ → Decision → Outcome
comes_to s moment name t place (tells answer) = says answer
comes_to s moment name t place (leaves new answer) =
    writes (item_writes s moment name t place new) answer

-- that was decided, and no float stands in the reply; or memory was wanting for it
abbrev pub Decides : Decision → Result Decided Stop → Type 0
Decides d (Ok (Told reply)) = (d ≡ tells (answer_of reply))
    × (has_float (body_json reply.body) ≡ false)
Decides d (Ok (Left new reply)) = (d ≡ leaves new (answer_of reply))
    × (has_float (body_json reply.body) ≡ false)
Decides d (Err (Refused r)) = (d ≡ tells (refused r)) × IsKnown r
Decides d (Err (Fault f)) = IsReadFault f

-- A call carries a request out and moves the disk, by this outcome in each state for which the tables stood.
pub record CarriesAndMoves (file : ℕ) (outcome : State → Outcome) (old now : State → Type 0) (before after : DiskState)
    (result : Result Reply Stop) : Type 0 where
  pub carries : Carries file outcome old now result
  pub moves : Moves outcome old before after result
