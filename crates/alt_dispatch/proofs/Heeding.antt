-- An operation that is carried out on what was found of a body, where that is enough, is one on the body.
use Rattle.std.proofs.Common.{◌≡◌, ℕ, Option, None, Result, Err, refl, sym, subst}
use Rattle.serde_json.specs.Data.{Members}
use Rattle.alt_disk.specs.Disk.{DiskState}
use Rattle.alt_machine.specs.Outcomes.{Outcome}
use Rattle.alt_machine.specs.State.{State}
use Rattle.alt_machine.specs.Step.{with_body}
use Rattle.alt_machine.specs.declared.Operation.{Operation}
use Rattle.alt_members.specs.Heeded.{Suffices}
use Rattle.alt_request.proofs.Carrying.{refused_so}
use Rattle.alt_request.specs.Carried.{Carries, Moves}
use Rattle.alt_request.specs.declared.stop.Stop.{Stop}
use Rattle.alt_request.specs.declared.stop.Stop.TheVariants.{Refused}
use Rattle.alt_shape.specs.Refusals.{unreadable}
use Rattle.alt_shape.specs.declared.refusal.Reply.{Reply}

module _ (op : Operation) (moment : ℕ) (body found : Option Members)
    (enough : Suffices op body found) where
  same : ◌≡◌ {A = State → Outcome} (λ s. with_body s op moment found)
      (λ s. with_body s op moment body)
  same = λ i s. sym (enough.comes s moment) i

  -- it carries out what the body asks for
  pub carries_on : {file : ℕ} (old now : State → Type 0) (r : Result Reply Stop)
      → Carries file (λ s. with_body s op moment found) old now r
      → Carries file (λ s. with_body s op moment body) old now r
  carries_on {file = file} old now r carried =
      subst (λ (outcome : State → Outcome). Carries file outcome old now r) same carried

  -- and does to the disk what that does
  pub moves_on : (old : State → Type 0) (before after : DiskState) (r : Result Reply Stop)
      → Moves (λ s. with_body s op moment found) old before after r
      → Moves (λ s. with_body s op moment body) old before after r
  moves_on old before after r moves =
      subst (λ (outcome : State → Outcome). Moves outcome old before after r) same moves

-- where nothing was found, the body can't be read
pub unread : {file : ℕ} (op : Operation) (moment : ℕ) (body : Option Members) → Suffices op body None
    → (stands : State → Type 0)
    → Carries file (λ s. with_body s op moment body) stands stands (Err (Refused unreadable))
unread op moment body enough stands =
    carries_on op moment body None enough stands stands (Err (Refused unreadable))
    (refused_so (λ s. with_body s op moment None) stands stands unreadable tt (λ s h. refl)
    (λ s h. h))
