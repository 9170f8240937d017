-- The contract of an operation.
use Rattle.std.specs.Prelude.{◌≡◌, ℕ, false, [], None, IsTrue, Result, Ok, Err}
use Rattle.alt_base.specs.Counts.{Rose}
use Rattle.alt_disk.specs.Disk.{DiskState, Goes}
use Rattle.alt_disk.specs.Runs.{Quiet}
use Rattle.alt_said.specs.TablesImages.{Leaves}
use Rattle.serde_json.specs.Written.{has_float}
use Rattle.alt_machine.specs.Outcomes.{Outcome, last_state}
use Rattle.alt_machine.specs.State.{State}
use Rattle.alt_machine.specs.Wanted.{wanted}
use Rattle.alt_said.specs.declared.stop.Stop.{Stop}
use Rattle.alt_said.specs.declared.stop.Stop.TheVariants.{Refused, Fault}
use Rattle.alt_shape.specs.Body.{body_json}
use Rattle.alt_shape.specs.Refusals.{Answer, answer_of, refused, IsKnown}
use Rattle.alt_shape.specs.declared.refusal.Refusal.{Refusal}
use Rattle.alt_shape.specs.declared.refusal.Reply.{Reply}
use Rattle.alt_faults.specs.Faults.{Outside}
use Rattle.alt_said.specs.TablesFaults.{BreakOff, WantsMemory, told_by_tables}
use Rattle.alt_said.specs.TablesDeclaredTableFault.{TableFault}
use Rattle.alt_said.specs.TablesDeclaredTableFault.TheVariants.{NoMemory}

-- Below, `old` and `now` say for which states the tables stand before and after a call, and `file` is the number of the first file that work
-- made before it.

-- The answer is that of the outcome, the tables stand for the state after its last write, and no write lacked a number or a family.
pub record IsAnswered (now : State → Type 0) (s : State) (outcome : Outcome)
    (answer : Answer) : Type 0 where
  pub reply : answer ≡ outcome.answer
  pub state : now (last_state s outcome.atoms)
  pub enough : wanted s outcome ≡ None

-- A refusal is the outcome's answer, and there is no write.
pub record OutcomeRefuses (now : State → Type 0) (s : State) (outcome : Outcome)
    (r : Refusal) : Type 0 where
  pub answered : IsAnswered now s outcome (refused r)
  pub unwritten : outcome.atoms ≡ []

-- A reply and a refusal are the outcome's answer; after a fault the writes broke off.
abbrev pub FollowsOutcome : ℕ → (State → Type 0) → State → Outcome → Result Reply Stop → Type 0
FollowsOutcome file now s outcome (Ok reply) = IsAnswered now s outcome (answer_of reply)
FollowsOutcome file now s outcome (Err (Refused r)) = OutcomeRefuses now s outcome r
FollowsOutcome file now s outcome (Err (Fault fault)) = BreakOff file now outcome.wants s outcome.atoms fault

-- No float stands in a reply, so its text is the compact one, and a refusal has a message.
abbrev pub IsPlainResult : Result Reply Stop → Type 0
IsPlainResult (Ok reply) = has_float (body_json reply.body) ≡ false
IsPlainResult (Err (Refused r)) = IsKnown r
IsPlainResult (Err (Fault fault)) = Unit {0}

-- A reply or a refusal is this answer, and no float stands in it; or memory was wanting for it.
abbrev pub SaysAnswer : Answer → Result Reply Stop → Type 0
SaysAnswer answer (Ok reply) = (answer_of reply ≡ answer) × (has_float (body_json reply.body) ≡ false)
SaysAnswer answer (Err (Refused r)) = (refused r ≡ answer) × IsKnown r
SaysAnswer answer (Err (Fault fault)) = fault ≡ NoMemory

-- A call carries a request out, which has this outcome in each state for which the tables stood.
pub record Carries (file : ℕ) (outcome : State → Outcome) (old now : State → Type 0)
    (result : Result Reply Stop) : Type 0 where
  pub does : (s : State) → old s → FollowsOutcome file now s (outcome s) result
  pub plain : IsPlainResult result

-- ---- the disk

-- of a refusal this holds, and so of a reply whose status tells one
abbrev pub IfRefused : Result Reply Stop → Type 0 → Type 0
IfRefused (Ok reply) P = reply.status ≡ 400 → P
IfRefused (Err (Refused r)) P = P
IfRefused (Err (Fault fault)) P = Unit {0}

-- of a failure of the device this holds
abbrev pub WhereFailed : TableFault → Type 0 → Type 0
WhereFailed fault P = Outside P (Unit {0}) (told_by_tables fault)

-- so of what stopped an operation
abbrev pub IfFailed : Result Reply Stop → Type 0 → Type 0
IfFailed (Ok reply) P = Unit {0}
IfFailed (Err (Refused r)) P = Unit {0}
IfFailed (Err (Fault fault)) P = WhereFailed fault P

-- of want of memory this holds
abbrev pub WhereWanting : TableFault → Type 0 → Type 0
WhereWanting fault P = Outside (Unit {0}) P (told_by_tables fault)

-- so of what stopped an operation
abbrev pub IfWanting : Result Reply Stop → Type 0 → Type 0
IfWanting (Ok reply) P = Unit {0}
IfWanting (Err (Refused r)) P = Unit {0}
IfWanting (Err (Fault fault)) P = WhereWanting fault P

-- What a call does to the disk that carries a request out, which has this outcome in each state for which the tables stood: it leaves
-- what the writes of the request leave, or the first of them; a refusal leaves every file, where the disk tells them; the device
-- failed only where the count of its faults rose; and where memory was wanting the disk stands for the state after some of the writes.
pub record Moves (outcome : State → Outcome) (old : State → Type 0) (before after : DiskState)
    (result : Result Reply Stop) : Type 0 where
  pub goes : Goes before after
  pub leaves : (s : State) → old s → Leaves before after s (outcome s).atoms
  pub refused : IfRefused result (IsTrue before.tells → Quiet before after)
  pub failed : IfFailed result (Rose before.faults after.faults)
  pub wanting : (s : State) → old s
      → IfWanting result (WantsMemory after (outcome s).wants s (outcome s).atoms)
