-- What a request comes to where its refusals are told.
use Rattle.std.specs.Prelude.{◌≡◌, ℕ, Result, Ok, Err}
use Rattle.alt_machine.specs.Outcomes.{Outcome}
use Rattle.alt_machine.specs.State.{State}
use Rattle.alt_request.specs.Carried.{IsAnswered}
use Rattle.alt_request.specs.declared.stop.Stop.{Stop}
use Rattle.alt_request.specs.declared.stop.Stop.TheVariants.{Refused, Fault}
use Rattle.alt_shape.specs.Refusals.{answer_of, refused}
use Rattle.alt_shape.specs.declared.refusal.Reply.{Reply}
use Rattle.alt_request.specs.TablesFaults.{BreakOff}
use Rattle.alt_request.specs.TablesDeclaredTableFault.{TableFault}
use Rattle.alt_request.specs.TablesDeclaredTableFault.TheVariants.{NoMemory}

-- A reply is the outcome's answer, and the tables then stand for the state after its last write; after a fault its writes broke off.
abbrev pub Settles : ℕ → (State → Type 0) → State → Outcome → Result Reply TableFault → Type 0
Settles file now s outcome (Ok reply) = IsAnswered now s outcome (answer_of reply)
Settles file now s outcome (Err fault) = BreakOff file now outcome.wants s outcome.atoms fault

-- A reply is told as it is, a refusal by the reply that tells it, where there is memory for one, and a fault is passed on.
abbrev pub TellsReply : Result Reply Stop → Result Reply TableFault → Type 0
TellsReply (Ok reply) told = told ≡ Ok reply
TellsReply (Err (Refused r)) (Ok reply) = answer_of reply ≡ refused r
TellsReply (Err (Refused r)) (Err fault) = fault ≡ NoMemory
TellsReply (Err (Fault f)) told = told ≡ Err f
