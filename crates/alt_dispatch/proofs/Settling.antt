-- What was carried out settles the request, once its refusal is told.
use Rattle.std.proofs.Common.{ℕ, ◌≡◌, sym, subst, ◌∙◌, Result, Ok, Err, OnOk}
use Rattle.std.specs.Prelude.{IfOk, IsErrOf}
use Rattle.alt_disk.specs.Disk.{DiskState}
use Rattle.alt_machine.specs.Outcomes.{Outcome, last_state}
use Rattle.alt_machine.specs.State.{State}
use Rattle.alt_machine.specs.Valid.{IsValid}
use Rattle.alt_dispatch.specs.Settled.{Settles, TellsReply}
use Rattle.alt_request.specs.Carried.{IsAnswered, OutcomeRefuses, FollowsOutcome, IfFailed, IfRefused, Moves, WhereFailed, WhereWanting}
use Rattle.alt_request.specs.declared.stop.Stop.{Stop}
use Rattle.alt_request.specs.declared.stop.Stop.TheVariants.{Refused, Fault}
use Rattle.alt_shape.specs.declared.refusal.Refusal.{Refusal}
use Rattle.alt_shape.specs.declared.refusal.Reply.{Reply}
use Rattle.alt_request.proofs.TablesBehind.{wants_none}
use Rattle.alt_request.proofs.TablesLeft.{reads_lasts}
use Rattle.alt_request.specs.TablesFaults.{WantsMemory}
use Rattle.alt_request.specs.TablesStands.{Stands}
use Rattle.alt_request.specs.TablesDeclaredTables.{Tables}
use Rattle.alt_request.specs.TablesDeclaredTableFault.{TableFault}
use Rattle.alt_request.specs.TablesDeclaredTableFault.TheVariants.{Failed, NoMemory}

module _ (file : ℕ) (now : State → Type 0) (s : State) (outcome : Outcome) where
  -- where the refusal isn't told for want of memory, nothing was written
  untold : (r : Refusal) → OutcomeRefuses now s outcome r → Settles file now s outcome (Err NoMemory)
  untold r h = tt

  -- what was carried out settles the request: its answer as it is, its refusal as it is told
  pub settled : (carried : Result Reply Stop) (told : Result Reply TableFault)
      → FollowsOutcome file now s outcome carried → TellsReply carried told → Settles file now s outcome told
  settled (Ok reply) told h is = subst (Settles file now s outcome) (sym is) h
  settled (Err (Refused r)) (Ok reply) h is = subst (IsAnswered now s outcome) (sym is) h.answered
  settled (Err (Refused r)) (Err fault) h is =
      subst (λ f. Settles file now s outcome (Err f)) (sym is) (untold r h)
  settled (Err (Fault f)) told h is = subst (Settles file now s outcome) (sym is) h

-- what the tables then stand for is valid
pub settled_valid : (file : ℕ) (now : State → Type 0) (s : State) (outcome : Outcome)
    (told : Result Reply TableFault) → ((r : State) → now r → IsValid r)
    → Settles file now s outcome told → OnOk told (IsValid (last_state s outcome.atoms))
settled_valid file now s outcome (Ok reply) valid h = valid (last_state s outcome.atoms) h.state
settled_valid file now s outcome (Err fault) valid h = tt

-- what holds of a refusal holds where it is told by a reply with the status 400
pub told_refused : (P : Type 0) (carried : Result Reply Stop) (told : Result Reply TableFault)
    → IfRefused carried P → TellsReply carried told → IfOk told (λ reply. reply.status ≡ 400 → P)
told_refused P (Ok reply) told h is =
    subst (λ r. IfOk r (λ reply. reply.status ≡ 400 → P)) (sym is) h
told_refused P (Err (Refused r)) (Ok reply) h is = λ status. h
told_refused P (Err (Refused r)) (Err fault) h is = tt
told_refused P (Err (Fault f)) told h is =
    subst (λ r. IfOk r (λ reply. reply.status ≡ 400 → P)) (sym is) tt

-- an answer tells that the device failed only where it did for the operation
pub told_failed : (P : Type 0) (carried : Result Reply Stop) (told : Result Reply TableFault)
    → IfFailed carried P → TellsReply carried told → IsErrOf told Failed → P
told_failed P (Ok reply) told h is e =
    absurd (let none : Ok reply ≡ Err Failed = sym is ∙ e in let g : ⊥ = cc in g)
told_failed P (Err (Refused r)) (Ok reply) h is e = absurd (let g : ⊥ = cc in g)
told_failed P (Err (Refused r)) (Err fault) h is e = absurd (let g : ⊥ = cc in g)
told_failed P (Err (Fault f)) told h is e =
    let so : Err f ≡ Err Failed = sym is ∙ e in
    subst (λ (g : TableFault). WhereFailed g P) (let same : f ≡ Failed = cc in same) h

-- where it tells that memory was wanting, the disk stands for the state after some of the writes: so it was for the operation, or the refusal wasn't
-- told for want of it
pub told_wants : (before after : DiskState) (tables : Tables) (s : State) (outcome : State → Outcome)
    → Stands before tables s → (carried : Result Reply Stop) (told : Result Reply TableFault)
    → Moves outcome (Stands before tables) before after carried → TellsReply carried told
    → IsErrOf told NoMemory → WantsMemory after (outcome s).wants s (outcome s).atoms
told_wants before after tables s outcome stands (Ok reply) told moves is e =
    absurd (let none : Ok reply ≡ Err NoMemory = sym is ∙ e in let g : ⊥ = cc in g)
told_wants before after tables s outcome stands (Err (Refused r)) (Ok reply) moves is e =
    absurd (let g : ⊥ = cc in g)
told_wants before after tables s outcome stands (Err (Refused r)) (Err fault) moves is e =
    wants_none after (outcome s).wants s (outcome s).atoms (reads_lasts before after tables s
    (record { goes = moves.goes; quiet = moves.refused }) stands)
told_wants before after tables s outcome stands (Err (Fault f)) told moves is e =
    let so : Err f ≡ Err NoMemory = sym is ∙ e in
    subst (λ (g : TableFault). WhereWanting g
    (WantsMemory after (outcome s).wants s (outcome s).atoms))
    (let same : f ≡ NoMemory = cc in same) (moves.wanting s stands)
