-- How a write of an item ends, behind the look-up of what is at its place: what it answers and leaves, and what it does to the disk.
use Rattle.std.proofs.Common.{◌≡◌, sym, ap, subst, ◌∙◌, ℕ, List, Option, Ok, Err}
use Rattle.std.specs.Result.{IsErrOf}
use Rattle.alt_base.specs.Counts.{Rose}
use Rattle.alt_disk.specs.Disk.{DiskState, Goes}
use Rattle.alt_machine.specs.Outcomes.{Outcome, a_number}
use Rattle.alt_machine.specs.State.{State, Table}
use Rattle.alt_machine.specs.Writes.{item_writes}
use Rattle.alt_request.specs.private.Decided.{Decision, leaves, comes_to, Decides, CarriesAndMoves}
use Rattle.alt_request.specs.declared.deciding.Decided.TheVariants.{Told, Left}
use Rattle.alt_said.specs.declared.stop.Stop.{Stop}
use Rattle.alt_said.specs.declared.stop.Stop.TheVariants.{Refused, Fault}
use Rattle.alt_request.proofs.Carrying.{refused_so, faulted, unfound, said, broke_off, wrote}
use Rattle.alt_request.proofs.Moving.{read_wants, reads_move, writes_move, failed_fault, unfailed_fault, unrefused, wanting_fault}
use Rattle.alt_shape.specs.Refusals.{answer_of}
use Rattle.alt_shape.specs.declared.refusal.Reply.{Reply}
use Rattle.alt_said.specs.TablesFaults.{AreMade, BreakOff, IsFindFault}
use Rattle.alt_said.specs.TablesImages.{Leaves}
use Rattle.alt_said.specs.TablesStands.{Stands, Reads}
use Rattle.alt_said.proofs.TablesLeft.{reads_then}
use Rattle.alt_said.specs.TablesDeclaredTableFault.{TableFault}
use Rattle.alt_said.specs.TablesDeclaredTableFault.TheVariants.{Failed, NoMemory}
use Rattle.alt_said.specs.TablesDeclaredTables.{Tables}
use Rattle.alt_value.specs.Tree.{Pair}

-- Calls that read led from `before` to `read`, and the tables stood for the same states there.
module _ (outcome : State → Outcome) (old now : State → Type 0) (tables : Tables)
    (before read : DiskState) (stood : (s : State) → old s → Stands before tables s)
    (reads : Reads before read) where
  -- what is there couldn't be read
  pub works_unfound : {A : Type 0} {file : ℕ} (f : TableFault) → ((s : State) → old s → IsFindFault f)
      → ((s : State) → old s → now s)
      → (IsErrOf {T = A} (Err f) Failed → Rose before.faults read.faults)
      → CarriesAndMoves file outcome old now before read (Err (Fault f))
  works_unfound f known stays cause = record {
    carries = unfound outcome old now f known stays;
    moves = reads_move outcome old tables before stood read (Err (Fault f)) reads
        (failed_fault f _ cause);
  }

  -- it was, and that was decided
  module _ (moment : ℕ) (name : List ℕ) (t : Table) (place : List ℕ) (d : Decision)
      (is : (s : State) → old s → outcome s ≡ comes_to s moment name t place d) where
    -- an answer without a write
    pub works_told : {file : ℕ} → ((s : State) → old s → now s) → (reply : Reply)
        → Decides d (Ok (Told reply)) → CarriesAndMoves file outcome old now before read (Ok reply)
    works_told stays reply h = record {
      carries = said outcome old now reply h.1
          (λ s o. is s o ∙ ap (comes_to s moment name t place) h.0) stays;
      moves = reads_move outcome old tables before stood read (Ok reply) reads tt;
    }

    -- a refusal, or want of memory
    pub works_stopped : {file : ℕ} → ((s : State) → old s → now s) → (stop : Stop)
        → Decides d (Err stop) → CarriesAndMoves file outcome old now before read (Err stop)
    works_stopped stays (Refused r) h = record {
      carries = refused_so outcome old now r h.1
          (λ s o. is s o ∙ ap (comes_to s moment name t place) h.0) stays;
      moves = reads_move outcome old tables before stood read (Err (Refused r)) reads tt;
    }
    works_stopped stays (Fault f) h = record {
      carries = faulted outcome old now f h stays;
      moves = reads_move outcome old tables before stood read (Err (Fault f)) reads
          (unfailed_fault f _ h);
    }

    -- something is left
    module _ (new : Option (List Pair)) (reply : Reply) (h : Decides d (Ok (Left new reply)))
        (after : DiskState) (goes : Goes read after)
        (left : (s : State) → old s → Leaves read after s (item_writes s moment name t place new))
      where
        comes : (s : State) → old s
            → outcome s ≡ comes_to s moment name t place (leaves new (answer_of reply))
        comes s o = is s o ∙ ap (comes_to s moment name t place) h.0

        leaves_so : (s : State) → old s → Leaves read after s (outcome s).atoms
        leaves_so s o = subst (λ (x : Outcome). Leaves read after s x.atoms) (sym (comes s o))
            (left s o)

        -- it was written
        pub works_wrote : {file : ℕ} → ((s : State) → old s
            → AreMade now a_number s (item_writes s moment name t place new))
            → reply.status ≡ 200 → CarriesAndMoves file outcome old now before after (Ok reply)
        works_wrote made well = record {
          carries = wrote outcome old now reply h.1 a_number
              (λ s o. (item_writes s moment name t place new, comes s o, made s o));
          moves = writes_move outcome old tables before stood read after (Ok reply) reads goes
              leaves_so (unrefused reply _ well) tt (λ s o. tt);
        }

        -- the write broke off
        pub works_broke : {A : Type 0} {file : ℕ} (f : TableFault) → ((s : State) → old s
            → BreakOff file now a_number s (item_writes s moment name t place new) f)
            → (IsErrOf {T = A} (Err f) Failed → Rose read.faults after.faults)
            → (IsErrOf {T = A} (Err f) NoMemory → Reads read after)
            → CarriesAndMoves file outcome old now before after (Err (Fault f))
        works_broke f broke cause unwritten = record {
          carries = broke_off outcome old now f a_number (λ s o. (
            item_writes s moment name t place new,
            answer_of reply,
            comes s o,
            broke s o,
          ));
          moves = writes_move outcome old tables before stood read after (Err (Fault f)) reads goes
              leaves_so tt (failed_fault f _ cause) (λ s o. wanting_fault f _ (λ none.
              read_wants before after tables s (outcome s).wants (outcome s).atoms
              (reads_then before read after reads (unwritten none)) (stood s o)));
        }
