-- A batch that is refused, and one whose members are known.
use Rattle.std.proofs.Common.{ℕ, ◌≡◌, sym, ap, subst, ◌∙◌, Result, Ok, Err}
use Rattle.std.specs.Result.{IsErr, IsErrAnd}
use Rattle.alt_disk.specs.Disk.{DiskState}
use Rattle.alt_machine.specs.Outcomes.{Outcome, with_found}
use Rattle.alt_machine.specs.State.{State, Texts, descriptions}
use Rattle.alt_machine.proofs.Tests.{found, missed}
use Rattle.alt_request.specs.Carried.{Carries, IfFailed}
use Rattle.alt_request.specs.Steps.{Comes}
use Rattle.alt_request.specs.declared.stop.Stop.{Stop}
use Rattle.alt_request.specs.declared.stop.Stop.TheVariants.{Refused, Fault}
use Rattle.alt_request.proofs.Carrying.{refused_so, faulted}
use Rattle.alt_request.proofs.Moving.{unfailed_fault}
use Rattle.alt_request.proofs.Reaching.{err_is}
use Rattle.alt_schema.specs.declared.schema.TableSchema.{TableSchema}
use Rattle.alt_shape.specs.Refusals.{Answer, refused}
use Rattle.alt_shape.specs.declared.refusal.Reply.{Reply}
use Rattle.alt_request.specs.TablesStands.{Stands, catalog_of}
use Rattle.alt_request.specs.TablesDeclaredTables.{Tables}

-- what is asked for was refused, or memory was wanting for it: no failure of the device
pub asked_unfailed : {A X : Type 0} (P : Type 0) (of : X → A) (r : Result A Answer) (stop : Stop)
    → Comes of r (Err stop) → IfFailed (Err stop) P
asked_unfailed P of r (Refused q) h = tt
asked_unfailed P of r (Fault f) h = unfailed_fault f P h

module _ {A X : Type 0} (disk : DiskState) (tables : Tables) (of : X → A)
    (asked : Texts TableSchema → Result A Answer) (outcome : State → Outcome)
    (go : State → A → Outcome)
    (is : (s : State) → outcome s ≡ with_found (asked (descriptions s.tables)) (go s)) where
  -- a batch whose members the tables refuse changes nothing, and is answered by that refusal
  asked_stopped : {file : ℕ} (now : State → Type 0) (stop : Stop)
      → Comes of (asked (catalog_of tables)) (Err stop)
      → ((s : State) → Stands disk tables s → now s)
      → Carries file outcome (Stands disk tables) now (Err stop)
  asked_stopped now (Refused r) h stays = refused_so outcome (Stands disk tables) now r h.1
      (λ s stands. is s ∙ missed (asked (descriptions s.tables)) (go s) (refused r)
      (ap asked (sym stands.catalog) ∙ h.0)) stays
  asked_stopped now (Fault f) h stays = faulted outcome (Stands disk tables) now f h stays

  -- the same, where the refusal comes through a result that was passed on
  pub asked_passed : {file : ℕ} (now : State → Type 0) (r : Result Reply Stop) (stop : Stop)
      → IsErr r × IsErrAnd r (λ e. e ≡ stop) → Comes of (asked (catalog_of tables)) (Err stop)
      → ((s : State) → Stands disk tables s → now s) → Carries file outcome (Stands disk tables) now r
  asked_passed {file = file} now r stop same h stays = subst (Carries file outcome (Stands disk tables) now)
      (sym (err_is r stop same)) (asked_stopped now stop h stays)

  -- a batch whose members are known comes to what its run makes of them
  pub asked_is : (x : X) → Comes of (asked (catalog_of tables)) (Ok x) → (s : State)
      → Stands disk tables s → outcome s ≡ go s (of x)
  asked_is x h s stands = is s ∙ found (asked (descriptions s.tables)) (go s) (of x)
      (ap asked (sym stands.catalog) ∙ h)
