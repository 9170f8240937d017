-- A request that was answered, and what follows it.
use Rattle.std.proofs.Common.{◌≡◌, ◌+◌, ◌*◌, ⊎_elim, ℕ, List, [], ◌∷◌, None, true, refl, arith}
use Rattle.alt_disk.specs.Disk.{DiskState}
use Rattle.alt_machine.specs.State.{State}
use Rattle.alt_machine.specs.Wanted.{wanted}
use Rattle.alt_shell.specs.Calls.{Adds, ShellCall}
use Rattle.alt_shell.specs.Log.{moments_of, said}
use Rattle.alt_tables.specs.Stands.{Stands}
use Rattle.alt_tables.specs.declared.tables.Tables.{Tables}
use Rattle.alt_tables.specs.FilesLeft.{most_files}
use Rattle.alt_talks.specs.Own.{FollowsNot, after_behind, own_behind}
use Rattle.alt_talks.specs.Runs.{Stretch, Leads}
use Rattle.alt_talks.specs.Works.{Follows}
use Rattle.alt_talks.specs.declared.fault.RunFault.{RunFault}
use Rattle.alt_talks.proofs.FileFaults.{file_more}
use Rattle.alt_talks.proofs.Owning.{answer_behind, enough_both}
use Rattle.alt_run.specs.private.Rungs.{ServesAtHand, BreaksAtHand, left_by_named_request}
use Rattle.alt_run.specs.Turns.{request, carried_out, outcome_by_name}
use Rattle.alt_run.proofs.TurnServing.{Begins, all_said, own_broke, turn_served, work_broke}

module _ (old mid done new : DiskState) (tables : Tables) (s : State) (name body : List ℕ) (m : ℕ)
    (bytes : List ℕ)
    (b : Begins old mid s (request name body) (carried_out s name body m) (m ∷ []))
    (stands : Stands mid tables (left_by_named_request s name body m))
    (call : ShellCall mid done true) (added : Adds mid done (said bytes))
    (n : moments_of done.beside ≡ moments_of mid.beside)
    (e : bytes ≡ (carried_out s name body m).text)
    (follows : Follows done new (left_by_named_request s name body m) (own_behind (left_by_named_request s name body m)).atoms)
    (enough : wanted s (outcome_by_name s name body m) ≡ None) where
  -- what follows it was done
  pub request_served : (after_it : Tables) → (own_behind (left_by_named_request s name body m)).lacks ≡ None
      → Stands new after_it (after_behind (left_by_named_request s name body m))
      → Leads old new after_it (ServesAtHand s (request name body ∷ []))
  request_served after_it own there =
      turn_served old mid done new tables s (request name body) (carried_out s name body m) (m ∷ [])
      bytes b stands call added n e follows after_it (enough_both _ _ enough own) there

  -- or it broke off
  pub request_broke : (fault : RunFault) (next : ℕ)
      → FollowsNot true next (own_behind (left_by_named_request s name body m)) fault
      → Stretch old new (BreaksAtHand fault next s (request name body ∷ []))
  request_broke fault next why = let behind = own_behind (left_by_named_request s name body m) in ⊎_elim
      (λ cause. own_broke old mid done new tables s (request name body) (carried_out s name body m)
      (m ∷ []) bytes b stands call added n e follows fault next refl refl
      (answer_behind next (wanted s (outcome_by_name s name body m)) behind.lacks behind.atoms fault enough
      cause))
      (λ work. work_broke old mid done new tables s (request name body) (carried_out s name body m)
      (m ∷ []) bytes b stands call added n e follows fault next (enough_both _ _ enough work.1)
      (file_more fault (next + most_files) (next + 1 * most_files) (omega arith) work.2)
      (all_said old mid done new tables s (request name body) (carried_out s name body m)
      (m ∷ []) bytes b stands call added n e follows))
      why
