-- An index that is built further behind a request, and the work behind that.
use Rattle.std.proofs.Common.{◌≡◌, ◌+◌, inl, inr, sym, ap, subst, ◌∙◌, ℕ, List, [], Bool, true, None, append-nil}
use Rattle.alt_disk.specs.Disk.{DiskState, Goes}
use Rattle.alt_machine.specs.Building.{build}
use Rattle.alt_machine.specs.Outcomes.{a_number, last_state}
use Rattle.alt_machine.specs.State.{State}
use Rattle.alt_machine.specs.Wanted.{lack_among}
use Rattle.alt_tables.specs.Faults.{BreakOff, told_by_tables}
use Rattle.alt_tables.specs.FilesLeft.{most_files}
use Rattle.alt_tables.specs.Images.{Leaves}
use Rattle.alt_tables.specs.Stands.{Stands}
use Rattle.alt_tables.specs.DeclaredTableFault.{TableFault}
use Rattle.alt_tables.specs.declared.tables.Tables.{Tables}
use Rattle.alt_talks.specs.Faults.{IsFileFault, told_by_run}
use Rattle.alt_talks.specs.Own.{FollowsNot, Own, after_behind, own_behind}
use Rattle.alt_talks.specs.Works.{Follows, WorksOnStore}
use Rattle.alt_talks.specs.declared.fault.RunFault.{RunFault}
use Rattle.alt_talks.proofs.Answering.{caused_of}
use Rattle.alt_talks.proofs.Expired.{follows_one, follows_then}
use Rattle.alt_talks.proofs.Owning.{built_behind, follows_worked}

-- it was built, and what stands for the state then stands for that behind the request
pub built_stands : (b : DiskState) (t : Tables) (s : State) → Stands b t (last_state s (build s))
    → Stands b t (after_behind s)
built_stands b t s stands = subst (λ (o : Own). Stands b t (last_state s o.atoms))
    (sym (built_behind s)) stands

-- it had a number for that
pub built_enough : (s : State) → lack_among a_number s (build s) ≡ None
    → (own_behind s).lacks ≡ None
built_enough s enough = ap (λ (o : Own). o.lacks) (built_behind s) ∙ enough

-- a stop in it left the state before its write or behind it
pub built_follows : (a b : DiskState) (t : Tables) (s : State) → Stands a t s → Goes a b
    → Leaves a b s (build s) → Follows a b s (own_behind s).atoms
built_follows a b t s stands goes leaves = subst (λ (o : Own). Follows a b s o.atoms)
    (sym (built_behind s)) (follows_one a b t s (build s) stands goes leaves)

-- and so did one in the work behind it
pub worked_follows : (a b c : DiskState) (t : Tables) (s : State) → Stands a t s → Goes a b
    → Leaves a b s (build s) → WorksOnStore b c (last_state s (build s))
    → Follows a c s (own_behind s).atoms
worked_follows a b c t s stands goes leaves works = subst (λ (o : Own). Follows a c s o.atoms)
    (sym (built_behind s))
    (subst (λ (xs : List State). Follows a c s xs) (append-nil (build s))
    (follows_then a b c s (build s) [] (follows_one a b t s (build s) stands goes leaves)
    (follows_worked b c (last_state s (build s)) works)))

-- it wasn't built
pub built_broke : (works : Bool) (file : ℕ) (now : State → Type 0) (s : State) (given : TableFault)
    (fault : RunFault) → told_by_run fault ≡ told_by_tables given
    → BreakOff file now a_number s (build s) given → FollowsNot works file (own_behind s) fault
built_broke works file now s given fault same broke =
    subst (λ (o : Own). FollowsNot works file o fault) (sym (built_behind s))
    (inl (caused_of file now a_number s (build s) given fault same broke))

-- or work behind it broke off
pub work_behind : (works : Bool) (file : ℕ) (s : State) (fault : RunFault) → works ≡ true
    → lack_among a_number s (build s) ≡ None → IsFileFault (file + most_files) fault
    → FollowsNot works file (own_behind s) fault
work_behind works file s fault is enough why = inr (is, built_enough s enough, why)
