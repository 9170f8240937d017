-- Why a run ends early.
use Rattle.std.specs.Prelude.{ℕ, List, Option}
use Rattle.alt_machine.specs.State.{State}
use Rattle.alt_tables.specs.Images.{StandsFor}
use Rattle.alt_faults.specs.Faults.{OnlyDamaged}
use Rattle.alt_tables.specs.OpeningRecovery.{IsOfFiles}
use Rattle.alt_talks.specs.Faults.{told_by_run}
use Rattle.alt_talks.specs.declared.fault.RunFault.{RunFault}

-- what is told of damage is true of the files, which then stand for no state
abbrev pub IsUnreadable : (ℕ → Option (List ℕ)) → RunFault → Type 0
IsUnreadable files fault = OnlyDamaged (λ damage. IsOfFiles files damage
    × ((s : State) → StandsFor files s → ⊥)) (told_by_run fault)
