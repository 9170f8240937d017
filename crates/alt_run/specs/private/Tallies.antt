-- The tally of a trial while its requests are carried out. Private contracts alone cite it.
use Rattle.std.specs.Prelude.{◌≡◌, ℕ, List, [], ◌++◌, length, codes, None}
use Rattle.sha2.specs.Hashers.{Holds256}
use Rattle.alt_disk.specs.Disk.{DiskState}
use Rattle.alt_machine.specs.State.{State}
use Rattle.alt_tables.specs.Stands.{Stands}
use Rattle.alt_tables.specs.declared.tables.Tables.{Tables}
use Rattle.alt_talks.specs.Stops.{StandsBehind, AtEach}
use Rattle.alt_run.specs.Turns.{AskedLine}
use Rattle.alt_talks.specs.Turns.{Turn, turns_text, after, wanted_by_turns}
use Rattle.alt_talks.specs.declared.fault.RunFault.{RunFault}
use Rattle.alt_run.specs.declared.tally.Tally.{Tally}
use Rattle.alt_run.specs.Trials.{trial_turns, beginning, TriesFor}

-- these turns were counted
pub record IsTally (tally : Tally) (ts : List Turn) : Type 0 where
  pub good : tally.good ≡ length (beginning (codes "200 ") ts)
  pub bad : tally.bad ≡ length (beginning (codes "400 ") ts)
  pub holds : Holds256 tally.hasher (turns_text ts)

-- lines were carried out from a state, and counted behind those before them
pub record Counted (s : State) (ls : List AskedLine) (before behind : Tally) (old new : DiskState)
    (tables : Tables) : Type 0 where
  pub stands : Stands new tables (after s (trial_turns s ls))
  pub enough : wanted_by_turns (trial_turns s ls) ≡ None
  pub counts : (ts : List Turn) → IsTally before ts → IsTally behind (ts ++ trial_turns s ls)
  pub leaves : AtEach old new (λ _ image. StandsBehind image s (trial_turns s ls) [])

-- that broke off
pub record CountedSome (fault : RunFault) (next : ℕ) (s : State) (ls : List AskedLine)
    (old new : DiskState) : Type 0 where
  pub begun : List AskedLine
  pub rest : List AskedLine
  pub lines : ls ≡ begun ++ rest
  pub wants : TriesFor fault next s begun
  pub leaves : AtEach old new (λ _ image. StandsBehind image s (trial_turns s ls) [])
