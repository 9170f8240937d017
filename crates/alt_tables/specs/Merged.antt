-- Files of which nothing is left to merge.
use Rattle.std.specs.Prelude.{ℕ, List, Option}
use Rattle.alt_rowchanges.specs.OpeningEngineWorking.{LiveFamiliesAreMerged}
use Rattle.alt_machine.specs.State.{State, descriptions}
use Rattle.alt_rowchanges.specs.OpeningLive.{AreLiveIn}

-- Each live family of the state has one row file at most, without tombstones, and so without hidden cells.
abbrev pub IsMergedFor : State → (ℕ → Option (List ℕ)) → Type 0
IsMergedFor s files = (live : List ℕ) → AreLiveIn (descriptions s.tables) live → LiveFamiliesAreMerged live files
