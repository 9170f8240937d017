-- A shell that tells nothing but its counts and its talk.
use Rattle.std.specs.Prelude.{ℕ, List, Bool, false, [], ◌∷◌, None}
use Rattle.alt_disk.specs.Disk.{DiskState}
use Rattle.alt_disk.specs.Fates.{missing}
use Rattle.alt_shell.specs.Log.{talk_head}

-- a state of which nothing is told but the moment, the faults and the talk
abbrev pub untold : ℕ → ℕ → ℕ × List ℕ → DiskState
untold moment faults talk = record {
  tells = false;
  honest = false;
  file = λ f. None;
  fates = λ t f. missing;
  moment = moment;
  faults = faults;
  reads = 0;
  beside = talk ∷ [];
  cached = λ f at most. false;
  anchors = [];
}

-- such a shell by its counts: the moment, the faults, whether it talks, the faults of talks, and those of the takes and of the says of the
-- talk
abbrev pub shell_by_counts : ℕ → ℕ → Bool → ℕ → ℕ → ℕ → DiskState
shell_by_counts moment faults talking talk takes says =
    untold moment faults (talk_head talking talk takes says)
