-- What a stop leaves at each moment of a run.
use Rattle.std.specs.Prelude.{◌≤◌, ◌⊎◌, ℕ, List, [], ◌∷◌, Option, ⊤}
use Rattle.alt_base.specs.Prefix.{IsPrefix}
use Rattle.alt_disk.specs.Disk.{DiskState, IsTrusted}
use Rattle.alt_disk.specs.Runs.{Spans}
use Rattle.alt_machine.specs.Outcomes.{last_state, state_after}
use Rattle.alt_machine.specs.State.{State}
use Rattle.alt_shell.specs.Log.{Log}
use Rattle.alt_talks.specs.Turns.{after_turn, answered_turns, Turn, turns_text}
use Rattle.alt_tables.specs.Images.{StandsFor}

-- files as a stop leaves them
abbrev pub Image : Type 0
Image = ℕ → Option (List ℕ)

-- The state behind turns, each with all that the server does by itself behind it, but for the last, behind which so many of those writes were made.
abbrev pub state_behind : ℕ → State → List Turn → State
state_behind own s [] = s
state_behind own s (t ∷ []) = state_after own (last_state s t.atoms) t.own
state_behind own s (t ∷ (u ∷ ts)) = state_behind own (after_turn s t) (u ∷ ts)

-- Files stand for the state behind a prefix of these turns that contains these. So each request among the turns is there whole or not at all, and
-- none without all before it; of what the server does by itself behind the last that is there, a first part may be.
pub record StandsBehind (image : Image) (s : State) (ts least : List Turn) : Type 0 where
  pub done : List Turn
  pub prefix : IsPrefix done ts
  pub contains : IsPrefix least done
  pub own : ℕ
  pub stands : StandsFor image (state_behind own s done)

-- A stop leaves this while turns are done from a state and so much was said of their text: it stands for the state behind a prefix of them that
-- contains every one whose whole text was said, and what was said is the front of their text.
pub record IsLeft (s : State) (ts : List Turn) (said : List ℕ) (image : Image) : Type 0 where
  pub behind : StandsBehind image s ts (answered_turns ts said)
  pub front : IsPrefix said (turns_text ts)

-- On a disk that can be relied on, whatever a stop at a moment of this stretch leaves has P of that moment.
abbrev pub AtEach : DiskState → DiskState → (ℕ → Image → Type 0) → Type 0
AtEach old new P = IsTrusted old → Spans old new (λ _. ⊤) P

-- It stands for the state before a request that makes this lasting, or for that after it, since it makes one state lasting at most.
abbrev pub IsUncut : Image → State → List State → Type 0
IsUncut image s atoms = StandsFor image s ⊎ StandsFor image (last_state s atoms)

-- it stands for the state after some of the server's own writes, none or all of them
abbrev pub IsAmong : Image → State → List State → Type 0
IsAmong image s atoms = (k : ℕ) × StandsFor image (state_after k s atoms)

-- the calls of these entries ended from one moment on and up to another
abbrev pub AreWithin : ℕ → ℕ → Log → Type 0
AreWithin from to [] = Unit {0}
AreWithin from to (e ∷ es) = (from ≤ e.0) × (e.0 ≤ to) × AreWithin from to es
