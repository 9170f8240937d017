-- What turns come to, whatever asked for them: what is said to each, what it writes, and what it lacks.
use Rattle.std.specs.Prelude.{◌≡◌, ◌≤◌, ◌⊎◌, ℕ, List, [], ◌∷◌, ◌++◌, if◌then◌else◌, Option, Some, None, length, drop, nat_le}
use Rattle.std.specs.List.{flat_map}
use Rattle.alt_machine.specs.Outcomes.{last_state}
use Rattle.alt_machine.specs.State.{State}
use Rattle.alt_machine.specs.Wanted.{Lack}

-- ---- what they come to

-- What a line comes to: the text that is said to it, what it makes lasting, by the state after it, which is one at most, the single writes that the
-- server makes by itself behind it, each by the state after it, the number or family that the line alone wants and can't have, and the one that
-- it or one of those writes does.
pub record Turn : Type 0 where
  pub text : List ℕ
  pub atoms : List State
  pub own : List State
  pub alone : Option Lack
  pub lacks : Option Lack

-- the state after a turn, with what the server does behind it
abbrev pub after_turn : State → Turn → State
after_turn s t = last_state (last_state s t.atoms) t.own

-- ---- what they come to together

-- all that is said
abbrev pub turns_text : List Turn → List ℕ
turns_text ts = flat_map (λ t. t.text) ts

-- the state after the last
abbrev pub after : State → List Turn → State
after s [] = s
after s (t ∷ ts) = after (after_turn s t) ts

-- the first of two, where there is one
abbrev pub or_next : Option Lack → Option Lack → Option Lack
or_next None next = next
or_next (Some lack) next = Some lack

-- the first number or family that is wanted and can't be had
abbrev pub wanted_by_turns : List Turn → Option Lack
wanted_by_turns [] = None
wanted_by_turns (t ∷ ts) = or_next t.lacks (wanted_by_turns ts)

-- A turn writes something and lacks nothing by itself; or the server writes something behind it, and neither lacks anything.
abbrev pub DoesWrite : Turn → Type 0
DoesWrite t = ((t.alone ≡ None) × (1 ≤ length t.atoms))
    ⊎ ((t.lacks ≡ None) × (1 ≤ length t.own))

-- The last of these turns writes something, or the server does behind it, and none before it lacks a number or a family.
pub record WritesLast (ts : List Turn) : Type 0 where
  pub before : List Turn
  pub turn : Turn
  pub parts : ts ≡ before ++ turn ∷ []
  pub enough : wanted_by_turns before ≡ None
  pub writes : DoesWrite turn

-- the turns, from the first on, whose whole texts stand in the bytes said
abbrev pub answered_turns : List Turn → List ℕ → List Turn
answered_turns [] bytes = []
answered_turns (t ∷ ts) bytes =
    if nat_le (length t.text) (length bytes) then t ∷ answered_turns ts
    (drop (length t.text) bytes) else []
