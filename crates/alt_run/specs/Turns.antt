-- What the lines of an input come to, one after the other: one fold, from a given state.
use Rattle.std.specs.Prelude.{ℕ, suc, List, [], ◌∷◌, ◌++◌, map, Bool, ◌==◌, if◌then◌else◌, codes, decimal, Option, Some, None}
use Rattle.std.specs.Str.{bytes_eq}
use Rattle.std.specs.List.{before_first, after_first}
use Rattle.serde_json.specs.Written.{compact_text}
use Rattle.alt_lines.specs.Lines.{Line, whole, too_long, lines_of}
use Rattle.alt_machine.specs.Operations.{operation_named}
use Rattle.alt_machine.specs.Outcomes.{Outcome, last_state}
use Rattle.alt_machine.specs.State.{State}
use Rattle.alt_machine.specs.Step.{step}
use Rattle.alt_machine.specs.Wanted.{wanted as wanted_by}
use Rattle.alt_shape.specs.Refusals.{Answer}
use Rattle.alt_talks.specs.Own.{own_behind}
use Rattle.alt_talks.specs.Turns.{Turn, after_turn, or_next, turns_text}
use Rattle.alt_run.specs.declared.lines.Control.{Control}
use Rattle.alt_run.specs.declared.lines.Control.TheVariants.{Flush, Merge, Step, Reopen}

-- ---- what lines ask

-- what a line asks for: a request, by its operation's name and its body; a word of control; or nothing, since it is too long to be read
pub data AskedLine : Type 0 where
  request : List ℕ → List ℕ → AskedLine
  control : Control → AskedLine
  unread : AskedLine

-- whether a byte is a space
abbrev pub is_space : ℕ → Bool
is_space b = b == 32

-- the word of control that a line is, if it is one: that all families are flushed, that the files of all are merged, that one step of work is
-- made, or that the store is opened again
abbrev pub control_of : List ℕ → Option Control
control_of text =
    if bytes_eq text (codes "@flush") then Some Flush
    else (if bytes_eq text (codes "@merge") then Some Merge
    else (if bytes_eq text (codes "@step") then Some Step
    else (if bytes_eq text (codes "@reopen") then Some Reopen else None)))

-- that word; or a request, whose name stands before the first space and its body behind it, and a line without a space is all name
abbrev pub asked_as : List ℕ → Option Control → AskedLine
asked_as text None = request (before_first is_space text) (after_first is_space text)
asked_as text (Some word) = control word

-- what a line asks for that is read
abbrev pub asked_by : List ℕ → AskedLine
asked_by text = asked_as text (control_of text)

-- what a line asks for
abbrev pub asked_of : Line → AskedLine
asked_of (whole text) = asked_by text
asked_of too_long = unread

-- the most bytes of a line that is read
abbrev pub longest_line : ℕ
longest_line = 16777280

-- what an input asks, of which the end was taken or not
abbrev pub asks : Bool → List ℕ → List AskedLine
asks ended bytes = map asked_of (lines_of longest_line ended bytes)

-- how many of them are requests: each of these has a moment of its own
abbrev pub requests : List AskedLine → ℕ
requests [] = 0
requests (request name body ∷ ls) = suc (requests ls)
requests (control word ∷ ls) = requests ls
requests (unread ∷ ls) = requests ls

-- how many of them may have a task: a request, which has a step behind its reply, and a word of control
abbrev pub tasks : List AskedLine → ℕ
tasks [] = 0
tasks (request name body ∷ ls) = suc (tasks ls)
tasks (control word ∷ ls) = suc (tasks ls)
tasks (unread ∷ ls) = tasks ls

-- ---- what they come to

-- the line of an answer: its status, a space, its JSON without spaces, and a line feed
abbrev pub line_of : Answer → List ℕ
line_of a = decimal a.status ++ (32 ∷ (compact_text a.body ++ 10 ∷ []))

-- what a request comes to at a moment
abbrev pub outcome_by_name : State → List ℕ → List ℕ → ℕ → Outcome
outcome_by_name s name body moment = step s (operation_named name) body moment

-- the turn that an outcome makes from a state, with what the server does behind it
abbrev pub turn_of : State → Outcome → Turn
turn_of s o = record {
  text = line_of o.answer;
  atoms = o.atoms;
  own = (own_behind (last_state s o.atoms)).atoms;
  alone = wanted_by s o;
  lacks = or_next (wanted_by s o) (own_behind (last_state s o.atoms)).lacks;
}

-- a request that is carried out at a moment
abbrev pub carried_out : State → List ℕ → List ℕ → ℕ → Turn
carried_out s name body moment = turn_of s (outcome_by_name s name body moment)

-- a line that is too long
abbrev pub turned_away : Turn
turned_away = record {
  text = codes "413 {\"message\":\"request too long\"}\n";
  atoms = [];
  own = [];
  alone = None;
  lacks = None;
}

-- what a word of control comes to: the state stays
abbrev pub obeyed : Turn
obeyed = record { text = codes "ok\n"; atoms = []; own = []; alone = None; lacks = None }

-- The turns of these lines, each request at the next moment, as long as there are moments.
abbrev pub turns_of_lines : State → List AskedLine → List ℕ → List Turn
turns_of_lines s [] moments = []
turns_of_lines s (request name body ∷ ls) [] = []
turns_of_lines s (request name body ∷ ls) (m ∷ ms) =
    carried_out s name body m ∷ turns_of_lines (after_turn s (carried_out s name body m)) ls ms
turns_of_lines s (control word ∷ ls) moments = obeyed ∷ turns_of_lines s ls moments
turns_of_lines s (unread ∷ ls) moments = turned_away ∷ turns_of_lines s ls moments

-- ---- what they come to together

-- Out: what is said to an input, from a state
abbrev pub out : State → Bool → List ℕ → List ℕ → List ℕ
out s ended bytes moments = turns_text (turns_of_lines s (asks ended bytes) moments)
