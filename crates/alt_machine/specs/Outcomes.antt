-- What a request comes to.
use Rattle.std.specs.Prelude.{ℕ, List, [], ◌∷◌, length, take, Option, Some, None, Result, Ok, Err}
use Rattle.alt_shape.specs.declared.refusal.Refusal.{Refusal}
use Rattle.alt_shape.specs.Refusals.{Answer, refused}
use Rattle.alt_machine.specs.Refusals.{first_answer}
use Rattle.alt_machine.specs.State.{State}

-- what a request wants: nothing, a number, so many numbers, for a new table a number and 27 families, or for a new index a number and
-- one family
pub data Wants : Type 0 where
  nothing : Wants
  a_number : Wants
  numbers : ℕ → Wants
  a_table : Wants
  a_family : Wants

-- The answer, and the atoms: what the request makes lasting, by the state after it. Each operation has one at most, so a stop comes before
-- it or behind it, and never inside. The state after the request is that after the last of them.
pub record Outcome : Type 0 where
  pub answer : Answer
  pub atoms : List State
  pub wants : Wants

-- the state after these writes
abbrev pub last_state : State → List State → State
last_state s [] = s
last_state s (t ∷ ts) = last_state t ts

-- the state after the first of these writes, so many of them
abbrev pub state_after : ℕ → State → List State → State
state_after k s atoms = last_state s (take k atoms)

-- an answer without a write: of a read, or a refusal
abbrev pub says : Answer → Outcome
says answer = record { answer = answer; atoms = []; wants = nothing }

-- these writes and an answer
abbrev pub writes : List State → Answer → Outcome
writes atoms answer = record { answer = answer; atoms = atoms; wants = a_number }

-- what writes make lasting together: the state after the last of them, and nothing where there are none
abbrev pub together : State → List State → List State
together s [] = []
together s (t ∷ ts) = last_state t ts ∷ []

-- these writes together, and an answer
abbrev pub writes_together : State → List State → Answer → Outcome
writes_together s atoms answer = record {
  answer = answer;
  atoms = together s atoms;
  wants = numbers (length atoms);
}

-- the one write that makes a table, and an answer
abbrev pub makes : State → Answer → Outcome
makes s answer = record { answer = answer; atoms = s ∷ []; wants = a_table }

-- a refusal
abbrev pub refuses : Refusal → Outcome
refuses r = says (refused r)

-- ---- tests

-- the first answer of the tests that apply, and what comes where none does
abbrev pub answer_or : Option Answer → Outcome → Outcome
answer_or None outcome = outcome
answer_or (Some answer) outcome = says answer

-- the refusal of the first test that applies, and what comes where none does
abbrev pub unless_refused : List (Option Answer) → Outcome → Outcome
unless_refused tests outcome = answer_or (first_answer tests) outcome

-- what comes of what a test found, or its refusal
abbrev pub with_found : {A : Type 0} → Result A Answer → (A → Outcome) → Outcome
with_found (Ok x) go = go x
with_found (Err answer) go = says answer
