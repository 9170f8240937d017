-- What the server says on a connection and what it does: the machine's step, and the texts of docs/formats/http.md.
use Rattle.std.specs.Prelude.{ℕ, List, ◌==◌, if◌then◌else◌, Bool, true, option_and_then}
use Rattle.serde_json.specs.Written.{compact_text}
use Rattle.alt_http.specs.Reading.{scan_of}
use Rattle.alt_http.specs.Replies.{reply_text, refusal_status, refusal_body, continue_text}
use Rattle.alt_dispatch.specs.Targets.{operation_at}
use Rattle.alt_machine.specs.Outcomes.{Outcome, last_state}
use Rattle.alt_machine.specs.State.{State}
use Rattle.alt_machine.specs.Step.{step}
use Rattle.alt_machine.specs.Wanted.{wanted as wanted_by}
use Rattle.alt_shape.specs.Refusals.{Answer}
use Rattle.alt_talks.specs.Own.{after_behind, own_behind, own_between}
use Rattle.alt_talks.specs.Talks.{Rules, Request}
use Rattle.alt_talks.specs.TalkViews.{scanned}
use Rattle.alt_talks.specs.Turns.{or_next}

-- what a request comes to at a moment; without a target, or with one that names nothing that is built, it is an unknown operation
abbrev pub outcome_of : State → Request → ℕ → Outcome
outcome_of s q moment = step s (option_and_then operation_at q.target) q.body moment

-- the status of a reply: 200, or 400 for every other
abbrev pub status_said : ℕ → ℕ
status_said status = if status == 200 then 200 else 400

-- the state that it leaves by itself
abbrev pub left_by : State → Request → ℕ → State
left_by s q moment = last_state s (outcome_of s q moment).atoms

-- the reply that tells an answer
abbrev pub http_text : Answer → ℕ → Bool → List ℕ
http_text a moment close = reply_text (status_said a.status) moment close (compact_text a.body)

-- the rules by which connections are served
unfoldable pub talk_rules : Rules
talk_rules = record {
  scan = λ bytes. scanned (scan_of bytes);
  next = λ s q moment. after_behind (left_by s q moment);
  atoms = λ s q moment. (outcome_of s q moment).atoms;
  own = λ s q moment. (own_behind (left_by s q moment)).atoms;
  reply = λ s q moment. http_text (outcome_of s q moment).answer moment q.close;
  alone = λ s q moment. wanted_by s (outcome_of s q moment);
  wants = λ s q moment. or_next (wanted_by s (outcome_of s q moment))
      (own_behind (left_by s q moment)).lacks;
  between = own_between;
  refusal = λ k moment. reply_text (refusal_status k) moment true (refusal_body k);
  greeting = continue_text;
}
