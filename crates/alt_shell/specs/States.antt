-- The parts of a shell in memory: its clock, the calls that it kept, its streams and its talks.
use Rattle.std.specs.Prelude.{◌≡◌, ◌==◌, ◌+◌, length, ℕ, Bool, List, map, if◌then◌else◌}
use Rattle.std.specs.List.{list_any}
use Rattle.alt_shell.specs.declared.wire.Wire.{Wire}
use Rattle.alt_shell.specs.declared.talks.Talks.{Talks}
use Rattle.alt_shell.specs.declared.clock.Clock.{Clock}
use Rattle.alt_shell.specs.declared.kept.Kept.{Kept}
use Rattle.alt_shell.specs.Told.{told_in}
use Rattle.alt_shell.specs.Kept.{call_entries}
use Rattle.alt_shell.specs.Waiting.{pieces_of}
use Rattle.alt_shell.specs.declared.kept.Stream.{Stream}
use Rattle.alt_shell.specs.declared.kept.Stream.TheVariants.{Input, Output}
use Rattle.alt_shell.specs.Log.{Log, talk_head, is_positive}
use Rattle.alt_shell.specs.Streams.{Heard, Streams}

-- the moments that a clock told
abbrev pub told_by : Clock → List ℕ
told_by clock = told_in clock.past.items clock.times clock.last

-- the entries of the calls that were kept
abbrev pub kept_entries : Kept → Log
kept_entries kept =
    call_entries kept.before.items kept.first kept.between.items kept.second kept.behind.items

-- what a wire tells of its stream
abbrev pub heard_by : Wire → Heard
heard_by wire = record { over = wire.over; said = wire.said.items }

-- what the standard streams and the talks tell
abbrev pub streams_by : Talks → Streams
streams_by talks = record {
  talking = talks.talking;
  standard = heard_by talks.standard;
  talk = heard_by talks.talk;
  past = map (λ v. v.items) talks.past.items;
}

-- the pieces of the stream at hand: of the talk where one goes on, else of standard input
abbrev pub pieces_at_hand : Talks → List (List ℕ)
pieces_at_hand talks =
    if talks.talking then pieces_of talks.talk.pieces else pieces_of talks.standard.pieces

-- the pieces of the other
abbrev pub pieces_aside : Talks → List (List ℕ)
pieces_aside talks =
    if talks.talking then pieces_of talks.standard.pieces else pieces_of talks.talk.pieces

-- the connections that will be accepted, each as its pieces
abbrev pub coming_of : Talks → List (List (List ℕ))
coming_of talks = map pieces_of talks.coming.items

-- how many connections were added: those that are over, the one at hand, and those to come
abbrev pub added_to : Talks → ℕ
added_to talks = length (streams_by talks).past + (if talks.talking then 1 else 0)
    + length (coming_of talks)

-- whether the call of this number is to fail, counted over all talks from 0
abbrev pub is_to_fail : Talks → ℕ → Bool
is_to_fail talks call = list_any (λ n. n == call) talks.to_fail.items

-- the head of the talk
abbrev pub head_of_talk : Talks → ℕ × List ℕ
head_of_talk talks = talk_head talks.talking talks.faults talks.takes talks.says

-- whether a call of this kind failed in the talk at hand, or in the last one
abbrev pub missed_by : Stream → Talks → Bool
missed_by Input talks = is_positive talks.takes
missed_by Output talks = is_positive talks.says

-- What a call leaves of the list of calls in talks that are to fail, and of their count.
pub record KeepsList (old new : Talks) : Type 0 where
  pub to_fail_stays : new.to_fail ≡ old.to_fail
  pub calls_stay : new.calls ≡ old.calls

-- What a call leaves of the head of the talk.
pub record KeepsHead (old new : Talks) : Type 0 where
  pub talking_stays : new.talking ≡ old.talking
  pub faults_stay : new.faults ≡ old.faults
  pub takes_stay : new.takes ≡ old.takes
  pub says_stay : new.says ≡ old.says
