-- What the entries of a log tell of the standard streams, and of each talk.
use Rattle.std.specs.Prelude.{ℕ, List, [], ◌∷◌, ◌++◌, Bool, true, false, ◌||◌, Option, Some, None, get_or}
use Rattle.std.specs.List.{fold}
use Rattle.alt_shell.specs.Log.{Log, Event, event_of, took, said, take_failed, say_failed, accepted, none_came, hung_up}

-- one stream, both ways: whether its end was taken, and what was said on it
pub record Heard : Type 0 where
  pub over : Bool
  pub said : List ℕ

-- The streams after some calls: whether a talk goes on; the standard streams; the talk at hand, where there is none as it begins; and
-- what was said on each talk that was hung up, the oldest first.
pub record Streams : Type 0 where
  pub talking : Bool
  pub standard : Heard
  pub talk : Heard
  pub past : List (List ℕ)

-- a stream before any call
abbrev pub unheard : Heard
unheard = record { over = false; said = [] }

-- the streams before any call
abbrev pub untouched : Streams
untouched = record { talking = false; standard = unheard; talk = unheard; past = [] }

-- whether these bytes are none
abbrev pub is_none : List ℕ → Bool
is_none [] = true
is_none (b ∷ bytes) = false

-- a stream after a take of these bytes
abbrev pub after_take : List ℕ → Heard → Heard
after_take bytes h = record { over = h.over || is_none bytes; said = h.said }

-- a stream after these bytes were said
abbrev pub after_say : List ℕ → Heard → Heard
after_say bytes h = record { over = h.over; said = h.said ++ bytes }

-- a change of the stream at hand: of the talk where one goes on, else of the standard streams
abbrev pub on_hand : Bool → (Heard → Heard) → Streams → Streams
on_hand true act s =
    record { talking = s.talking; standard = s.standard; talk = act s.talk; past = s.past }
on_hand false act s =
    record { talking = s.talking; standard = act s.standard; talk = s.talk; past = s.past }

-- the streams after one more event
abbrev pub after_event : Option Event → Streams → Streams
after_event None s = s
after_event (Some (took bytes)) s = on_hand s.talking (after_take bytes) s
after_event (Some (said bytes)) s = on_hand s.talking (after_say bytes) s
after_event (Some take_failed) s = s
after_event (Some (say_failed bytes)) s = on_hand s.talking (after_say bytes) s
after_event (Some accepted) s =
    record { talking = true; standard = s.standard; talk = unheard; past = s.past }
after_event (Some none_came) s = s
after_event (Some hung_up) s =
    record { talking = false; standard = s.standard; talk = unheard; past = s.past ++ s.talk.said ∷ [] }

-- the streams after the calls of these entries
abbrev pub streams_of : Log → Streams
streams_of es = fold (λ s e. after_event (event_of e.1) s) untouched es

-- what was said on the standard output, or on the talk of this number, from 0; on one that wasn't nothing
abbrev pub said_on : Streams → Option ℕ → List ℕ
said_on s None = s.standard.said
said_on s (Some n) = get_or (s.past ++ s.talk.said ∷ []) n []
