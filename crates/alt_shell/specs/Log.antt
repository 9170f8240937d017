-- What a shell tells of its calls, as it lies beside the disk: the head of the talk, which every shell has; three heads for what is told
-- as of now; and then one entry for each call that took or said something or failed, or began or ended a talk. A log without its four
-- heads tells nothing but the talk.
use Rattle.std.specs.Prelude.{◌≡◌, ◌≤◌, ◌-◌, ◌^◌, ◌==◌, ◌&&◌, not, ℕ, zero, suc, List, [], ◌∷◌, ◌++◌, length, take}
use Rattle.std.specs.Prelude.{Option, Some, None, ⊤, Bool, true, false, nat_le, if◌then◌else◌}
use Rattle.std.specs.List.{flat_map, list_any, filter}

-- a list of pairs of a number and a list of numbers
abbrev pub Log : Type 0
Log = List (ℕ × List ℕ)

-- ---- events and entries

-- What one call did. A say that failed said these bytes, some from the front of its own; a wait for a connection began a talk or told
-- that none will come; and a talk was hung up.
pub data Event : Type 0 where
  took : List ℕ → Event
  said : List ℕ → Event
  take_failed : Event
  say_failed : List ℕ → Event
  accepted : Event
  none_came : Event
  hung_up : Event

-- an event in numbers: its tag, how many moments had been told by then, and its bytes
abbrev pub spelling : ℕ → Event → List ℕ
spelling told (took bytes) = 0 ∷ told ∷ bytes
spelling told (said bytes) = 1 ∷ told ∷ bytes
spelling told take_failed = 2 ∷ told ∷ []
spelling told (say_failed bytes) = 3 ∷ told ∷ bytes
spelling told accepted = 4 ∷ told ∷ []
spelling told none_came = 5 ∷ told ∷ []
spelling told hung_up = 6 ∷ told ∷ []

-- the event of a tag and bytes, if there is one
abbrev pub by_tag : ℕ → List ℕ → Option Event
by_tag tag bytes =
    if tag == 0 then Some (took bytes)
    else (if tag == 1 then Some (said bytes)
    else (if tag == 2 then Some take_failed
    else (if tag == 3 then Some (say_failed bytes)
    else (if tag == 4 then Some accepted
    else (if tag == 5 then Some none_came
    else (if tag == 6 then Some hung_up else None))))))

-- the event that numbers spell; where the tag isn't known there is none
abbrev pub event_of : List ℕ → Option Event
event_of [] = None
event_of (tag ∷ []) = None
event_of (tag ∷ told ∷ bytes) = by_tag tag bytes

-- how many moments had been told by then
abbrev pub told_by_then : List ℕ → ℕ
told_by_then [] = 0
told_by_then (tag ∷ []) = 0
told_by_then (tag ∷ told ∷ bytes) = told

-- an entry of the log: the moment at which the call ended, and what it did
abbrev pub entry : ℕ → ℕ → Event → ℕ × List ℕ
entry moment told event = (moment, spelling told event)

-- ---- heads

-- a log: the heads of the talk, of the notes and of the moments that the clock told, one that is kept, and the entries
abbrev pub log : ℕ × List ℕ → ℕ × List ℕ → ℕ × List ℕ → Log → Log
log talk notes moments entries = talk ∷ notes ∷ moments ∷ (0, []) ∷ entries

-- The head of the talk: whether the shell talks; how many calls failed in talks; and how many takes and how many says failed in the talk
-- that it is in, or was in last.
abbrev pub talk_head : Bool → ℕ → ℕ → ℕ → ℕ × List ℕ
talk_head talking faults takes says = (if talking then 1 else 0, faults ∷ takes ∷ says ∷ [])

-- the head of the talk of a log; without one it doesn't talk
abbrev pub talk_of : Log → ℕ × List ℕ
talk_of [] = talk_head false 0 0 0
talk_of (h ∷ hs) = h

-- whether a number is above zero
abbrev pub is_positive : ℕ → Bool
is_positive zero = false
is_positive (suc n) = true

-- the number at a place of a list, 0 behind its end
abbrev pub number_at_place : ℕ → List ℕ → ℕ
number_at_place place [] = 0
number_at_place zero (n ∷ ns) = n
number_at_place (suc place) (n ∷ ns) = number_at_place place ns

-- whether the shell talks on a connection
abbrev pub talks : Log → Bool
talks log = is_positive (talk_of log).0

-- how many calls failed in talks
abbrev pub talk_faults : Log → ℕ
talk_faults log = number_at_place 0 (talk_of log).1

-- whether a take failed in the talk
abbrev pub takes_missed : Log → Bool
takes_missed log = is_positive (number_at_place 1 (talk_of log).1)

-- whether a say failed in the talk
abbrev pub says_missed : Log → Bool
says_missed log = is_positive (number_at_place 2 (talk_of log).1)

-- the entries, where they are told
abbrev pub entries_of : Log → Option Log
entries_of [] = None
entries_of (h ∷ []) = None
entries_of (h ∷ i ∷ []) = None
entries_of (h ∷ i ∷ j ∷ []) = None
entries_of (h ∷ i ∷ j ∷ k ∷ es) = Some es

-- what was told is still told, and has these entries more
abbrev pub GrowsBy : Option Log → Option Log → Log → Type 0
GrowsBy None new more = ⊤
GrowsBy (Some es) None more = ⊥
GrowsBy (Some es) (Some fs) more = fs ≡ es ++ more

-- where the log is told, it has these entries more
abbrev pub Grows : Log → Log → Log → Type 0
Grows old new more = GrowsBy (entries_of old) (entries_of new) more

-- what a head of the log tells, if it does
abbrev pub head_tells : ℕ × List ℕ → Option (List ℕ)
head_tells (zero, values) = None
head_tells (suc k, values) = Some values

-- what was noted
abbrev pub notes_of : Log → Option (List ℕ)
notes_of [] = None
notes_of (h ∷ []) = None
notes_of (h ∷ i ∷ es) = head_tells i

-- what is still told was told before, and has these values more
abbrev pub StillGrows : Option (List ℕ) → Option (List ℕ) → List ℕ → Type 0
StillGrows old None more = ⊤
StillGrows None (Some new) more = ⊥
StillGrows (Some old) (Some new) more = new ≡ old ++ more

-- the moments that the clock told
abbrev pub moments_of : Log → Option (List ℕ)
moments_of [] = None
moments_of (h ∷ []) = None
moments_of (h ∷ i ∷ []) = None
moments_of (h ∷ i ∷ j ∷ es) = head_tells j

-- a log tells this many moments at most, the first ones
abbrev pub most_told : ℕ
most_told = 2 ^ 64 - 1

-- moments with more behind them, as far as a log tells them
abbrev pub with_told : List ℕ → List ℕ → List ℕ
with_told old more = old ++ take (most_told - length old) more

-- moments are told where they were told before, and now these more
abbrev pub TellsMoments : Option (List ℕ) → Option (List ℕ) → List ℕ → Type 0
TellsMoments None None more = ⊤
TellsMoments None (Some new) more = ⊥
TellsMoments (Some old) None more = ⊥
TellsMoments (Some old) (Some new) more = new ≡ with_told old more

-- how many moments are told
abbrev pub count_told : Option (List ℕ) → ℕ
count_told None = 0
count_told (Some moments) = length moments

-- how many moments a log tells
abbrev pub told_count : Log → ℕ
told_count log = count_told (moments_of log)

-- ---- what the entries say

-- the bytes that an event took
abbrev pub bytes_taken : Option Event → List ℕ
bytes_taken None = []
bytes_taken (Some (took bytes)) = bytes
bytes_taken (Some (said bytes)) = []
bytes_taken (Some take_failed) = []
bytes_taken (Some (say_failed bytes)) = []
bytes_taken (Some accepted) = []
bytes_taken (Some none_came) = []
bytes_taken (Some hung_up) = []

-- the bytes that it said
abbrev pub bytes_said : Option Event → List ℕ
bytes_said None = []
bytes_said (Some (took bytes)) = []
bytes_said (Some (said bytes)) = bytes
bytes_said (Some take_failed) = []
bytes_said (Some (say_failed bytes)) = bytes
bytes_said (Some accepted) = []
bytes_said (Some none_came) = []
bytes_said (Some hung_up) = []

-- a take that gave nothing is the end of the input
abbrev pub is_end : Option Event → Bool
is_end None = false
is_end (Some (took [])) = true
is_end (Some (took (x ∷ bytes))) = false
is_end (Some (said bytes)) = false
is_end (Some take_failed) = false
is_end (Some (say_failed bytes)) = false
is_end (Some accepted) = false
is_end (Some none_came) = false
is_end (Some hung_up) = false

-- a take that failed
abbrev pub is_take_failed : Option Event → Bool
is_take_failed None = false
is_take_failed (Some (took bytes)) = false
is_take_failed (Some (said bytes)) = false
is_take_failed (Some take_failed) = true
is_take_failed (Some (say_failed bytes)) = false
is_take_failed (Some accepted) = false
is_take_failed (Some none_came) = false
is_take_failed (Some hung_up) = false

-- a say that failed
abbrev pub is_say_failed : Option Event → Bool
is_say_failed None = false
is_say_failed (Some (took bytes)) = false
is_say_failed (Some (said bytes)) = false
is_say_failed (Some take_failed) = false
is_say_failed (Some (say_failed bytes)) = true
is_say_failed (Some accepted) = false
is_say_failed (Some none_came) = false
is_say_failed (Some hung_up) = false

-- a talk begins or ends, or none will come
abbrev pub is_bound : Option Event → Bool
is_bound None = false
is_bound (Some (took bytes)) = false
is_bound (Some (said bytes)) = false
is_bound (Some take_failed) = false
is_bound (Some (say_failed bytes)) = false
is_bound (Some accepted) = true
is_bound (Some none_came) = true
is_bound (Some hung_up) = true

-- the bytes taken
abbrev pub taken : Log → List ℕ
taken es = flat_map (λ e. bytes_taken (event_of e.1)) es

-- the bytes said
abbrev pub said_in : Log → List ℕ
said_in es = flat_map (λ e. bytes_said (event_of e.1)) es

-- whether the end was taken
abbrev pub ended : Log → Bool
ended es = list_any (λ e. is_end (event_of e.1)) es

-- whether a take failed
abbrev pub takes_failed : Log → Bool
takes_failed es = list_any (λ e. is_take_failed (event_of e.1)) es

-- whether a say failed
abbrev pub says_failed : Log → Bool
says_failed es = list_any (λ e. is_say_failed (event_of e.1)) es

-- whether a talk began or ended among them, or it was told that none will come
abbrev pub crosses : Log → Bool
crosses es = list_any (λ e. is_bound (event_of e.1)) es

-- a test of the entries where they are told
abbrev pub tested : (Log → Bool) → Option Log → Bool
tested test None = false
tested test (Some es) = test es

-- whether the end of standard input was taken, as far as that is told; once a connection was waited for, nothing is said of it
abbrev pub has_input_ended : Log → Bool
has_input_ended log = tested (λ es. ended es && not (crosses es)) (entries_of log)

-- the entries of the calls that had ended by a moment
abbrev pub until : ℕ → Log → Log
until t es = filter (λ e. nat_le e.0 t) es

-- what was taken in all, where it is told, is at most 2^62 bytes
abbrev pub WithinLifeBy : Option Log → Type 0
WithinLifeBy None = ⊤
WithinLifeBy (Some es) = length (taken es) ≤ 2 ^ 62

-- so in a log
abbrev pub WithinLife : Log → Type 0
WithinLife log = WithinLifeBy (entries_of log)
