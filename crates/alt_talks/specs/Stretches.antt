-- What a part of the serving of connections says, takes and leaves.
use Rattle.std.specs.Prelude.{◌≡◌, ◌<◌, ◌≤◌, ◌⊎◌, ℕ, List, [], ◌∷◌, ◌++◌, length, Bool, true, false, ◌||◌, Option, Some, None}
use Rattle.std.specs.List.{list_any}
use Rattle.alt_base.specs.Prefix.{IsPrefix}
use Rattle.alt_machine.specs.State.{State}
use Rattle.alt_shell.specs.Log as event
use Rattle.alt_shell.specs.Log.{Log, Event, event_of, is_end, is_take_failed, is_say_failed, taken, said_in, says_failed}
use Rattle.alt_talks.specs.Faults.{IsCausedBy, IsFileFault, reach}
use Rattle.alt_talks.specs.declared.fault.RunFault.{RunFault}
use Rattle.alt_talks.specs.Talks.{Turn, asked, refused, Rules, Request, ConnectionPlace, turns_at, final_at, has_refused}
use Rattle.alt_talks.specs.TalkTexts.{text, after, request_count, moments_taken, wanted_by_talk}

-- the end was taken, or a take failed
abbrev pub is_last_take : Option Event → Bool
is_last_take e = is_end e || is_take_failed e

-- whether no more bytes will come
abbrev pub no_more_bytes : Log → Bool
no_more_bytes es = list_any (λ e. is_last_take (event_of e.1)) es

-- a take: it gave bytes, told the end, or failed
abbrev pub is_take : Option Event → Bool
is_take None = false
is_take (Some (event.took bytes)) = true
is_take (Some (event.said bytes)) = false
is_take (Some event.take_failed) = true
is_take (Some (event.say_failed bytes)) = false
is_take (Some event.accepted) = false
is_take (Some event.none_came) = false
is_take (Some event.hung_up) = false

-- a say, that failed or not
abbrev pub is_say : Option Event → Bool
is_say None = false
is_say (Some (event.took bytes)) = false
is_say (Some (event.said bytes)) = true
is_say (Some event.take_failed) = false
is_say (Some (event.say_failed bytes)) = true
is_say (Some event.accepted) = false
is_say (Some event.none_came) = false
is_say (Some event.hung_up) = false

-- whether something was to be said
abbrev pub says_something : Log → Bool
says_something es = list_any (λ e. is_say (event_of e.1)) es

-- behind a say that failed nothing more is said
abbrev pub Hushes : Log → Type 0
Hushes [] = Unit {0}
Hushes (e ∷ es) = (is_say_failed (event_of e.1) ≡ true → says_something es ≡ false) × Hushes es

-- all of a text was said; or, where a say failed, some of its front
abbrev pub SaidOf : Bool → List ℕ → List ℕ → Type 0
SaidOf true some whole = IsPrefix some whole
SaidOf false some whole = some ≡ whole

-- The moment of a refused head was asked for when the texts of all turns before it had been said, and no say had failed.
pub record RefusedHeadIsTimed (r : Rules) (s : State) (mute : Bool) (ts : List Turn) (entries : Log) (told : List ℕ) : Type 0 where
  pub first : List Turn
  pub refusal : ℕ
  pub last : ts ≡ first ++ refused refusal ∷ []
  pub moments : List ℕ
  pub moment : ℕ
  pub ends : told ≡ moments ++ moment ∷ []
  pub before : Log
  pub behind : Log
  pub splits : entries ≡ before ++ behind
  pub well : (mute || says_failed before) ≡ false
  pub said : said_in before ≡ text r s first moments

-- How many moments turns took: one for each request, and one for a refused head exactly where no say had failed before it.
abbrev pub MomentsAreCounted : Rules → State → Bool → List Turn → Bool → Log → List ℕ → Type 0
MomentsAreCounted r s mute ts after_it entries told =
    ((length told ≡ moments_taken ts) × (has_refused ts ≡ true → RefusedHeadIsTimed r s mute ts entries told))
    ⊎ ((after_it ≡ true) × (length told ≡ request_count ts))

-- Turns were done, from a state to a state. `mute` tells whether a say on the connection had failed before, and `after_it` whether one
-- has now: what was said is then a part from the front, and nothing was said behind it.
pub record Does (r : Rules) (s : State) (mute : Bool) (ts : List Turn) (t : State) (after_it : Bool) (entries : Log) (told : List ℕ) : Type 0 where
  pub said : SaidOf after_it (said_in entries) (text r s ts told)
  pub state : t ≡ after r s ts told
  pub count : MomentsAreCounted r s mute ts after_it entries told
  pub enough : wanted_by_talk r s ts told ≡ None
  pub broke : after_it ≡ (mute || says_failed entries)
  pub silent : mute ≡ true → (said_in entries ≡ []) × (length told ≡ request_count ts)
  pub hush : Hushes entries
  pub still : mute ≡ true → says_something entries ≡ false

-- Of turns that broke off some were done, and at most one more was begun. Just these asked for their moments: each request, and a refused
-- head unless a say had failed. No request that was done lacked a number or a family.
pub record Begins (r : Rules) (s : State) (ts : List Turn) (told : List ℕ) : Type 0 where
  pub done : List Turn
  pub begun : List Turn
  pub rest : List Turn
  pub parts : ts ≡ done ++ (begun ++ rest)
  pub few : length begun ≤ 1
  pub count : (length told ≡ moments_taken (done ++ begun)) ⊎ (length told ≡ request_count (done ++ begun))
  pub enough : wanted_by_talk r s done told ≡ None

-- Work was under way behind a request, the last one that was begun: its reply had been said, no say had failed, and no request lacked a
-- number or a family.
pub record IsWorking (r : Rules) (s : State) (mute : Bool) (ts : List Turn) (entries : Log) (told : List ℕ) : Type 0 where
  pub before : List Turn
  pub request : Request
  pub rest : List Turn
  pub parts : ts ≡ before ++ asked request ∷ rest
  pub count : length told ≡ moments_taken (before ++ asked request ∷ [])
  pub enough : wanted_by_talk r s ts told ≡ None
  pub heard : (mute || says_failed entries) ≡ false
  pub said : said_in entries ≡ text r s (before ++ asked request ∷ []) told

-- A request from a state writes something and lacks nothing by itself; or the server writes something behind it, and neither lacks anything.
abbrev pub WritesAt : Rules → State → Request → ℕ → Type 0
WritesAt r s q moment = ((r.alone s q moment ≡ None) × (1 ≤ length (r.atoms s q moment)))
    ⊎ ((r.wants s q moment ≡ None) × (1 ≤ length (r.own s q moment)))

-- A request was under way, the last one that was begun, and none before it lacked a number or a family, nor what the server did behind them. It
-- writes something, or the server does behind it.
pub record IsWriting (r : Rules) (s : State) (ts : List Turn) (told : List ℕ) : Type 0 where
  pub before : List Turn
  pub request : Request
  pub rest : List Turn
  pub parts : ts ≡ before ++ asked request ∷ rest
  pub count : length told ≡ moments_taken (before ++ asked request ∷ [])
  pub first : List ℕ
  pub moment : ℕ
  pub moments : told ≡ first ++ moment ∷ []
  pub enough : wanted_by_talk r s before first ≡ None
  pub writes : WritesAt r (after r s before first) request moment

-- So it was, or there was work behind it.
abbrev pub RequestIsUnderWay : Rules → State → Bool → List Turn → Log → List ℕ → Type 0
RequestIsUnderWay r s mute ts entries told = IsWriting r s ts told ⊎ IsWorking r s mute ts entries told

-- Why turns broke off: a request has no answer, or what the server does behind one broke off. A file was wanted then, by a write on a store whose
-- last segment is of the first form, or by work, only where nothing before it lacked a number or a family, and as many numbers as a task with a
-- write before it takes at most at each of the moments told, from the first file that work made before them on, reach the last.
abbrev pub TurnsBreakOffFor : Rules → RunFault → ℕ → State → Bool → List Turn → Log → List ℕ → Type 0
TurnsBreakOffFor r fault next s mute ts entries told = IsCausedBy (wanted_by_talk r s ts told) fault
    ⊎ (IsFileFault (reach next told) fault × RequestIsUnderWay r s mute ts entries told)

-- Doing these turns broke off.
pub record DoesSome (r : Rules) (fault : RunFault) (next : ℕ) (s : State) (mute : Bool) (ts : List Turn) (entries : Log) (told : List ℕ) : Type 0 where
  pub said : IsPrefix (said_in entries) (text r s ts told)
  pub most : length told ≤ moments_taken ts
  pub wants : TurnsBreakOffFor r fault next s mute ts entries told
  pub silent : mute ≡ true → said_in entries ≡ []
  pub hush : Hushes entries
  pub still : mute ≡ true → says_something entries ≡ false
  pub begins : Begins r s ts told

-- Bytes may be taken on a connection that began at a place and a state: the end hasn't come, no say failed, another request may come,
-- and the turns of the bytes taken before were all done, with the first moments, and all of their text said.
pub record Idle (r : Rules) (p : ConnectionPlace) (s : State) (mute : Bool) (told : List ℕ) (before : Log) : Type 0 where
  pub goes_on : no_more_bytes before ≡ false
  pub heard : (mute || says_failed before) ≡ false
  pub goes : 0 < (final_at r p (taken before)).left
  pub first : List ℕ
  pub rest : List ℕ
  pub moments : told ≡ first ++ rest
  pub count : length first ≡ moments_taken (turns_at r p (taken before))
  pub said : said_in before ≡ text r s (turns_at r p (taken before)) first

-- Each take of these entries, with those before them, came where bytes may be taken.
abbrev pub TakesIdle : Rules → ConnectionPlace → State → Bool → List ℕ → Log → Log → Type 0
TakesIdle r p s mute told before [] = Unit {0}
TakesIdle r p s mute told before (e ∷ es) =
    (is_take (event_of e.1) ≡ true → Idle r p s mute told before)
    × TakesIdle r p s mute told (before ++ e ∷ []) es
