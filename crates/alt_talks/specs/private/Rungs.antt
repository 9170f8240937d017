-- What a part of the serving of connections says, takes and leaves: one word for each rung, from a say to a connection. Private contracts alone cite it.
use Rattle.std.specs.Prelude.{◌≡◌, ◌<◌, ◌-◌, ◌⊎◌, if◌then◌else◌, drop, ℕ, List, [], ◌∷◌, ◌++◌, Bool, true, false, not, ◌||◌, None, Option}
use Rattle.alt_base.specs.Prefix.{IsPrefix}
use Rattle.alt_machine.specs.State.{State}
use Rattle.alt_shell.specs.Log.{Log, until, taken, said_in, says_failed, crosses, accepted, none_came, entry}
use Rattle.alt_talks.specs.declared.fault.RunFault.{RunFault}
use Rattle.alt_talks.specs.Talks.{Turn, asked, Rules, Head, ConnectionPlace, at, request_size, request_of, turns, final, turns_at, final_at, has_refused}
use Rattle.alt_talks.specs.Stretches.{no_more_bytes, says_something, Hushes, SaidOf, Does, DoesSome, TakesIdle}
use Rattle.alt_talks.specs.Faults.{IsCausedBy}
use Rattle.alt_talks.specs.Connections.{Connection, Serves, ConnectionBreaksOff}
use Rattle.alt_talks.specs.Own.{last_told, own_between}
use Rattle.alt_talks.specs.Runs.{OfStretch}
use Rattle.alt_disk.specs.Disk.{DiskState}
use Rattle.alt_talks.specs.Arrivals.{Came, NoneWill}
use Rattle.alt_machine.specs.Outcomes.{last_state}

-- nothing was taken, and no connection came or went
pub record TakesNothing (entries : Log) : Type 0 where
  pub still : taken entries ≡ []
  pub goes_on : no_more_bytes entries ≡ false
  pub inside : crosses entries ≡ false

-- A text was said, as far as no say failed before or now.
pub record Utters (mute : Bool) (bytes : List ℕ) (after_it : Bool) (entries : Log) (told : List ℕ) : Type 0 where
  pub said : SaidOf after_it (said_in entries) bytes
  pub broke : after_it ≡ (mute || says_failed entries)
  pub silent : mute ≡ true → said_in entries ≡ []
  pub by : (moment : ℕ) → IsPrefix (said_in (until moment entries)) bytes
  pub hush : Hushes entries
  pub still : mute ≡ true → says_something entries ≡ false
  pub quiet : TakesNothing entries
  pub timeless : told ≡ []

-- and nothing was taken
pub record Answers (r : Rules) (s : State) (mute : Bool) (ts : List Turn) (t : State) (after_it : Bool) (entries : Log) (told : List ℕ) : Type 0 where
  pub does : Does r s mute ts t after_it entries told
  pub quiet : TakesNothing entries

-- and nothing was taken
pub record AnswersSome (r : Rules) (fault : RunFault) (next : ℕ) (s : State) (mute : Bool) (ts : List Turn) (entries : Log) (told : List ℕ) : Type 0 where
  pub some : DoesSome r fault next s mute ts entries told
  pub quiet : TakesNothing entries

-- Turns at hand were done, from a place to a place, and nothing was taken.
pub record MovesConnection (r : Rules) (p : ConnectionPlace) (s : State) (mute : Bool) (q : ConnectionPlace) (t : State) (after_it : Bool) (entries : Log) (told : List ℕ) : Type 0 where
  pub done : List Turn
  pub does : Does r s mute done t after_it entries told
  pub splits : turns r p.left p.greeted p.bytes ≡ done ++ turns r q.left q.greeted q.bytes
  pub same : final r p.left p.greeted p.bytes ≡ final r q.left q.greeted q.bytes
  pub clear : 0 < q.left → has_refused done ≡ false
  pub quiet : TakesNothing entries

-- no turn is at hand
abbrev pub AtRest : Rules → ConnectionPlace → Type 0
AtRest r q = (turns r q.left q.greeted q.bytes ≡ []) × (final r q.left q.greeted q.bytes ≡ q)

-- One turn was done, or none was at hand.
pub record StepsConnection (r : Rules) (more : Bool) (p : ConnectionPlace) (s : State) (mute : Bool) (q : ConnectionPlace) (t : State) (after_it : Bool) (entries : Log) (told : List ℕ) : Type 0 where
  pub moves : MovesConnection r p s mute q t after_it entries told
  pub rests : more ≡ false → AtRest r q
  pub fewer : more ≡ true → q.left < p.left

-- The whole request behind this head was carried out, and dropped from the front.
pub record CarriesRequest (r : Rules) (h : Head) (p : ConnectionPlace) (s : State) (mute : Bool) (q : ConnectionPlace) (t : State) (after_it : Bool) (entries : Log) (told : List ℕ) : Type 0 where
  pub answers : Answers r s mute (asked (request_of h p.bytes (p.left - 1)) ∷ []) t after_it entries told
  pub place : q ≡ at (if h.close then 0 else p.left - 1) false (drop (request_size h) p.bytes)

-- Turns were done until none was left at hand.
pub record MovesAll (r : Rules) (p : ConnectionPlace) (s : State) (mute : Bool) (q : ConnectionPlace) (t : State) (after_it : Bool) (entries : Log) (told : List ℕ) : Type 0 where
  pub does : Does r s mute (turns r p.left p.greeted p.bytes) t after_it entries told
  pub place : q ≡ final r p.left p.greeted p.bytes
  pub clear : 0 < q.left → has_refused (turns r p.left p.greeted p.bytes) ≡ false
  pub quiet : TakesNothing entries

-- Some bytes were taken, and the turns at hand then were done. There is more, or the end came.
pub record GoesOneTake (r : Rules) (more : Bool) (p : ConnectionPlace) (s : State) (mute : Bool) (q : ConnectionPlace) (t : State) (after_it : Bool) (entries : Log) (told : List ℕ) : Type 0 where
  pub does : Does r s mute (turns_at r p (taken entries)) t after_it entries told
  pub place : q ≡ final_at r p (taken entries)
  pub clear : 0 < q.left → has_refused (turns_at r p (taken entries)) ≡ false
  pub ends : no_more_bytes entries ≡ not more
  pub inside : crosses entries ≡ false
  pub idle : TakesIdle r p s mute told [] entries

-- the turns at hand broke off, and nothing was taken
pub record MovesSome (r : Rules) (fault : RunFault) (next : ℕ) (p : ConnectionPlace) (s : State) (mute : Bool) (entries : Log) (told : List ℕ) : Type 0 where
  pub some : DoesSome r fault next s mute (turns r p.left p.greeted p.bytes) entries told
  pub quiet : TakesNothing entries

-- Takes and turns went on until no more came, a say failed, or the turns ended.
pub record EndsTalk (r : Rules) (p : ConnectionPlace) (s : State) (mute : Bool) (q : ConnectionPlace) (t : State) (after_it : Bool) (entries : Log) (told : List ℕ) : Type 0 where
  pub more : Bool
  pub goes : GoesOneTake r more p s mute q t after_it entries told
  pub cause : (more ≡ false) ⊎ (after_it ≡ true) ⊎ (q.left ≡ 0)

-- taking, and the turns at hand then, broke off
pub record GoesSome (r : Rules) (fault : RunFault) (next : ℕ) (p : ConnectionPlace) (s : State) (mute : Bool) (entries : Log) (told : List ℕ) : Type 0 where
  pub some : DoesSome r fault next s mute (turns_at r p (taken entries)) entries told
  pub inside : crosses entries ≡ false
  pub idle : TakesIdle r p s mute told [] entries

-- a connection came and was served, or none came any more
abbrev pub ConnectionComes : Rules → ℕ → Bool → State → State → Log → List ℕ → Type 0
ConnectionComes r per true s t entries told = (k : Connection) × Serves r per s k t × (entries ≡ entry k.moment k.clocked accepted ∷ k.entries) × (told ≡ k.told)
ConnectionComes r per false s t entries told = (t ≡ s) × ((m n : ℕ) × (entries ≡ entry m n none_came ∷ [])) × (told ≡ [])

-- none came, since the wait failed
abbrev pub Missed : RunFault → Log → List ℕ → Type 0
Missed fault entries told = (entries ≡ []) × (told ≡ []) × IsCausedBy None fault

-- one came, broke off and was hung up
abbrev pub Broke : Rules → ℕ → RunFault → ℕ → State → Log → List ℕ → Type 0
Broke r per fault next s entries told = (k : Connection)
    × ConnectionBreaksOff r per fault next s k
    × (entries ≡ entry k.moment k.clocked accepted ∷ k.entries) × (told ≡ k.told)

-- either
abbrev pub ComesSome : Rules → ℕ → RunFault → ℕ → State → Log → List ℕ → Type 0
ComesSome r per fault next s entries told = Missed fault entries told
    ⊎ Broke r per fault next s entries told

-- and the last moment that was told by its end is known, as it was before it
abbrev pub KnowsLastMoment : Option ℕ → Option ℕ → OfStretch → OfStretch
KnowsLastMoment before last P old new entries told =
    P old new entries told × (last ≡ last_told before told)

-- one came, or none will come
abbrev pub CameOne : Bool → DiskState → DiskState → Type 0
CameOne true old new = Came 1 old new
CameOne false old new = NoneWill 0 old new

-- the state behind a connection, once the server made its own requests there
abbrev pub after_between : ℕ → Option ℕ → State → State
after_between number moment s = last_state s (own_between number moment s).atoms
