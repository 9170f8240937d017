-- What serving connections promises.
use Rattle.std.specs.Prelude.{◌≡◌, ◌<◌, ◌≤◌, ◌+◌, ◌⊎◌, ℕ, suc, List, [], ◌∷◌, ◌++◌, length, true, false, Option, None}
use Rattle.std.specs.List.{flat_map}
use Rattle.alt_machine.specs.Outcomes.{last_state}
use Rattle.alt_machine.specs.State.{State}
use Rattle.alt_shell.specs.Log.{Log, accepted, none_came, hung_up, entry, taken, says_failed, crosses}
use Rattle.alt_talks.specs.Faults.{IsCausedBy, reach}
use Rattle.alt_talks.specs.Own.{BetweenNot, last_told}
use Rattle.alt_talks.specs.declared.fault.RunFault.{RunFault}
use Rattle.alt_talks.specs.Talks.{Turn, Rules, ConnectionPlace, at, turns, closes}
use Rattle.alt_talks.specs.TalkTexts.{after}
use Rattle.alt_talks.specs.Stretches.{Does, DoesSome, TakesIdle, no_more_bytes}

-- A connection: the moment at which it was accepted and how many moments had been told by then, the entries from then on, its hanging up
-- among them, and the moments told on it.
pub record Connection : Type 0 where
  pub moment : ℕ
  pub clocked : ℕ
  pub entries : Log
  pub told : List ℕ

-- what connections add to the log, one after another
abbrev pub connection_entries : List Connection → Log
connection_entries ks = flat_map (λ k. entry k.moment k.clocked accepted ∷ k.entries) ks

-- the moments told on them
abbrev pub told_of : List Connection → List ℕ
told_of ks = flat_map (λ k. k.told) ks

-- the turns of a connection: those of the bytes taken on it
abbrev pub turns_of : Rules → ℕ → Connection → List Turn
turns_of r per k = turns r per false (taken k.entries)

-- where a connection begins
abbrev pub connection_start : ℕ → ConnectionPlace
connection_start per = at per false []

-- A connection was served and hung up: where its end was taken, a take or a say on it failed, or its turns ended. Where no say failed
-- its whole text was said, and else a part from the front; the state is that of its requests, answered or not. Bytes were taken only
-- where all turns of those before were done, and none once the turns had ended or a say failed.
pub record Serves (r : Rules) (per : ℕ) (s : State) (k : Connection) (t : State) : Type 0 where
  pub does : Does r s false (turns_of r per k) t (says_failed k.entries) k.entries k.told
  pub cause : (no_more_bytes k.entries ≡ true) ⊎ (says_failed k.entries ≡ true) ⊎ (closes (turns_of r per k) ≡ true)
  pub idle : TakesIdle r (connection_start per) s false k.told [] k.entries
  pub before : Log
  pub at : ℕ
  pub clocked : ℕ
  pub hung : k.entries ≡ before ++ entry at clocked hung_up ∷ []
  pub inside : crosses before ≡ false

-- Serving a connection broke off, and it was hung up; bytes were taken as on one that was served, and no other connection came or went.
pub record ConnectionBreaksOff (r : Rules) (per : ℕ) (fault : RunFault) (next : ℕ) (s : State) (k : Connection) : Type 0 where
  pub some : DoesSome r fault next s false (turns_of r per k) k.entries k.told
  pub idle : TakesIdle r (connection_start per) s false k.told [] k.entries
  pub before : Log
  pub at : ℕ
  pub clocked : ℕ
  pub hung : k.entries ≡ before ++ entry at clocked hung_up ∷ []
  pub inside : crosses before ≡ false

-- the state after what the server does by itself behind the connection of a number, where this was the last moment told by then
abbrev pub after_own : Rules → ℕ → Option ℕ → State → State
after_own r number moment s = last_state s (r.between number moment s).atoms

-- One after another, of which the first has this number, and the last moment told before it is this one. Behind each the server made its own
-- requests, which lacked nothing.
abbrev pub ServesAll : Rules → ℕ → ℕ → Option ℕ → State → List Connection → State → Type 0
ServesAll r per number moment s [] t = t ≡ s
ServesAll r per number moment s (k ∷ ks) t = (u : State) × Serves r per s k u
    × ((r.between number (last_told moment k.told) u).lacks ≡ None)
    × ServesAll r per (suc number) (last_told moment k.told)
    (after_own r number (last_told moment k.told) u) ks t

-- the state after all, and so the fold over all requests in order
abbrev pub after_all : Rules → ℕ → ℕ → Option ℕ → State → List Connection → State
after_all r per number moment s [] = s
after_all r per number moment s (k ∷ ks) = after_all r per (suc number) (last_told moment k.told)
    (after_own r number (last_told moment k.told) (after r s (turns_of r per k) k.told)) ks

-- Status 0: so many connections were served, or none came any more.
pub record Served (r : Rules) (per connections : ℕ) (s t : State) (entries : Log) (told : List ℕ) : Type 0 where
  pub all : List Connection
  pub last : Log
  pub made : entries ≡ connection_entries all ++ last
  pub moments : told ≡ told_of all
  pub each : ServesAll r per 1 None s all t
  pub state : t ≡ after_all r per 1 None s all
  pub ends : ((length all ≡ connections) × (last ≡ [])) ⊎ ((length all < connections) × ((m n : ℕ) × (last ≡ entry m n none_came ∷ [])))

-- Behind a connection that was served and hung up the server's own requests broke off: for what they lack, or, where they write anything and so
-- many numbers reach the last file, for that file, which the segment wants that the first of their writes makes.
pub record BreaksBetween (r : Rules) (per numbers number : ℕ) (moment : Option ℕ) (fault : RunFault)
    (s : State) (k : Connection) : Type 0 where
  pub left : State
  pub serves : Serves r per s k left
  pub cause : BetweenNot numbers (r.between number moment left) fault

-- Another status: the connections before were served so, and one may have broken off, which was hung up then or never accepted; or what the
-- server does by itself behind it did. The moments told on those before count where one that broke off wants a file.
pub record ServedSome (r : Rules) (per connections : ℕ) (fault : RunFault) (next : ℕ) (s : State) (entries : Log) (told : List ℕ) : Type 0 where
  pub all : List Connection
  pub halfway : State
  pub each : ServesAll r per 1 None s all halfway
  pub last : List Connection
  pub made : entries ≡ connection_entries all ++ connection_entries last
  pub moments : told ≡ told_of all ++ told_of last
  pub some : ((last ≡ []) × IsCausedBy None fault) ⊎ ((k : Connection) × (last ≡ k ∷ []) × ConnectionBreaksOff r per fault (reach next (told_of all)) halfway k)
      ⊎ ((k : Connection) × (last ≡ k ∷ []) × BreaksBetween r per (reach next told) (suc (length all)) (last_told None told) fault halfway k)
  pub most : length all + length last ≤ connections
