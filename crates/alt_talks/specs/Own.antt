-- What the server does by itself: requests of its own, without a text, and without a moment of their own. Behind each request it builds an
-- index further, and behind every 64th connection it deletes expired items.
use Rattle.std.specs.Prelude.{◌≡◌, ◌≤◌, ◌+◌, ◌==◌, ◌%◌, ◌⊎◌, ℕ, zero, suc, nat_lt, length, if◌then◌else◌, List, [], ◌∷◌, ◌++◌, Bool, true, Option, Some, None}
use Rattle.std.specs.Option.{option_map_or}
use Rattle.alt_machine.specs.declared.TheConstants.{MOST_EXPIRED}
use Rattle.alt_machine.specs.Building.{build}
use Rattle.alt_machine.specs.Expiry.{expiring}
use Rattle.alt_machine.specs.Ops.ExpireItems.{expire_items}
use Rattle.alt_machine.specs.Outcomes.{Outcome, a_number, last_state}
use Rattle.alt_machine.specs.State.{State}
use Rattle.alt_machine.specs.Wanted.{Lack, lack_among, wanted}
use Rattle.alt_tables.specs.FilesLeft.{most_files}
use Rattle.alt_talks.specs.Faults.{IsAnswerFault, IsCausedBy, IsFileFault}
use Rattle.alt_talks.specs.Turns.{or_next}
use Rattle.alt_talks.specs.declared.expiring.TheConstants.{BETWEEN_EXPIRIES, MOST_EXPIRIES}
use Rattle.alt_talks.specs.declared.fault.RunFault.{RunFault}

-- What such requests come to: the single writes that they make, each by the state after it, and the number or family that one of them
-- wants and can't have.
pub record Own : Type 0 where
  pub atoms : List State
  pub lacks : Option Lack

-- nothing
abbrev pub none_own : Own
none_own = record { atoms = []; lacks = None }

-- what one request comes to from a state
abbrev pub own_of : State → Outcome → Own
own_of s outcome = record { atoms = outcome.atoms; lacks = wanted s outcome }

-- these and then those
abbrev pub own_then : Own → Own → Own
own_then a b = record { atoms = a.atoms ++ b.atoms; lacks = or_next a.lacks b.lacks }

-- ---- what the server does

-- ExpireItems at a moment, and again as long as one deletes as many as it may, so many times at most.
abbrev pub expiries : ℕ → ℕ → State → Own
expiries zero moment s = none_own
expiries (suc n) moment s = own_then (own_of s (expire_items s moment))
    (if nat_lt (length (expiring s moment)) MOST_EXPIRED then none_own
    else expiries n moment (last_state s (expire_items s moment).atoms))

-- Build: an index is built further, of the first table by name of which one is being built, by one write that takes a number.
abbrev pub building : State → Own
building s = record { atoms = build s; lacks = lack_among a_number s (build s) }

-- Behind a request, from the state that the request left: one Build.
unfoldable pub own_behind : State → Own
own_behind s = building s

-- Behind a connection, from the state that its requests left: how many connections have come by then, and the last moment that was told
-- while they were served, none where none was.
unfoldable pub own_between : ℕ → Option ℕ → State → Own
own_between number moment s = if number % BETWEEN_EXPIRIES == 0
    then option_map_or (λ m. expiries MOST_EXPIRIES m s) moment none_own else none_own

-- ---- the states behind it

abbrev pub after_behind : State → State
after_behind s = last_state s (own_behind s).atoms

-- the last moment told, where one was told before or none
abbrev pub last_told : Option ℕ → List ℕ → Option ℕ
last_told before [] = before
last_told before (m ∷ ms) = last_told (Some m) ms

-- ---- why it breaks off

-- Why what follows a request breaks off, where this is the first file that work makes before it: the server's own requests aren't made, for what
-- they lack or for the segment of the first of their writes; or, once they were made, a step of work breaks off, where one is to be made, and
-- wants a file only where as many numbers as it takes at most reach the last.
abbrev pub FollowsNot : Bool → ℕ → Own → RunFault → Type 0
FollowsNot works file own fault = IsAnswerFault file own.lacks own.atoms fault
    ⊎ ((works ≡ true) × (own.lacks ≡ None) × IsFileFault (file + most_files) fault)

-- Why what follows a connection breaks off: these requests of the server's own lack a number or a family, the device failed, or memory was
-- refused; or, where they write anything, the segment that the first of their writes makes wants a file, where so many numbers reach the last.
abbrev pub BetweenNot : ℕ → Own → RunFault → Type 0
BetweenNot numbers own fault = IsCausedBy own.lacks fault
    ⊎ ((1 ≤ length own.atoms) × IsFileFault numbers fault)
