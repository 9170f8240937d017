-- The turns of a connection: what the bytes taken ask for, from the front.
use Rattle.std.specs.Prelude.{◌+◌, ◌==◌, ℕ, zero, suc, List, [], ◌∷◌, ◌++◌, length, take, drop, Bool, true, false, ◌||◌, if◌then◌else◌, nat_le, Option}
use Rattle.std.specs.List.{list_any}
use Rattle.alt_machine.specs.State.{State}
use Rattle.alt_machine.specs.Wanted.{Lack}
use Rattle.alt_talks.specs.Own.{Own}

-- a head of so many bytes, what its target is, the length of the body behind it, whether 100-continue is expected, and whether it closes
pub record Head : Type 0 where
  pub taken : ℕ
  pub target : Option (List ℕ)
  pub length : ℕ
  pub expect : Bool
  pub close : Bool

-- what stands at the front of bytes: no whole head yet, a head that is refused, or a head
pub data Scanned : Type 0 where
  unread : Scanned
  bad : ℕ → Scanned
  good : Head → Scanned

-- one thing by what stands there
abbrev pub by_scan : {A : Type 0} → A → (ℕ → A) → (Head → A) → Scanned → A
by_scan more refused head unread = more
by_scan more refused head (bad k) = refused k
by_scan more refused head (good h) = head h

-- a whole request; `close` is what its reply says
pub record Request : Type 0 where
  pub target : Option (List ℕ)
  pub body : List ℕ
  pub close : Bool

-- a turn: the client is let go on, a request is carried out, or a head is refused, by the number of the refusal
pub data Turn : Type 0 where
  onward : Turn
  asked : Request → Turn
  refused : ℕ → Turn

-- What the parts below give: how heads are read, the machine's step, what the server does by itself behind it and behind a
-- connection, and the texts that are said; what a request alone wants and can't have, and what it and what follows it want and can't have.
pub record Rules : Type 0 where
  pub scan : List ℕ → Scanned
  pub next : State → Request → ℕ → State
  pub atoms : State → Request → ℕ → List State
  pub own : State → Request → ℕ → List State
  pub reply : State → Request → ℕ → List ℕ
  pub alone : State → Request → ℕ → Option Lack
  pub wants : State → Request → ℕ → Option Lack
  pub between : ℕ → Option ℕ → State → Own
  pub refusal : ℕ → ℕ → List ℕ
  pub greeting : List ℕ

-- the bytes of a head and its body
abbrev pub request_size : Head → ℕ
request_size h = h.taken + h.length

-- whether they are all there
abbrev pub is_request_whole : Head → List ℕ → Bool
is_request_whole h bytes = nat_le (request_size h) (length bytes)

-- the request of a head behind which so many more may come: it closes by itself, or since none may follow it
abbrev pub request_of : Head → List ℕ → ℕ → Request
request_of h bytes n = record {
  target = h.target;
  body = take h.length (drop h.taken bytes);
  close = h.close || (n == 0);
}

-- 100 Continue is said before the body is looked at, once for a head
abbrev pub greets : Bool → Bool → List Turn
greets greeted expect = if expect then (if greeted then [] else onward ∷ []) else []

-- The turns of these bytes, where so many requests may come at most. `greeted` tells whether the head in front was told to go on
-- already. They end after the last request that may come, after one that closes, after a refusal, and where no whole request stands.
abbrev pub turns : Rules → ℕ → Bool → List ℕ → List Turn
turns r zero greeted bytes = []
turns r (suc n) greeted bytes =
    by_scan [] (λ k. refused k ∷ [])
    (λ h. greets greeted h.expect ++ (if is_request_whole h bytes then asked (request_of h bytes n) ∷ (if h.close then [] else turns r n false (drop (request_size h) bytes)) else []))
    (r.scan bytes)

-- Where a connection stands: how many requests may come, none where its turns have ended; whether the head in front was told to
-- go on; and the bytes that are left.
pub record ConnectionPlace : Type 0 where
  pub left : ℕ
  pub greeted : Bool
  pub bytes : List ℕ

-- a place
abbrev pub at : ℕ → Bool → List ℕ → ConnectionPlace
at n greeted bytes = record { left = n; greeted = greeted; bytes = bytes }

-- where the turns of these bytes leave it
abbrev pub final : Rules → ℕ → Bool → List ℕ → ConnectionPlace
final r zero greeted bytes = at 0 greeted bytes
final r (suc n) greeted bytes =
    by_scan (at (suc n) greeted bytes) (λ k. at 0 greeted bytes)
    (λ h. if is_request_whole h bytes then (if h.close then at 0 false (drop (request_size h) bytes) else final r n false (drop (request_size h) bytes)) else at (suc n) (greeted || h.expect) bytes)
    (r.scan bytes)

-- the turns from a place on, with more bytes
abbrev pub turns_at : Rules → ConnectionPlace → List ℕ → List Turn
turns_at r p more = turns r p.left p.greeted (p.bytes ++ more)

-- where these leave it
abbrev pub final_at : Rules → ConnectionPlace → List ℕ → ConnectionPlace
final_at r p more = final r p.left p.greeted (p.bytes ++ more)

-- a turn that ends the connection: the last request or one that closes, or a refusal
abbrev pub ends_talk : Turn → Bool
ends_talk onward = false
ends_talk (asked q) = q.close
ends_talk (refused k) = true

-- one of them does
abbrev pub closes : List Turn → Bool
closes ts = list_any ends_talk ts

-- whether a turn is a refusal
abbrev pub is_refused : Turn → Bool
is_refused onward = false
is_refused (asked q) = false
is_refused (refused k) = true

-- whether one of them is
abbrev pub has_refused : List Turn → Bool
has_refused ts = list_any is_refused ts
