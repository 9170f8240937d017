-- Where a head stands at the front of bytes, and what can become of bytes that have none
-- (docs/formats/http.md). A head is what httparse reads: its grammar says which bytes are one.
use Rattle.std.specs.Prelude.{◌≡◌, ℕ, List, [], ◌∷◌, ◌++◌, take}
use Rattle.httparse.specs.Grammar.{RequestHead, ReadsRequest, HasNoRequest, NeverHasRequest}

-- the most bytes of a head
abbrev pub most_of_head : ℕ
most_of_head = 16384

-- the bytes in which a head at the front has to end
abbrev pub window : List ℕ → List ℕ
window bytes = take most_of_head bytes

-- this head stands at the front
abbrev pub HasHead : List ℕ → RequestHead → Type 0
HasHead bytes h = (rest : List ℕ) × ReadsRequest (window bytes) h rest

-- none does
abbrev pub HasNoHead : List ℕ → Type 0
HasNoHead bytes = HasNoRequest (window bytes)

-- a front of the bytes that ends in a line feed, within the limit of a head
pub record IsHeadFront (bytes front : List ℕ) : Type 0 where
  pub line : List ℕ
  pub ends : front ≡ line ++ 10 ∷ []
  pub rest : List ℕ
  pub parts : window bytes ≡ front ++ rest

-- bytes can follow with which it is a head
pub record MayBecomeHead (front : List ℕ) : Type 0 where
  pub more : List ℕ
  pub head : RequestHead
  pub reads : ReadsRequest (front ++ more) head []

-- a front that ends in a line feed can be continued to no head
pub record NeverBecomesHead (bytes : List ℕ) : Type 0 where
  pub front : List ℕ
  pub is_front : IsHeadFront bytes front
  pub never : NeverHasRequest front

-- no head stands at the front, and each front that ends in a line feed can be continued to one
pub record CanGoOn (bytes : List ℕ) : Type 0 where
  pub none : HasNoHead bytes
  pub each : (front : List ℕ) → IsHeadFront bytes front → MayBecomeHead front
