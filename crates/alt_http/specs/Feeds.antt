-- The last line feed of the bytes in which a head has to end. These words serve the clauses of
-- private functions alone.
use Rattle.std.specs.Prelude.{◌≡◌, ◌<◌, ◌==◌, ℕ, suc, false, List, [], ◌∷◌, ◌++◌, length, take, drop, All}
use Rattle.alt_http.specs.Heads.{IsHeadFront}

-- no byte is a line feed
abbrev pub IsPlain : List ℕ → Type 0
IsPlain bytes = All (λ b. (b == 10) ≡ false) bytes

-- the last line feed stands at this place
pub record LastLineFeedStandsAt (bytes : List ℕ) (place : ℕ) : Type 0 where
  pub below : place < length bytes
  pub parts : bytes ≡ (take place bytes ++ 10 ∷ []) ++ drop (suc place) bytes
  pub plain : IsPlain (drop (suc place) bytes)

-- the front is the longest that ends in a line feed
pub record IsLastFront (bytes front : List ℕ) : Type 0 where
  pub is_front : IsHeadFront bytes front
  pub plain : IsPlain (is_front.rest)
