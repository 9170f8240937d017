-- Where line feeds stand. These words serve the clauses of private functions alone.
use Rattle.std.specs.Prelude.{◌≡◌, ◌<◌, ℕ, suc, List, ◌∷◌, ◌++◌, length, take, drop, All, false}
use Rattle.alt_lines.specs.Lines.{is_line_feed}

-- no byte is a line feed
abbrev pub AllPlain : List ℕ → Type 0
AllPlain bytes = All (λ b. is_line_feed b ≡ false) bytes

-- the first line feed stands at this place
pub record FirstLineFeedStandsAt (bytes : List ℕ) (place : ℕ) : Type 0 where
  pub below : place < length bytes
  pub plain : AllPlain (take place bytes)
  pub parts : bytes ≡ take place bytes ++ 10 ∷ drop (suc place) bytes
