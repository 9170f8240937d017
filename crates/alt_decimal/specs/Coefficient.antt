-- What reading makes of the digits of a number text, for private contracts.
use Rattle.std.specs.Prelude.{◌≡◌, ◌≢◌, ℕ, ◌-◌, ◌*◌, ◌%◌, ◌^◌, ◌<◌, List, ◌++◌, length, replicate, slice_index}

-- n is c with `zeros` zeros behind it, and the last digit of c is not 0; or both are 0
pub record IsCoefficient (n c zeros : ℕ) : Type 0 where
  pub value : n ≡ c * 10 ^ zeros
  pub last : 0 < c → 0 < c % 10
  pub few : c < 10 ^ 38
  pub room : zeros < 2 ^ 65

-- The digits w and f are those of whole and fraction from the first to the last that is not 0.
pub record Trims (whole fraction w f : List ℕ) (behind : ℕ) : Type 0 where
  pub digits : (before : ℕ) × (whole ++ fraction
      ≡ replicate before 48 ++ (w ++ f) ++ replicate behind 48)
  pub first : 0 < length (w ++ f) → slice_index (w ++ f) 0 ≢ 48
  pub last : 0 < length (w ++ f) → slice_index (w ++ f) (length (w ++ f) - 1) ≢ 48
  pub room : behind < 2 ^ 65
