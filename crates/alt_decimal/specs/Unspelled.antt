-- How the bytes of a spelling are read back, for private contracts.
use Rattle.std.specs.Prelude.{◌≡◌, ◌≢◌, ℕ, ◌+◌, ◌-◌, ◌*◌, ◌%◌, ◌^◌, ◌<◌, ◌≤◌, ◌⊎◌, if◌then◌else◌, Bool, List, [], ◌∷◌, length, take, map, slice_index, ℤ}
use Rattle.alt_decimal.specs.Digits.{width}
use Rattle.alt_decimal.specs.Number.{with_sign, FitsDecimal}
use Rattle.alt_decimal.specs.Spelled.{spelled}

-- a byte as it was before those of a negative number were flipped
abbrev pub raw : Bool → ℕ → ℕ
raw negative b = if negative then 255 - b else b

-- each of these bytes as it was
abbrev pub raws : Bool → List ℕ → List ℕ
raws negative bytes = map (raw negative) bytes

-- the number whose digits the pairs are, behind those of c
abbrev pub pairs_value_after : ℕ → List ℕ → ℕ
pairs_value_after c [] = c
pairs_value_after c (b ∷ bytes) = pairs_value_after (c * 100 + (b - 1)) bytes

-- the byte of a pair of digits
abbrev pub IsPair : ℕ → Type 0
IsPair b = (0 < b) × (b ≤ 100)

-- n pairs stand at the front, and 0 behind them; no number has more than 19
pub record Ends (bytes : List ℕ) (n : ℕ) : Type 0 where
  pub within : n < length bytes
  pub at_end : slice_index bytes n ≡ 0
  pub few : n ≤ 19
  pub pairs : (k : ℕ) → k < n → IsPair (slice_index bytes k)

-- the pairs of a spelling: the first digit is not 0, nor the last pair
pub record PairsAreWhole (c count : ℕ) : Type 0 where
  pub some : 0 < count
  pub first : 10 ^ (2 * count - 1) ≤ c
  pub last : c % 100 ≢ 0

-- z has the digits of `count` pairs that write c, with that byte for the place of the first; the last pair may end in a 0 that is no
-- digit of z
pub record Decodes (negative : Bool) (first c count : ℕ) (z : ℤ) : Type 0 where
  pub coefficient : ℕ
  pub behind : ℕ
  pub is : z ≡ with_sign negative (coefficient * 10 ^ behind)
  pub last : 0 < coefficient % 10
  pub few : coefficient < 10 ^ 38
  pub place : width coefficient + behind ≡ first + 38
  pub digits : ((coefficient ≡ c) × (width coefficient ≡ 2 * count))
      ⊎ ((c ≡ coefficient * 10) × (width coefficient + 1 ≡ 2 * count))

-- behind the first byte stand the bytes of a spelling of z, which has `len` bytes with the first
pub record IsSpelledAt (negative : Bool) (bytes : List ℕ) (z : ℤ) (len : ℕ) : Type 0 where
  pub spelling : spelled z ≡ (if negative then 1 else 3) ∷ take (len - 1) bytes
  pub fits : FitsDecimal z
  pub some : 0 < len
