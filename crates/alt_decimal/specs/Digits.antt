-- The decimal digits of whole numbers: how many zeros they end with, and what stands before these.
use Rattle.std.specs.Prelude.{ℕ, zero, suc, ◌+◌, ◌/◌, ◌%◌, ◌^◌, ◌==◌, if◌then◌else◌, List, [], ◌∷◌, ◌++◌, length, map}
use Rattle.std.specs.Int.Digits.{digits_of}

-- how often ten divides n, at most k times
abbrev pub zeros_within : ℕ → ℕ → ℕ
zeros_within zero n = 0
zeros_within (suc k) n = if n % 10 == 0 then 1 + zeros_within k (n / 10) else 0

-- how many zeros the digits of n end with, for n above 0
unfoldable pub trailing_zeros : ℕ → ℕ
trailing_zeros n = zeros_within n n

-- n without the zeros that its digits end with
unfoldable pub trimmed : ℕ → ℕ
trimmed n = n / 10 ^ trailing_zeros n

-- how many digits n has, the first of which is not 0: none for 0
unfoldable pub width : ℕ → ℕ
width n = length (digits_of 10 n)

-- how many digits n has between its leading and trailing zeros; zero has the one digit 0
unfoldable pub digit_count : ℕ → ℕ
digit_count n = if n == 0 then 1 else width (trimmed n)

-- the last k digits of n, as many zeros in front as it takes
unfoldable pub padded : ℕ → ℕ → List ℕ
padded zero n = []
padded (suc k) n = padded k (n / 10) ++ n % 10 ∷ []

-- digits as bytes: each with the byte of the digit 0 added to it
unfoldable pub glyphs : ℕ → List ℕ → List ℕ
glyphs start digits = map (λ d. start + d) digits
