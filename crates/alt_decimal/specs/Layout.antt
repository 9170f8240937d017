-- Where the point of a number stands among its digits, for private contracts.
use Rattle.std.specs.Prelude.{ℕ, ◌+◌, ◌-◌, nat_le, nat_lt, if◌then◌else◌, List, ◌∷◌, ◌++◌, length, take, drop, replicate}

-- digits with zeros behind them in units of 10^-167, as text
unfoldable pub magnitude_text : List ℕ → ℕ → List ℕ
magnitude_text digits zeros =
    if nat_le 167 zeros then digits ++ replicate (zeros - 167) 48
    else if nat_lt 167 (length digits + zeros)
    then take (length digits + zeros - 167) digits
    ++ (46 ∷ drop (length digits + zeros - 167) digits)
    else 48 ∷ 46 ∷ (replicate (167 - (length digits + zeros)) 48 ++ digits)
