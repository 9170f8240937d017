-- Which lists of numbers are bytes that a program can hold.
use Rattle.std.specs.Prelude.{ℕ, ◌<◌, ◌^◌, List, length}
use Rattle.std.specs.List.{AllByRecursion}

-- a number of 8 bytes can tell how many there are
abbrev pub IsShort : {A : Type 0} → List A → Type 0
IsShort xs = length xs < 2 ^ 64

-- each is a byte, and a number of 8 bytes can tell how many there are
abbrev pub IsBytes : List ℕ → Type 0
IsBytes s = AllByRecursion (λ b. b < 256) s × IsShort s
