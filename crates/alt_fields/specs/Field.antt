-- What a field is, as bytes, and where one stands (docs/formats/fields.md).
use Rattle.std.specs.Prelude.{◌≡◌, ℕ, List, ◌++◌, length, take, drop}
use Rattle.std.specs.Int.{w64, to_be_bytes, from_be_bytes}

-- a byte string as a field: its length in 8 bytes, high byte first, and then the bytes
abbrev pub field : List ℕ → List ℕ
field content = to_be_bytes w64 (length content) ++ content

-- these bytes stand at a place, whatever follows
abbrev pub StandsAt : List ℕ → ℕ → List ℕ → Type 0
StandsAt bytes at piece = take (length piece) (drop at bytes) ≡ piece

-- the length that the 8 bytes at a place tell
abbrev pub told_length : List ℕ → ℕ → ℕ
told_length bytes at = from_be_bytes w64 (take 8 (drop at bytes))
