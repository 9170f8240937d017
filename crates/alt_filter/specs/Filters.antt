-- What it means that a filter holds a key: the bits at the key's three places are set.
use Rattle.std.specs.Prelude.{◌≡◌, ℕ, ◌*◌, ◌/◌, ◌%◌, ◌^◌, List, take, get_or}
use Rattle.std.specs.Int.{w64, bit_at, to_be_bytes}
use Rattle.std.specs.Int.Bits.{bit_xor}
use Rattle.std.specs.List.{AllByRecursion, fold}
use Rattle.alt_filter.specs.declared.filter.Filter.{Filter}

-- FNV-1a of 64 bits: each byte is mixed in, and the prime multiplies what is there
abbrev pub fnv : List ℕ → ℕ
fnv key = fold (λ hash byte. bit_xor hash byte * 1099511628211 % 2 ^ 64) 14695981039346656037 key

-- its halves mixed, so that each bit of it counts in the highest ones
abbrev pub mixed : ℕ → ℕ
mixed hash = bit_xor hash (hash / 2 ^ 32) * 11400714819323198485 % 2 ^ 64

-- the hash of a key
unfoldable pub key_hash : List ℕ → ℕ
key_hash key = mixed (fnv key)

-- its three places, each below 256: the highest three bytes of its hash
unfoldable pub places : List ℕ → List ℕ
places key = take 3 (to_be_bytes w64 (key_hash key))

-- the bit at a place is set
abbrev pub IsSet : Filter → ℕ → Type 0
IsSet filter place = bit_at (get_or filter.bits (place / 64) 0) (place % 64) ≡ 1

-- the filter holds the key
unfoldable pub Holds : Filter → List ℕ → Type 0
Holds filter key = AllByRecursion (IsSet filter) (places key)
