-- The token of a partition key, which spreads items over the segments of a Scan.
use Rattle.std.specs.Prelude.{ℕ, take}
use Rattle.std.specs.Int.{w64, from_be_bytes}
use Rattle.sha2.specs.Sha256.{sha256}
use Rattle.alt_value.specs.Tree.{Tree}
use Rattle.alt_value.specs.CellBytes.{cell_bytes}

-- the number of the first 8 bytes, high byte first, of the SHA-256 (FIPS 180-4) of its cell bytes
unfoldable pub token_of : Tree → ℕ
token_of t = from_be_bytes w64 (take 8 (sha256 (cell_bytes t)))
