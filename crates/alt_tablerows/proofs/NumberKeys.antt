-- The keys of the rows of a stream tell their numbers.
use Rattle.std.proofs.Common.{◌≡◌, ◌<◌, ◌^◌, sym, ap, ◌∙◌, ℕ}
use Rattle.std.proofs.lemmas.Nat.{from_be_bytes-to_be_bytes_8}
use Rattle.std.specs.Int.{w64, from_be_bytes}
use Rattle.alt_changes.specs.ChangeRows.{row_key}

-- one key is that of one number
pub key_one : (m n : ℕ) → m < 2 ^ 64 → n < 2 ^ 64 → row_key m ≡ row_key n → m ≡ n
key_one m n p q e = sym (from_be_bytes-to_be_bytes_8 m p) ∙ ap (from_be_bytes w64) e
    ∙ from_be_bytes-to_be_bytes_8 n q
