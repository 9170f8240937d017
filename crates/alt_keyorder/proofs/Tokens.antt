-- A token is a number of 8 bytes.
use Rattle.std.proofs.Common.{ℕ, zero, suc, ◌<◌, ◌^◌, List, [], ◌∷◌, take, get_or, arith}
use Rattle.std.specs.List.{AllByRecursion}
use Rattle.std.specs.Int.{w32, w64, to_be_bytes, from_be_bytes}
use Rattle.std.specs.Prelude.{slice_index}
use Rattle.sha2.specs.Sha256.{digest_bytes, sha256}
use Rattle.alt_fields.proofs.Apart.{all_append}
use Rattle.alt_value.specs.CellBytes.{cell_bytes}
use Rattle.alt_keyorder.specs.Laws.{TokensFit}
use Rattle.alt_keyorder.specs.Token.{token_of}

-- each number of a digest is a byte
digest_bytes-below : (h : List ℕ) (n : ℕ) → AllByRecursion (λ b. b < 256) (digest_bytes h n)
unfolding digest_bytes
digest_bytes-below h zero = tt
digest_bytes-below h (suc n) =
    all_append (λ b. b < 256) (digest_bytes h n) (to_be_bytes w32 (slice_index h n))
    (digest_bytes-below h n)
    (omega arith, (omega arith, (omega arith, (omega arith, tt))))

sha256-below : (m : List ℕ) → AllByRecursion (λ b. b < 256) (sha256 m)
unfolding sha256
sha256-below m = digest_bytes-below _ 8

-- so is the one at each place among the first ones
taken-below : (n : ℕ) (bs : List ℕ) (i : ℕ) → AllByRecursion (λ b. b < 256) bs
    → get_or (take n bs) i 0 < 256
taken-below zero bs i h = omega arith
taken-below (suc n) [] i h = omega arith
taken-below (suc n) (b ∷ bs) zero h = h.0
taken-below (suc n) (b ∷ bs) (suc i) h = taken-below n bs i h.1

-- 8 bytes tell a number below 2 ^ 64
told-below : (bs : List ℕ) → ((i : ℕ) → get_or bs i 0 < 256) → from_be_bytes w64 bs < 2 ^ 64
told-below bs h = omega (arith, h 0, h 1, h 2, h 3, h 4, h 5, h 6, h 7)

-- a token is made of the first 8 bytes of a digest
pub token_fits : TokensFit
unfolding token_of
token_fits t = told-below (take 8 (sha256 (cell_bytes t)))
    (λ i. taken-below 8 (sha256 (cell_bytes t)) i (sha256-below (cell_bytes t)))
