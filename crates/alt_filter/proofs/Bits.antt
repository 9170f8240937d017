-- One bit of a list of numbers, set.
use Rattle.std.proofs.Common.{◌≡◌, ◌≢◌, ◌⊎◌, ⊎_elim, ◌∙◌, sym, ap, ℕ, ◌*◌, ◌/◌, ◌%◌, ◌^◌, ◌<◌, List, length, get_or, set, arith}
use Rattle.std.specs.Int.{w64, bit_at}
use Rattle.std.specs.Int.Bits.{bit_or}
use Rattle.std.proofs.lemmas.Bool.{cases_eq}
use Rattle.std.proofs.lemmas.List.{get_or-set_same, get_or-set_other}
use Rattle.std.proofs.lemmas.Nat.Bits.{bit_at_set_same, bit_at_set_other}

-- the number at a place of a list, with one bit set
abbrev pub with_bit : List ℕ → ℕ → ℕ → ℕ
with_bit bits word bit = bit_or (get_or bits word 0) (1 * 2 ^ bit % 2 ^ 64)

module _ (bits : List ℕ) (place : ℕ) (within : place / 64 < length bits) where
  abbrev after : List ℕ
  after = set bits (place / 64) (with_bit bits (place / 64) (place % 64))

  small : place % 64 < 64
  small = omega arith

  -- it is set
  pub set_there : bit_at (get_or after (place / 64) 0) (place % 64) ≡ 1
  set_there =
      ap (λ n. bit_at n (place % 64))
      (get_or-set_same bits (place / 64) (with_bit bits (place / 64) (place % 64)) 0 within)
      ∙ bit_at_set_same w64 (get_or bits (place / 64) 0) (place % 64) small

  -- and no other is changed
  pub set_elsewhere : (other : ℕ) → other ≢ place
      → bit_at (get_or after (other / 64) 0) (other % 64)
      ≡ bit_at (get_or bits (other / 64) 0) (other % 64)
  set_elsewhere other apart = ⊎_elim same_word other_word (cases_eq (other / 64) (place / 64))
    where
      other_word : (other / 64 ≡ place / 64 → ⊥)
          → bit_at (get_or after (other / 64) 0) (other % 64)
          ≡ bit_at (get_or bits (other / 64) 0) (other % 64)
      other_word differs =
          ap (λ n. bit_at n (other % 64))
          (get_or-set_other bits (place / 64) (other / 64)
          (with_bit bits (place / 64) (place % 64)) 0 differs)

      same_word : other / 64 ≡ place / 64
          → bit_at (get_or after (other / 64) 0) (other % 64)
          ≡ bit_at (get_or bits (other / 64) 0) (other % 64)
      same_word same =
          ap (λ w. bit_at (get_or after w 0) (other % 64)) same
          ∙ ap (λ n. bit_at n (other % 64))
          (get_or-set_same bits (place / 64) (with_bit bits (place / 64) (place % 64)) 0 within)
          ∙ bit_at_set_other w64 (get_or bits (place / 64) 0) (place % 64) small
          (other % 64) (λ e. apart (omega (arith, same, e)))
          ∙ ap (λ w. bit_at (get_or bits w 0) (other % 64)) (sym same)
