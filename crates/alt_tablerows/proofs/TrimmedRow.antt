-- What the row of number 0 tells.
use Rattle.std.proofs.Common.{◌≡◌, ◌≤◌, ◌<◌, ◌^◌, refl, sym, ap, subst, ◌∙◌, ℕ, Bool, true, false, nat_lt, List, length, IsTrue, arith}
use Rattle.std.proofs.lemmas.Bool.{eqb-true, ltb-true, lt-ltb, leb-true}
use Rattle.std.specs.Int.{w64, from_be_bytes}
use Rattle.std.specs.Prelude.{◌==◌, ◌↔◌, if◌then◌else◌, nat_le, codes}
use Rattle.alt_cells.specs.Changes.{Columns}
use Rattle.alt_changes.specs.ChangeRows.{row_key}
use Rattle.alt_changes.specs.TrimRows.{number_told, trimmed_columns}
use Rattle.alt_tablerows.specs.CatalogRows.{one_column}
use Rattle.alt_tablerows.proofs.OneColumn.{one_value}
use Rattle.alt_tablerows.proofs.NumberKeys.{key_one}

-- bytes that aren't 8 tell no number
pub not_told : (bytes : List ℕ) → (length bytes ≡ 8 → ⊥) → 0 ≡ number_told bytes
not_told bytes other = by (length bytes == 8) refl
  where
    by : (b : Bool) → (length bytes == 8) ≡ b → 0 ≡ (if b then from_be_bytes w64 bytes else 0)
    by true e = absurd (other (eqb-true (length bytes) 8 e))
    by false e = refl

-- a row tells a number from 1 on and below the next one
abbrev pub Tells : Columns → ℕ → Type 0
Tells row next = (n : ℕ) × (1 ≤ n) × (n < next) × (row ≡ trimmed_columns n)

module _ (row : Columns) (bytes : List ℕ) (next : ℕ) (fits : next < 2 ^ 64)
    (is : row ≡ one_column (codes "x") bytes) where
  -- its one column has the bytes of that number
  bytes_told : (told : Tells row next) → bytes ≡ row_key told.0
  bytes_told told = one_value (codes "x") bytes (row_key told.0) (sym is ∙ told.3)

  -- bytes of no number tell none
  pub no_bytes : ((n : ℕ) → n < 2 ^ 64 → bytes ≡ row_key n → ⊥) → Tells row next → ⊥
  no_bytes none told = let high = told.2 in
      none told.0 (omega (arith, high, fits)) (bytes_told told)

  module _ (n : ℕ) (small : n < 2 ^ 64) (at : bytes ≡ row_key n) where
    one_told : (told : Tells row next) → told.0 ≡ n
    one_told told = let high = told.2 in
        key_one told.0 n (omega (arith, high, fits)) small (sym (bytes_told told) ∙ at)

    -- those of a number from 1 on tell it, where it is below the next one
    pub tells_it : 1 ≤ n → IsTrue (nat_lt n next) ↔ Tells row next
    tells_it low = (
      λ less. (n, low, ltb-true n next less, is ∙ ap (one_column (codes "x")) at),
      λ told. lt-ltb n next (subst (λ m. m < next) (one_told told) told.2),
    )

    -- and those of 0 tell none
    pub tells_none : n < 1 → IsTrue (nat_le 1 n) ↔ Tells row next
    tells_none zero_so = (
      λ up. absurd (let low = leb-true 1 n up in omega (arith, low, zero_so)),
      λ told. absurd (let low = told.1 in
          let same = one_told told in omega (arith, low, same, zero_so)),
    )
