-- The row of the next family tells it.
use Rattle.std.proofs.Common.{◌≡◌, ◌≢◌, ◌<◌, ◌≤◌, ◌^◌, refl, sym, ap, ◌∙◌, ℕ, zero, suc, Bool, true, false, List, Option, Some, None, arith}
use Rattle.std.specs.Prelude.{◌==◌, if◌then◌else◌, IfNone, codes}
use Rattle.std.specs.Int.{w32, to_be_bytes, from_be_bytes}
use Rattle.std.proofs.lemmas.Bool.{eqb-true, eq-eqb, false≢true}
use Rattle.std.proofs.lemmas.Nat.{from_be_bytes-to_be_bytes_4}
use Rattle.std.proofs.lemmas.Option.{same_Some}
use Rattle.alt_cells.specs.Changes.{Columns}
use Rattle.alt_machine.specs.declared.TheConstants.{FAMILIES_END}
use Rattle.alt_tablerows.specs.CatalogRows.{next_row, one_column}
use Rattle.alt_tablerows.proofs.OneColumn.{one_value}

-- the next family is the one that its row tells
pub next_row-one : (m n : ℕ) → m < 2 ^ 32 → n < 2 ^ 32 → next_row m ≡ next_row n → m ≡ n
next_row-one m n small_m small_n same = by_test (m == 1) (n == 1) refl refl same
  where
    by_test : (a b : Bool) → (m == 1) ≡ a → (n == 1) ≡ b
        → (if a then None else Some (one_column (codes "next") (to_be_bytes w32 m)))
        ≡ (if b then None else Some (one_column (codes "next") (to_be_bytes w32 n))) → m ≡ n
    by_test true true e f same = eqb-true m 1 e ∙ sym (eqb-true n 1 f)
    by_test true false e f same = cc same
    by_test false true e f same = cc same
    by_test false false e f same =
        let bytes : to_be_bytes w32 m ≡ to_be_bytes w32 n =
        one_value (codes "next") _ _ (same_Some _ _ same) in
        sym (from_be_bytes-to_be_bytes_4 m small_m) ∙ ap (from_be_bytes w32) bytes
        ∙ from_be_bytes-to_be_bytes_4 n small_n

above_one : (n : ℕ) → 1 ≤ n → n ≢ 1 → 2 ≤ n
above_one zero low other = absurd (omega (arith, low))
above_one (suc zero) low other = absurd (other refl)
above_one (suc (suc n)) low other = omega arith

module _ (row : Option Columns) (columns : Columns) (bytes : List ℕ) (is : row ≡ Some columns)
    (value : columns ≡ one_column (codes "next") bytes) where
  -- a row that is there tells a family other than 1, by its bytes
  next_told : (family : ℕ) → row ≡ next_row family
      → (family ≢ 1) × (bytes ≡ to_be_bytes w32 family)
  next_told family same = by (family == 1) refl (sym is ∙ same)
    where
      by : (b : Bool) → (family == 1) ≡ b
          → Some columns
          ≡ (if b then None else Some (one_column (codes "next") (to_be_bytes w32 family)))
          → (family ≢ 1) × (bytes ≡ to_be_bytes w32 family)
      by true e same = absurd (let f : ⊥ = cc in f)
      by false e same = (
        λ one. false≢true (sym e ∙ eq-eqb family 1 one),
        one_value (codes "next") bytes (to_be_bytes w32 family) (sym value ∙ same_Some _ _ same),
      )

  -- where its bytes are those of none above 1 it is the row of none
  pub none_told : (r : Option ℕ)
      → IfNone r ((family : ℕ) → 2 ≤ family → family < 2 ^ 32
      → bytes ≡ to_be_bytes w32 family → ⊥)
      → IfNone r ((family : ℕ) → 1 ≤ family → family ≤ FAMILIES_END → row ≡ next_row family → ⊥)
  none_told (Some f) none = tt
  none_told None none = λ family low high same. let told = next_told family same in
      none family (above_one family low told.0) (omega (arith, high)) told.1
