-- Where a count, a field or a spelled number stops, none that is right stands.
use Rattle.std.proofs.Common.{◌≡◌, sym, ◌∙◌, ℕ, ◌+◌, ◌≤◌, List, ◌++◌, length, inl, inr, arith, length-append, false}
use Rattle.std.specs.Prelude.{ℤ, Bool, true, if◌then◌else◌}
use Rattle.alt_decimal.specs.Number.{FitsDecimal}
use Rattle.alt_decimal.specs.Spelled.{spelled}
use Rattle.alt_decimal.proofs.Normals.{spelled_apart}
use Rattle.alt_fields.specs.Bytes.{IsShort}
use Rattle.alt_fields.specs.Field.{field}
use Rattle.alt_fields.proofs.Apart.{field-apart, field_whole, length-field}
use Rattle.alt_value.specs.CellBytes.{counted}
use Rattle.alt_cellbytes.specs.Places.{NoFittingField, NoFittingNumber, is_cut_number}

-- how long a count is with what follows it
pub length-counted : (n : ℕ) (x : List ℕ) → length (counted n ++ x) ≡ 8 + length x
length-counted n x = length-append (counted n) x

-- how long a field is with what follows it
length-fielded : (s x : List ℕ) → length (field s ++ x) ≡ 8 + length s + length x
length-fielded s x = omega (arith, length-append (field s) x, length-field s)

-- where a right field stands, there is one
pub field-refuted : (P : List ℕ → Type 0) (bytes : List ℕ) (left : ℕ) → NoFittingField P bytes left
    → (s behind : List ℕ) → IsShort s → P s
    → bytes ≡ field s ++ behind → ⊥
field-refuted P bytes left stops s behind short right is = elim stops [
  | inl cut ↦ field_whole bytes s behind short is cut.0
  | inr other ↦
      let same = field-apart other.0 s other.1 behind other.2 short (sym other.3 ∙ is) in
      other.4 (rw same.0 right)
]

-- no more bytes are left than there are
pub field-left : (P : List ℕ → Type 0) (bytes : List ℕ) (left : ℕ) → NoFittingField P bytes left
    → left ≤ length bytes
field-left P bytes left stops = elim stops [
  | inl cut ↦ omega (arith, cut.1)
  | inr other ↦ omega (arith, other.5)
]

-- a field with fewer contents
pub field-fewer : (P Q : List ℕ → Type 0) (bytes : List ℕ) (left : ℕ) → ((s : List ℕ) → Q s → P s)
    → NoFittingField P bytes left → NoFittingField Q bytes left
field-fewer P Q bytes left all stops = elim stops [
  | inl cut ↦ inl cut
  | inr other ↦ inr (other.0, other.1, other.2, other.3, (λ q. other.4 (all other.0 q)), other.5)
]

-- where a right number stands, there is one
pub number-refuted : (P : ℤ → Type 0) (bytes : List ℕ) (left : ℕ) → NoFittingNumber P bytes left
    → (z : ℤ) (behind : List ℕ) → FitsDecimal z → P z
    → bytes ≡ spelled z ++ behind → ⊥
number-refuted P bytes left stops z behind fits right is = elim stops [
  | inl none ↦ none.0 z behind fits is
  | inr other ↦ let same = spelled_apart other.0 z other.1 behind other.2 fits (sym other.3 ∙ is) in
      other.4 (rw same.0 right)
]

-- the same of a choice
left_if : (b : Bool) (n left : ℕ) → left ≡ (if b then 0 else n) → left ≤ n
left_if true n left e = omega (arith, e)
left_if false n left e = omega (arith, e)

-- nor where a number stops
pub number-left : (P : ℤ → Type 0) (bytes : List ℕ) (left : ℕ) → NoFittingNumber P bytes left
    → left ≤ length bytes
number-left P bytes left stops = elim stops [
  | inl none ↦ left_if (is_cut_number bytes) (length bytes) left none.1
  | inr other ↦ omega (arith, other.5)
]
