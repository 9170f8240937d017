-- What the tests of the rows of a stream tell.
use Rattle.std.proofs.Common.{◌≡◌, ◌<◌, ◌≤◌, ◌^◌, ◌⊎◌, inl, inr, refl, sym, subst, ◌∙◌, ℕ, Bool, true, false, List, Option, Some, None, IsTrue, is_some, arith}
use Rattle.std.specs.Prelude.{◌↔◌}
use Rattle.alt_machine.specs.Same.{is_same}
use Rattle.alt_machine.specs.State.{Change}
use Rattle.alt_machine.specs.Valid.{IsChange, IsStored}
use Rattle.alt_machine.proofs.Same.{is_same-equal, same_is}
use Rattle.alt_schema.specs.declared.schema.TableSchema.{TableSchema}
use Rattle.alt_cells.specs.Changes.{Columns}
use Rattle.alt_changes.specs.ChangeRows.{row_key}
use Rattle.alt_changes.specs.TrimRows.{trimmed_columns}
use Rattle.alt_changes.proofs.RowLaws.{change_columns-one}
use Rattle.alt_tablerows.specs.StreamRows.{IsChangeAt, AreOfOne, IsChangeRow, IsStreamRow}
use Rattle.alt_tablerows.proofs.NumberKeys.{key_one}
use Rattle.alt_value.specs.Tree.{Pair}

-- ---- the row of a number

-- the key of a number is that of no other
pub other_key : (key : List ℕ) (m n : ℕ) → m < 2 ^ 64 → n < 2 ^ 64 → key ≡ row_key m
    → key ≡ row_key n → m ≡ n
other_key key m n small_m small_n at_m at_n = key_one m n small_m small_n (sym at_m ∙ at_n)

module _ (d : TableSchema) (next trimmed : ℕ) (key : List ℕ) (row : Columns)
    (fits : trimmed < 2 ^ 64) where
  -- a row of no number is none of a stream
  pub no_number : ((n : ℕ) → n < 2 ^ 64 → key ≡ row_key n → ⊥)
      → IsStreamRow d next trimmed key row → ⊥
  no_number none (inl is) = none 0 (omega arith) is.0
  no_number none (inr (inl left)) = let most = left.1.2 in
      none left.1.0 (omega (arith, most, fits)) left.1.3
  no_number none (inr (inr is)) = let (c, at, may, above) = is in none c.number at.number at.place

  module _ (number : ℕ) (small : number < 2 ^ 64) (at : key ≡ row_key number) where
    -- at 0 it has to tell what was trimmed
    pub none_at_zero : number ≡ 0
        → (((n : ℕ) × (1 ≤ n) × (n < next) × (row ≡ trimmed_columns n)) → ⊥)
        → IsStreamRow d next trimmed key row → ⊥
    none_at_zero zero none (inl is) = none is.1
    none_at_zero zero none (inr (inl left)) =
        let low = left.1.1 in
        let most = left.1.2 in
        let same : number ≡ left.1.0 = other_key key number left.1.0 small
        (omega (arith, most, fits)) at left.1.3 in
        omega (arith, same, zero, low)
    none_at_zero zero none (inr (inr is)) =
        let (c, of, may, above) = is in
        let same : number ≡ c.number = other_key key number c.number small of.number at of.place in
        omega (arith, same, zero, above)

    -- up to what was trimmed no change is kept
    pub none_trimmed : 0 < number → number ≤ trimmed → next ≤ trimmed
        → IsStreamRow d next trimmed key row → ⊥
    none_trimmed some low late (inl is) =
        let same : number ≡ 0 = other_key key number 0 small (omega arith) at is.0 in
        omega (arith, same, some)
    none_trimmed some low late (inr (inl left)) = omega (arith, left.0, late)
    none_trimmed some low late (inr (inr is)) =
        let (c, of, may, above) = is in
        let same : number ≡ c.number = other_key key number c.number small of.number at of.place in
        omega (arith, same, low, above)

    -- behind that each row is of a change
    pub none_behind : trimmed < number → (IsChangeRow d next key row → ⊥)
        → IsStreamRow d next trimmed key row → ⊥
    none_behind high none (inl is) =
        let same : number ≡ 0 = other_key key number 0 small (omega arith) at is.0 in
        omega (arith, same, high)
    none_behind high none (inr (inl left)) =
        let most = left.1.2 in
        let same : number ≡ left.1.0 = other_key key number left.1.0 small
        (omega (arith, most, fits)) at left.1.3 in
        omega (arith, same, most, high)
    none_behind high none (inr (inr is)) = let (c, of, may, above) = is in none (c, of, may)

    -- which is kept
    pub kept_behind : trimmed < number → IsChangeRow d next key row
        → IsStreamRow d next trimmed key row
    kept_behind high is =
        let (c, of, may) = is in
        let same : number ≡ c.number = other_key key number c.number small of.number at of.place in
        inr (inr (c, of, may, omega (arith, same, high)))

-- one row is that of one change
pub one_change_at : (key : List ℕ) (columns : Columns) (a b : Change) → IsChangeAt key columns a
    → IsChangeAt key columns b → a ≡ b
one_change_at key columns a b is_a is_b = change_columns-one a b is_a.read is_b.read
    (key_one a.number b.number is_a.number is_b.number (sym is_a.place ∙ is_b.place))
    (sym is_a.row ∙ is_b.row)

-- ---- a change that a table may keep

module _ (d : TableSchema) (next : ℕ) (c : Change) where
  -- none of a later number, and none whose items are one
  pub not_kept : (next ≤ c.number) ⊎ (is_same c.old c.new ≡ true) → IsChange d next c → ⊥
  not_kept (inl late) is = omega (arith, late, is.number)
  not_kept (inr same) is = is.differ (same_is c.old c.new same)

  -- another is one where its items are of one place
  pub is_kept : c.number < next → is_same c.old c.new ≡ false → AreOfOne d c.old c.new
      → IsChange d next c
  is_kept low differ one = record {
    number = low;
    differ = λ e. let f : false ≡ true = sym differ ∙ is_same-equal c.old c.new e in
        let g : ⊥ = cc in g;
    place = one.0;
    old = one.1;
    new = one.2;
  }

  -- and they are
  pub of_one : IsChange d next c → AreOfOne d c.old c.new
  of_one is = (is.place, is.old, is.new)

-- ---- items of one place

-- a place is told exactly where the item may have stood there
abbrev pub TellsPlace : TableSchema → List Pair → Option (List ℕ) → Type 0
TellsPlace d item o = (place : List ℕ) → (o ≡ Some place) ↔ IsStored d place item

module _ (d : TableSchema) (old new : Option (List Pair)) where
  -- two items
  pub two_of_one : (a b : List Pair) → old ≡ Some a → new ≡ Some b → (at there : Option (List ℕ))
      → TellsPlace d a at → TellsPlace d b there → (r : Bool)
      → IsTrue r ↔ ((place : List ℕ) × (at ≡ Some place) × (there ≡ Some place))
      → IsTrue r ↔ AreOfOne d old new
  two_of_one a b is_old is_new at there tells_a tells_b r one =
      subst (λ o. IsTrue r ↔ AreOfOne d o new) (sym is_old)
      (subst (λ o. IsTrue r ↔ AreOfOne d (Some a) o) (sym is_new) (
        λ so. let (place, p, q) = one.0 so in
            (place, (tells_a place).0 p, (tells_b place).0 q),
        λ is. one.1 (is.0, (tells_a is.0).1 is.1, (tells_b is.0).1 is.2),
      ))

  -- a place was found exactly where the item was stored at one
  some_place : (a : List Pair) (o : Option (List ℕ)) → TellsPlace d a o → (r : Bool)
      → r ≡ is_some o → IsTrue r ↔ ((place : List ℕ) × IsStored d place a)
  some_place a None tells r is = (
    λ so. absurd (let f : ⊥ = cc in f),
    λ stood. absurd (let no : None ≡ Some stood.0 = (tells stood.0).1 stood.1 in
        let f : ⊥ = cc in f),
  )
  some_place a (Some place) tells r is = (λ so. (place, (tells place).0 refl), λ stood. is)

  -- the old one alone
  pub old_of_one : (a : List Pair) → old ≡ Some a → new ≡ None → (o : Option (List ℕ))
      → TellsPlace d a o → (r : Bool) → r ≡ is_some o → IsTrue r ↔ AreOfOne d old new
  old_of_one a is_old is_new o tells r is =
      let one = some_place a o tells r is in
      subst (λ x. IsTrue r ↔ AreOfOne d x new) (sym is_old)
      (subst (λ x. IsTrue r ↔ AreOfOne d (Some a) x) (sym is_new) (
        λ so. let (place, stood) = one.0 so in (place, stood, tt),
        λ of_one. one.1 (of_one.0, of_one.1),
      ))

  -- the new one alone
  pub new_of_one : (a : List Pair) → old ≡ None → new ≡ Some a → (o : Option (List ℕ))
      → TellsPlace d a o → (r : Bool) → r ≡ is_some o → IsTrue r ↔ AreOfOne d old new
  new_of_one a is_old is_new o tells r is =
      let one = some_place a o tells r is in
      subst (λ x. IsTrue r ↔ AreOfOne d x new) (sym is_old)
      (subst (λ x. IsTrue r ↔ AreOfOne d None x) (sym is_new) (
        λ so. let (place, stood) = one.0 so in (place, tt, stood),
        λ of_one. one.1 (of_one.0, of_one.2),
      ))
