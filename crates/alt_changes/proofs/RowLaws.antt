-- The row of a change can be shown, and is that of one change of its number.
use Rattle.std.proofs.Common.{◌≡◌, ◌<◌, refl, sym, ap, ◌∙◌, ℕ, ◌^◌, List, [], ◌++◌, length, Option, Some, None, option_map, arith}
use Rattle.std.proofs.lemmas.Nat.{from_be_bytes-to_be_bytes_8}
use Rattle.std.proofs.lemmas.Option.{same_Some}
use Rattle.std.specs.FinMap.{len, len-entries}
use Rattle.std.specs.Int.{w64, from_be_bytes, to_be_bytes}
use Rattle.std.specs.Prelude.{if◌then◌else◌, IfSome}
use Rattle.alt_base.proofs.Numbers.{above_zero_is_told}
use Rattle.alt_cellbytes.proofs.Apart.{cell_bytes-apart}
use Rattle.alt_cellbytes.proofs.WholeValues.{whole_has}
use Rattle.alt_cells.specs.Changes.{CanShow, Columns}
use Rattle.alt_changes.specs.ChangeRows.{IsReadChange, IsReadItem, change_columns, item_bytes, writer_cell}
use Rattle.alt_changes.proofs.Found.{whole_map}
use Rattle.alt_changes.proofs.Rows.{Shows, entries-change, shows_so}
use Rattle.alt_codec.specs.declared.writer.Writer.{Writer}
use Rattle.alt_codec.specs.declared.writer.Writer.TheVariants.{User, Expiry}
use Rattle.alt_machine.specs.State.{Change}
use Rattle.alt_value.specs.Tree.{Pair, Tree, Fields, M_tree, fields_of, no_fields, pairs}
use Rattle.alt_value.proofs.Trees.{pairs-fields_of}

-- it has a column
pub change_can_show : (c : Change) → CanShow (Some (change_columns c))
change_can_show c =
    let row : Columns = change_columns c in
    let some : 0 < len row = omega (arith, len-entries row, ap length (entries-change c)) in
    ap (λ b. if b then None else Some row) (above_zero_is_told (len row) some)

-- ---- one change

-- numbers are told by their bytes
pub number_one : (m n : ℕ) → m < 2 ^ 64 → n < 2 ^ 64 → to_be_bytes w64 m ≡ to_be_bytes w64 n → m ≡ n
number_one m n p q e = sym (from_be_bytes-to_be_bytes_8 m p) ∙ ap (from_be_bytes w64) e
    ∙ from_be_bytes-to_be_bytes_8 n q

fields_in : Tree → Fields
fields_in (M_tree fs) = fs
fields_in t = no_fields

item_one : (a b : List Pair) → IsReadItem a → IsReadItem b → item_bytes a ≡ item_bytes b → a ≡ b
unfolding fields_in
item_one a b p q e =
    let same : M_tree (fields_of a) ≡ M_tree (fields_of b) =
    (cell_bytes-apart (M_tree (fields_of a)) (M_tree (fields_of b)) [] []
    (whole_has (M_tree (fields_of a)) (whole_map a p))
    (whole_has (M_tree (fields_of b)) (whole_map b q)) (ap (λ s. s ++ []) e)).0 in
    sym (pairs-fields_of a) ∙ ap (λ t. pairs (fields_in t)) same ∙ pairs-fields_of b

items_one : (a b : Option (List Pair)) → IfSome a IsReadItem → IfSome b IsReadItem
    → option_map item_bytes a ≡ option_map item_bytes b → a ≡ b
items_one None None p q e = refl
items_one None (Some b) p q e = let f : None ≡ Some (item_bytes b) = e in cc f
items_one (Some a) None p q e = let f : Some (item_bytes a) ≡ None = e in cc f
items_one (Some a) (Some b) p q e =
    ap Some (item_one a b p q (same_Some (item_bytes a) (item_bytes b) e))

-- who wrote it is told by the cell
writer_one : (a b : Writer) → writer_cell a ≡ writer_cell b → a ≡ b
writer_one User User e = refl
writer_one User Expiry e = let f : ◌≡◌ {A = Option (List ℕ)} None (Some []) = e in cc f
writer_one Expiry User e = let f : ◌≡◌ {A = Option (List ℕ)} (Some []) None = e in cc f
writer_one Expiry Expiry e = refl

-- No two changes of one number have the same row.
pub change_columns-one : (a b : Change) → IsReadChange a → IsReadChange b → a.number ≡ b.number
    → change_columns a ≡ change_columns b → a ≡ b
change_columns-one a b p q number same =
    let one : Shows (change_columns a) a = shows_so (change_columns a) a refl in
    let other : Shows (change_columns a) b = shows_so (change_columns a) b same in
    let moment : a.moment ≡ b.moment = number_one a.moment b.moment p.moment q.moment
    (same_Some (to_be_bytes w64 a.moment) (to_be_bytes w64 b.moment)
    (sym one.moment ∙ other.moment)) in
    let old : a.old ≡ b.old = items_one a.old b.old p.old q.old (sym one.old ∙ other.old) in
    let new : a.new ≡ b.new = items_one a.new b.new p.new q.new (sym one.new ∙ other.new) in
    let writer : a.by ≡ b.by = writer_one a.by b.by (sym one.writer ∙ other.writer) in
    (λ i. record {
      number = number i;
      moment = moment i;
      old = old i;
      new = new i;
      by = writer i;
    })
