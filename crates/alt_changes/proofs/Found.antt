-- What is read of a row's cells, and what a row isn't where one of them is bad.
use Rattle.std.proofs.Common.{◌≡◌, ◌<◌, ◌≤◌, refl, sym, ap, subst, ◌∙◌, ℕ, ◌+◌, ◌^◌, true, false, List, [], ◌∷◌, length, take, Option, Some, None, option_map, inl, inr, ◌⊎◌, arith, codes}
use Rattle.std.proofs.lemmas.Option.{same_Some}
use Rattle.std.specs.FinMap.{entries, get}
use Rattle.std.specs.Int.{w64, to_be_bytes}
use Rattle.std.specs.List.{list_all}
use Rattle.std.specs.Prelude.{IfSome}
use Rattle.alt_cellbytes.specs.Places as cell
use Rattle.alt_cells.specs.Changes.{Columns}
use Rattle.alt_changes.specs.ChangeRows.{IsReadChange, IsReadItem, change_columns, item_bytes, writer_cell}
use Rattle.alt_changes.specs.NoChange.{IsBadItem, IsBadMoment, IsBadWriter, IsItemCell, IsMoment, IsWriterCell, NoItem, NoMoment, NoneIs, is_column, is_map}
use Rattle.alt_changes.proofs.Rows.{Shows, is_row, shows_so}
use Rattle.alt_fields.specs.Field.{StandsAt}
use Rattle.alt_fields.proofs.Numbers.{stands_within}
use Rattle.alt_codec.specs.declared.writer.Writer.{Writer}
use Rattle.alt_codec.specs.declared.writer.Writer.TheVariants.{User, Expiry}
use Rattle.alt_machine.specs.State.{Change}
use Rattle.alt_machine.specs.Valid.{deepest}
use Rattle.alt_value.specs.Item.{IsItem}
use Rattle.alt_value.specs.Size.{depth}
use Rattle.alt_value.specs.Tree.{Pair, M_tree, fields_of}
use Rattle.alt_value.specs.Values.{IsWhole}
use Rattle.alt_value.proofs.Trees.{pairs-fields_of}

-- ---- a moment

take_all : (bytes : List ℕ) (n : ℕ) → n ≡ length bytes → take n bytes ≡ bytes
take_all bytes n e = ap (λ k. take k bytes) e ∙ whole bytes
  where
    whole : (bs : List ℕ) → take (length bs) bs ≡ bs
    whole [] = refl
    whole (b ∷ bs) = ap (λ cs. b ∷ cs) (whole bs)

-- eight bytes that hold a moment and end where the cell does are the whole cell
pub moment_whole : (bytes : List ℕ) (n end : ℕ) → StandsAt bytes 0 (to_be_bytes w64 n)
    → end ≡ 0 + 8 → end ≡ length bytes → bytes ≡ to_be_bytes w64 n
moment_whole bytes n end stands at whole =
    sym (take_all bytes 8 (omega (arith, at, whole))) ∙ stands

-- where the cell goes on behind its moment it is bad there
pub moment_behind : (bytes : List ℕ) (n end at : ℕ) → StandsAt bytes 0 (to_be_bytes w64 n)
    → end ≡ 0 + 8 → (end ≡ length bytes → ⊥) → at ≡ end → NoMoment bytes at
moment_behind bytes n end at stands is other same = inr (
  longer (stands_within bytes (to_be_bytes w64 n) 0 8 stands refl (omega arith)),
  omega (arith, same, is),
)
  where
    longer : 0 + 8 ≤ length bytes → 8 < length bytes
    longer h = grind (arith, h, other, is)

-- a cell of fewer than eight bytes is bad at its end
pub moment_short : (bytes : List ℕ) (at : ℕ) → at ≡ length bytes → length bytes < 0 + 8
    → NoMoment bytes at
moment_short bytes at is short = inl (omega (arith, short), is)

-- the bytes of a moment aren't bad
no_moment : (n at : ℕ) → NoMoment (to_be_bytes w64 n) at → ⊥
no_moment n at (inl short) = omega (arith, short.0)
no_moment n at (inr long) = omega (arith, long.0)

-- ---- an item

-- an item that is read is a whole value, as a map
pub whole_map : (item : List Pair) → IsReadItem item → IsWhole (M_tree (fields_of item))
whole_map item is = (
  (
    subst IsItem (sym (pairs-fields_of item)) is.whole.0.names,
    is.whole.0.fields,
    subst (λ ps. length ps < 2 ^ 64) (sym (pairs-fields_of item)) is.whole.0.count,
  ),
  is.whole.1,
)

-- a map that was read whole, and isn't too deep, is an item that can be read
pub map_whole : (item : List Pair) → IsWhole (M_tree (fields_of item))
    → depth (M_tree (fields_of item)) ≤ deepest + 1 → IsReadItem item
map_whole item is deep = record {
  whole = (
    record {
      names = subst IsItem (pairs-fields_of item) is.0.0;
      fields = is.0.1;
      count = subst (λ ps. length ps < 2 ^ 64) (pairs-fields_of item) is.0.2;
    },
    is.1,
  );
  depth = omega (arith, deep);
}

-- bytes of another kind are no item's
pub no_map : (bytes : List ℕ) → is_map bytes ≡ false → NoItem bytes 0 × NoneIs bytes
no_map bytes other = (
  inl (other, refl),
  λ item is e. absurd
      (let not_so : true ≡ false = sym (ap is_map e) ∙ other in let f : ⊥ = cc in f),
)

-- nor are those that are no value's, or of one that is too deep
pub no_item : (bytes : List ℕ) (at : ℕ) → is_map bytes ≡ true
    → (cell.IsBadValueAt bytes at ⊎ cell.IsDeepAt (deepest + 1) bytes at)
    → cell.NoValueWithin (deepest + 1) bytes → NoItem bytes at × NoneIs bytes
no_item bytes at begins place none = (
  inr (begins, place),
  λ item is e. none (M_tree (fields_of item)) (whole_map item is) (omega (arith, is.depth)) e,
)

-- ---- the cells of a row

-- the moment that was read of a row, and the item of a column
abbrev pub MomentRead : Columns → Option ℕ → Type 0
MomentRead row o = IfSome o (λ n. n < 2 ^ 64)
    × (get row (codes "m") ≡ option_map (to_be_bytes w64) o)

-- the item that was read of a column
abbrev pub ItemRead : Columns → List ℕ → Option (List Pair) → Type 0
ItemRead row name o = IfSome o IsReadItem × (get row name ≡ option_map item_bytes o)

-- where a moment was read, the column has one or is missing
pub moment_good : (row : Columns) (o : Option ℕ) → MomentRead row o
    → IfSome (get row (codes "m")) IsMoment
moment_good row o h = subst (λ g. IfSome g IsMoment) (sym h.1) (by o h.0)
  where
    by : (p : Option ℕ) → IfSome p (λ n. n < 2 ^ 64)
        → IfSome (option_map (to_be_bytes w64) p) IsMoment
    by None fits = tt
    by (Some n) fits = (n, fits, refl)

-- where an item was read, the column has one or is missing
pub item_good : (row : Columns) (name : List ℕ) (o : Option (List Pair)) → ItemRead row name o
    → IfSome (get row name) IsItemCell
item_good row name o h = subst (λ g. IfSome g IsItemCell) (sym h.1) (by o h.0)
  where
    by : (p : Option (List Pair)) → IfSome p IsReadItem
        → IfSome (option_map item_bytes p) IsItemCell
    by None is = tt
    by (Some i) is = (i, is, refl)

-- where it was read who wrote the change, the cell is empty or missing
pub writer_good : (row : Columns) (writer : Writer) → get row (codes "u") ≡ writer_cell writer
    → IfSome (get row (codes "u")) IsWriterCell
writer_good row writer e = subst (λ g. IfSome g IsWriterCell) (sym e) (by writer)
  where
    by : (w : Writer) → IfSome (writer_cell w) IsWriterCell
    by User = tt
    by Expiry = refl

-- ---- the row

module _ (row : Columns) (c : Change) (is : row ≡ change_columns c) where
  shows : Shows row c
  shows = shows_so row c is

  -- the row of a change has no bad moment
  pub no_bad_moment : (at : ℕ) → IsBadMoment row at → ⊥
  no_bad_moment at (bytes, there, bad) = no_moment c.moment at
      (subst (λ b. NoMoment b at) (same_Some bytes (to_be_bytes w64 c.moment)
      (sym there ∙ shows.moment)) bad)

  -- and no bad item
  bad_item : (name : List ℕ) (at : ℕ) (o : Option (List Pair)) → IfSome o IsReadItem
      → get row name ≡ option_map item_bytes o → IsBadItem row name at → ⊥
  bad_item name at None read e (bytes, there, bad, none) = absurd (let f : ⊥ = cc (there, e) in f)
  bad_item name at (Some i) read e (bytes, there, bad, none) = none i read
      (same_Some bytes (item_bytes i) (sym there ∙ e))

  -- the new item of a change that can be read isn't bad
  pub no_bad_new : (at : ℕ) → IsReadChange c → IsBadItem row (codes "n") at → ⊥
  no_bad_new at read = bad_item (codes "n") at c.new read.new shows.new

  -- nor is the old one
  pub no_bad_old : (at : ℕ) → IsReadChange c → IsBadItem row (codes "o") at → ⊥
  no_bad_old at read = bad_item (codes "o") at c.old read.old shows.old

  -- it has no bad cell of who wrote it
  pub no_bad_writer : (at : ℕ) → IsBadWriter row at → ⊥
  no_bad_writer at (bytes, there, some, zero) = by c.by (sym there ∙ shows.writer)
    where
      by : (writer : Writer) → Some bytes ≡ writer_cell writer → ⊥
      by User e = let f : Some bytes ≡ None = e in cc f
      by Expiry e = some (same_Some bytes [] e)

  -- it has a moment
  pub some_moment : MomentRead row None → ⊥
  some_moment h = let not_so : None ≡ Some (to_be_bytes w64 c.moment) = sym h.1
      ∙ shows.moment in cc not_so

  -- and no other columns
  pub no_others : list_all (λ e. is_column e.0) (entries row) ≡ false → ⊥
  no_others other = let not_so : true ≡ false = sym shows.alone ∙ other in cc not_so

-- a row that was read is that of the change
pub change_read : (row : Columns) (c : Change) → MomentRead row (Some c.moment)
    → ItemRead row (codes "n") c.new → ItemRead row (codes "o") c.old
    → get row (codes "u") ≡ writer_cell c.by
    → list_all (λ e. is_column e.0) (entries row) ≡ true
    → IsReadChange c × (row ≡ change_columns c)
change_read row c moment new old writer alone = (
  record { moment = moment.0; old = old.0; new = new.0 },
  is_row row c (record {
    moment = moment.1;
    new = new.1;
    old = old.1;
    writer = writer;
    alone = alone;
  }),
)
