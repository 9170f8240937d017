-- What is written of a change.
use Rattle.std.proofs.Common.{◌≡◌, refl, sym, ap, ◌∙◌, ℕ, Bool, true, false, List, [], ◌∷◌, ◌++◌, length, map, Option, Some, None, append_assoc, codes}
use Rattle.std.proofs.lemmas.List.{map-append}
use Rattle.std.specs.Int.{w64, to_be_bytes}
use Rattle.std.specs.List.{flat_map}
use Rattle.std.specs.Option.{option_map_or, option_to_list}
use Rattle.std.specs.Prelude.{if◌then◌else◌}
use Rattle.alt_cellbytes.specs.Places.{entry_bytes}
use Rattle.alt_cellbytes.proofs.Shapes.{map_bytes}
use Rattle.alt_cells.specs.declared.batch.RowChange.{RowChange}
use Rattle.alt_cells.specs.Changes.{GivenColumns, with_value}
use Rattle.alt_changes.specs.ChangeRows.{columns_of_change, item_bytes, item_column, row_change, row_changes, row_key, writer_column}
use Rattle.alt_changes.proofs.Rows.{entries-change}
use Rattle.alt_codec.specs.declared.writer.Writer.{Writer}
use Rattle.alt_machine.specs.Changes.{change_left}
use Rattle.alt_machine.specs.Same.{is_same}
use Rattle.alt_machine.specs.State.{Change}
use Rattle.alt_schema.specs.declared.schema.TableSchema.{TableSchema}
use Rattle.alt_value.specs.Tree.{Pair}

-- the bytes of an item, piece by piece
pub item_written : (item : List Pair) (kind count all : List ℕ) → kind ≡ 10 ∷ []
    → count ≡ kind ++ to_be_bytes w64 (length item) → all ≡ count ++ flat_map entry_bytes item
    → all ≡ item_bytes item
item_written item kind count all e f g =
    g ∙ ap (λ s. s ++ flat_map entry_bytes item)
    (f ∙ ap (λ s. s ++ to_be_bytes w64 (length item)) e) ∙ sym (map_bytes item)

-- the cells of a change, one after another
pub cells_written : (moment : ℕ) (writer : Writer) (old new : Option (List Pair))
    (first more both all : GivenColumns) → first ≡ (codes "m", Some (to_be_bytes w64 moment)) ∷ []
    → more ≡ first ++ map with_value (item_column (codes "n") new)
    → both ≡ more ++ map with_value (item_column (codes "o") old)
    → all ≡ both ++ map with_value (writer_column writer)
    → all ≡ map with_value (columns_of_change moment writer old new)
cells_written moment writer old new first more both all e f g h =
    let here : List ℕ × Option (List ℕ) = (codes "m", Some (to_be_bytes w64 moment)) in
    let of_new : GivenColumns = map with_value (item_column (codes "n") new) in
    let of_old : GivenColumns = map with_value (item_column (codes "o") old) in
    let of_writer : GivenColumns = map with_value (writer_column writer) in
    h ∙ ap (λ s. s ++ of_writer) (g ∙ ap (λ s. s ++ of_old) (f ∙ ap (λ s. s ++ of_new) e))
    ∙ ap (λ s. here ∷ s) (append_assoc of_new of_old of_writer
    ∙ ap (λ s. of_new ++ s)
    (sym (map-append with_value (item_column (codes "o") old) (writer_column writer)))
    ∙ sym (map-append with_value (item_column (codes "n") new)
    (item_column (codes "o") old ++ writer_column writer)))

-- a row change with these cells makes the row of the change
pub row_made : (family : ℕ) (c : Change) (cells : GivenColumns)
    → cells ≡ map with_value (columns_of_change c.moment c.by c.old c.new)
    → (let made : RowChange = record {
      family = family;
      key = row_key c.number;
      clear = true;
      cells = cells;
    } in made ≡ row_change family c)
row_made family c cells e = ap change_of (e ∙ sym (ap (map with_value) (entries-change c)))
  where
    change_of : GivenColumns → RowChange
    change_of given = record {
      family = family;
      key = row_key c.number;
      clear = true;
      cells = given;
    }

-- ---- what a write leaves

module _ (d : TableSchema) (number moment : ℕ) (writer : Writer)
    (old new : Option (List Pair)) where
  -- the change of the write
  abbrev pub change_made : Change
  change_made = record {
    number = number;
    moment = moment;
    old = old;
    new = new;
    by = writer;
  }

  abbrev left : Bool → Option Change
  left same = if same then None else Some change_made

  -- nothing in a table without a stream
  pub none_kept : d.stream_family ≡ None
      → row_changes d (change_left number moment writer old new) ≡ []
  none_kept none = ap (λ o. option_map_or
      (λ family. map (row_change family)
      (option_to_list (change_left number moment writer old new))) o []) none

  -- and nothing where the item stays
  pub none_left : is_same old new ≡ true
      → row_changes d (change_left number moment writer old new) ≡ []
  none_left same = ap (λ b. row_changes d (left b)) same ∙ by d.stream_family
    where
      by : (o : Option ℕ) → ◌≡◌ {A = List RowChange} (option_map_or
          (λ family. map (row_change family) (option_to_list (left true))) o []) []
      by None = refl
      by (Some family) = refl

  -- else one row comes
  pub one_left : (family : ℕ) → d.stream_family ≡ Some family → is_same old new ≡ false
      → row_changes d (change_left number moment writer old new)
      ≡ row_change family change_made ∷ []
  one_left family some differ = (λ i. option_map_or
      (λ f. map (row_change f) (option_to_list (left (differ i)))) (some i) [])
