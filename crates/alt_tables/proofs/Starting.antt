-- Files that hold no rows stand for the empty store.
use Rattle.std.proofs.Common.{◌≡◌, refl, sym, ap, ◌∙◌, ℕ, Bool, true, false, List, [], Option, Some, None}
use Rattle.std.specs.Prelude.{if◌then◌else◌, option_and_then, option_map}
use Rattle.std.specs.Ordering.{eq_by_cmp}
use Rattle.std.specs.FinMap as map
use Rattle.alt_cells.specs.Keys.{key_cmp}
use Rattle.alt_cells.specs.Shown.{row_shown}
use Rattle.alt_layout.specs.Files.{IsLayout}
use Rattle.alt_layout.specs.Layout.{no_rows, shown}
use Rattle.alt_machine.specs.State.{Table, start}
use Rattle.alt_machine.proofs.States.{start_valid}
use Rattle.alt_rowchanges.specs.OpeningImages.{StandsFor}
use Rattle.alt_rowchanges.specs.OpeningStateRows.{Shows, IsHeldWhole, catalog_rows, next_row, table_row}
use Rattle.alt_value.specs.Members.{text_order}

-- no row is shown
nothing : (family : ℕ) (key : List ℕ) → shown no_rows family key ≡ None
nothing family key = ap (option_and_then row_shown) (map.get-empty key_cmp key)

-- nor has the catalog one
no_catalog : (key : List ℕ) → catalog_rows start key ≡ None
no_catalog key = by (eq_by_cmp key_cmp key [])
  where
    by : (b : Bool) → (if b then next_row 1 else option_map (λ t. table_row t.description)
        (map.get start.tables key)) ≡ None
    by true = refl
    by false = ap (option_map (λ t. table_row t.description)) (map.get-empty text_order key)

-- and no table is there
no_table : {P : Type 0} (name : List ℕ) (t : Table) → map.get start.tables name ≡ Some t → P
no_table name t at = absurd (let no_one : None ≡ Some t =
    sym (map.get-empty text_order name) ∙ at in let f : ⊥ = cc in f)

-- So no rows show the state of an empty store.
pub shows_start : Shows no_rows start
shows_start = record {
  number = refl;
  catalog = λ key. nothing 0 key ∙ sym (no_catalog key);
  items = λ name t at key. no_table name t at;
  indexes = λ name t number i at at_index key. no_table name t at;
  changes = λ name t family at stream key counts. no_table name t at;
  beyond = λ family key high. nothing family key;
}

-- Its items and descriptions, of which there are none, are held.
pub held_start : IsHeldWhole start
held_start = record {
  items = record {
    items = λ name place t item at here. no_table name t at;
    changes = λ name t at. no_table name t at;
  };
  moments = λ name t at. no_table name t at;
  descriptions = λ name t at. no_table name t at;
}

-- And the files of an image that hold no rows stand for it.
pub image_made : (image : ℕ → Option (List ℕ)) → IsLayout image no_rows → StandsFor image start
image_made image is = record {
  layout = no_rows;
  is = is;
  shows = shows_start;
  valid = start_valid;
  held = held_start;
}
