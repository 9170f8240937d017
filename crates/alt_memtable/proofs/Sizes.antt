-- How long the bytes of cells and of a row are.
use Rattle.std.proofs.Common.{◌≡◌, sym, ap, ◌∙◌, ℕ, ◌+◌, ◌<◌, List, [], ◌∷◌, ◌++◌, length, take, get_or, Option, Some, None, Bool, true, false, arith, length-append}
use Rattle.std.specs.List.{flat_map}
use Rattle.std.specs.Prelude.{is_some, if◌then◌else◌}
use Rattle.std.specs.Int.{w64, to_be_bytes}
use Rattle.std.specs.FinMap.{entries, len}
use Rattle.std.proofs.lemmas.List.{take_more, append-nil}
use Rattle.std.proofs.lemmas.Grind.{flat_map-append}
use Rattle.alt_cells.specs.declared.cell.Cell.{Cell}
use Rattle.alt_cells.specs.declared.row.RowCells.{RowCells}
use Rattle.alt_cells.specs.Format.{tombstone_bytes, cell_bytes, cells_bytes, bytes_of_row}

-- one cell more
pub cells_more : (es : List (List ℕ × Cell)) (i : ℕ) (e : List ℕ × Cell) → i < length es
    → e ≡ get_or es i e
    → length (flat_map cell_bytes (take (i + 1) es))
    ≡ length (flat_map cell_bytes (take i es)) + length (cell_bytes e)
cells_more es i e within at =
    ap (λ l. length (flat_map cell_bytes l)) (take_more es i e within)
    ∙ ap length (flat_map-append cell_bytes (take i es) (get_or es i e ∷ []))
    ∙ length-append (flat_map cell_bytes (take i es)) (flat_map cell_bytes (get_or es i e ∷ []))
    ∙ ap (λ f. length (flat_map cell_bytes (take i es)) + length f)
    (append-nil (cell_bytes (get_or es i e)) ∙ ap cell_bytes (sym at))

-- a tombstone has its number or not
tombstone-length : (gone : Option ℕ) → length (tombstone_bytes gone)
    ≡ (if is_some gone then 9 else 1)
tombstone-length None = omega arith
tombstone-length (Some number) = omega arith

-- a row is its tombstone, its count and its cells
pub row-length : (row : RowCells) → length (bytes_of_row row)
    ≡ (if is_some row.gone then 9 else 1) + (8 + length (flat_map cell_bytes (entries row.cells)))
unfolding bytes_of_row
row-length row =
    length-append (tombstone_bytes row.gone) (to_be_bytes w64 (len row.cells)
    ++ cells_bytes (entries row.cells))
    ∙ (λ i. tombstone-length row.gone i + length-append (to_be_bytes w64 (len row.cells))
    (cells_bytes (entries row.cells)) i)

-- by the test of its tombstone
pub row_counted : (row : RowCells) (b : Bool) (head : ℕ) → b ≡ is_some row.gone
    → head ≡ (if b then 17 else 9)
    → length (bytes_of_row row) ≡ head + length (flat_map cell_bytes (entries row.cells))
row_counted row true head told is =
    omega (arith, is, row-length row, ap {B = ℕ} (λ (b : Bool). if b then 9 else 1) told)
row_counted row false head told is =
    omega (arith, is, row-length row, ap {B = ℕ} (λ (b : Bool). if b then 9 else 1) told)
