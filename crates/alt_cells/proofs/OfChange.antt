-- The cells that a change makes, as they are put together: names that rise, and halves.
use Rattle.std.proofs.Common.{◌≡◌, ℕ, T, List, [], ◌∷◌, ◌++◌, map, Option, sym, ap, ◌∙◌, take, drop}
use Rattle.std.proofs.lemmas.List.{take-append-drop}
use Rattle.std.specs.Prelude.{option_map}
use Rattle.std.specs.FinMap.{FinMap, entries, get-entries, same_map}
use Rattle.std.specs.FinMap.Entries.{find, is_sorted}
use Rattle.alt_cells.specs.declared.cell.Cell.{Cell}
use Rattle.alt_cells.specs.Keys.{key_cmp}
use Rattle.alt_cells.specs.Cells.{cell_cmp, greater}
use Rattle.alt_cells.specs.Joined.{joined_map}
use Rattle.alt_cells.specs.Changes.{GivenColumns, cell_at, one_cell, cells_given}
use Rattle.alt_cells.proofs.CellLaws.{key_total, key_exact, IsJoin-winner}
use Rattle.alt_cells.proofs.GivenLaws.{find-map, given_to-rising, get-cells_given}
use Rattle.alt_cells.proofs.RowLaws.{cells_join, joined_map-empty}

-- a name with its cell
abbrev pub entry_given : ℕ → List ℕ × Option (List ℕ) → List ℕ × Cell
entry_given number e = (e.0, cell_at number e.1)

-- where the names rise, the cells of a change are those of the names, one by one
pub cells_given-rising : (number : ℕ) (es : GivenColumns) (m : FinMap key_cmp Cell)
    → T (is_sorted key_cmp es)
    → entries m ≡ map (entry_given number) es → m ≡ cells_given number es
cells_given-rising number es m h is = same_map key_total key_exact _ _ (λ q.
    get-entries m q ∙ ap (find key_cmp q) is ∙ find-map (cell_at number) q es
    ∙ ap (option_map (cell_at number)) (sym (given_to-rising q es h))
    ∙ sym (get-cells_given number es q))

-- the cells of two lists are those of each, joined
cells_given-append : (number : ℕ) (es fs : GivenColumns)
    → cells_given number (es ++ fs)
    ≡ joined_map (greater cell_cmp) (cells_given number es) (cells_given number fs)
cells_given-append number [] fs =
    sym (joined_map-empty key_cmp key_total (greater cell_cmp) key_exact IsJoin-winner
    (cells_given number fs))
cells_given-append number (e ∷ es) fs =
    ap (joined_map (greater cell_cmp) (one_cell number e)) (cells_given-append number es fs)
    ∙ sym (cells_join.assoc (one_cell number e) (cells_given number es) (cells_given number fs))

-- so halves may be joined
pub cells_given-halves : (number n : ℕ) (es : GivenColumns)
    → joined_map (greater cell_cmp) (cells_given number (take n es))
    (cells_given number (drop n es)) ≡ cells_given number es
cells_given-halves number n es =
    sym (cells_given-append number (take n es) (drop n es))
    ∙ ap (cells_given number) (take-append-drop n es)
