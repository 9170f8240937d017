-- The rows of a layout before one of them, and up to it, taken alone.
use Rattle.std.proofs.Common.{◌≡◌, refl, sym, ap, ◌∙◌, ℕ, Bool, true, false, cond, List, Option, None}
use Rattle.std.specs.Prelude.{option_and_then}
use Rattle.std.specs.FinMap.{get, retain_keys, get-retain_keys}
use Rattle.alt_cells.specs.Shown.{row_shown}
use Rattle.alt_cells.specs.declared.row.RowCells.{RowCells}
use Rattle.alt_cells.proofs.CellLaws.{key_exact}
use Rattle.alt_layout.specs.Layout.{Layout, shown}

-- the layout with those rows alone whose places pass a test
abbrev pub cut : (ℕ → List ℕ → Bool) → Layout → Layout
cut here l = record l { rows = λ family. retain_keys (l.rows family) (here family) }

-- a row that may be left out is shown if it isn't
shown_if : (b : Bool) (o : Option RowCells) → option_and_then row_shown (cond b o None)
    ≡ cond b (option_and_then row_shown o) None
shown_if true o = refl
shown_if false o = refl

-- it shows those
pub shown-cut : (here : ℕ → List ℕ → Bool) (l : Layout) (family : ℕ) (key : List ℕ)
    → shown (cut here l) family key ≡ cond (here family key) (shown l family key) None
shown-cut here l family key =
    ap (option_and_then row_shown) (get-retain_keys (l.rows family) (here family) key
    (λ x tied. ap (here family) (sym (key_exact key x tied))))
    ∙ shown_if (here family key) (get (l.rows family) key)

-- what passes shows what it showed
pub shown-here : (here : ℕ → List ℕ → Bool) (l : Layout) (family : ℕ) (key : List ℕ)
    → here family key ≡ true → shown (cut here l) family key ≡ shown l family key
shown-here here l family key is = shown-cut here l family key
    ∙ ap (λ b. cond b (shown l family key) None) is

-- and nothing else is shown
pub shown-not : (here : ℕ → List ℕ → Bool) (l : Layout) (family : ℕ) (key : List ℕ)
    → here family key ≡ false → shown (cut here l) family key ≡ None
shown-not here l family key is = shown-cut here l family key
    ∙ ap (λ b. cond b (shown l family key) None) is
