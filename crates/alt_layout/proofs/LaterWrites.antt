-- A merged family shows what it showed with any later writes too.
use Rattle.std.proofs.Common.{◌≡◌, ◌<◌, ◌≤◌, ℕ, List, [], ◌∷◌, Option, Some, None, refl, sym, ap, ◌∙◌, arith, max}
use Rattle.std.specs.Prelude.{option_and_then}
use Rattle.std.specs.FinMap.{get}
use Rattle.alt_cells.specs.declared.cell.Cell.{Cell}
use Rattle.alt_cells.specs.declared.row.RowCells.{RowCells}
use Rattle.alt_cells.specs.Changes.{Columns, IsRowBelow, columns_of}
use Rattle.alt_cells.specs.Cells.{cell_cmp, greater}
use Rattle.alt_cells.specs.Joined.{either}
use Rattle.alt_cells.specs.Keys.{key_cmp}
use Rattle.alt_cells.specs.Rows.{join_row}
use Rattle.alt_cells.specs.Shown.{value_shown, shown_at, columns_shown, row_shown}
use Rattle.alt_cells.proofs.AfterLaws.{bare_below, bare_shown}
use Rattle.alt_cells.proofs.CellLaws.{key_total}
use Rattle.alt_cells.proofs.ChangeLaws.{columns_of-as_shown, get-columns_shown, row_shown_as}
use Rattle.alt_cells.proofs.CompactLaws.{same_shown, later_only}
use Rattle.alt_cells.proofs.Entries.{either_none}
use Rattle.alt_cells.proofs.RowLaws.{get-joined_map, join_row-empty}
use Rattle.alt_layout.specs.Layout.{Layout, IsPast, shown}
use Rattle.alt_writes.specs.Writes.{Write, AreRising}
use Rattle.alt_layout.specs.Merges.{IsFrom}
use Rattle.alt_layout.proofs.PastLaws.{is_past_after, row_later}
use Rattle.alt_layout.proofs.MergeLaws.{not_hidden, latest, hidden_all, cell_joined, bare, changes_from}
use Rattle.alt_layout.specs.Writes.{changes_in, with_write, with_writes}

-- what a later row makes of what a column shows
abbrev shown_with : Option ℕ → Option Cell → Option (List ℕ) → Option (List ℕ)
shown_with (Some g) (Some c) v = value_shown (Some g) c
shown_with (Some g) None v = None
shown_with None (Some c) v = c.value
shown_with None None v = v

-- no cell and no timestamp of the earlier row counts
column_with : (n : ℕ) (gone later : Option ℕ) (o l : Option Cell)
    → ((g : ℕ) → gone ≡ Some g → g < n) → ((c : Cell) → o ≡ Some c → c.at < n)
    → ((g : ℕ) → later ≡ Some g → n ≤ g) → ((c : Cell) → l ≡ Some c → n ≤ c.at)
    → option_and_then (value_shown (either max gone later)) (either (greater cell_cmp) o l)
    ≡ shown_with later l (option_and_then (value_shown gone) o)
column_with n gone (Some g) o (Some c) old_gone old later_gone later =
    ap (λ x. option_and_then (value_shown x) (either (greater cell_cmp) o (Some c)))
    (latest n gone g old_gone (later_gone g refl))
    ∙ ap (option_and_then (value_shown (Some g))) (later_only n o c old (later c refl))
column_with n gone (Some g) o None old_gone old later_gone later =
    ap (λ x. option_and_then (value_shown x) (either (greater cell_cmp) o None))
    (latest n gone g old_gone (later_gone g refl))
    ∙ ap (option_and_then (value_shown (Some g))) (either_none (greater cell_cmp) o)
    ∙ hidden_all n g o old (later_gone g refl)
column_with n gone None o (Some c) old_gone old later_gone later =
    ap (λ x. option_and_then (value_shown x) (either (greater cell_cmp) o (Some c)))
    (either_none max gone)
    ∙ ap (option_and_then (value_shown gone)) (later_only n o c old (later c refl))
    ∙ not_hidden n gone c old_gone (later c refl)
column_with n gone None o None old_gone old later_gone later =
    ap (λ x. option_and_then (value_shown x) (either (greater cell_cmp) o None))
    (either_none max gone)
    ∙ ap (option_and_then (value_shown gone)) (either_none (greater cell_cmp) o)

-- rows that show the same show the same at each column
alike_at : (a b : RowCells) → row_shown a ≡ row_shown b → (q : List ℕ) → shown_at a q ≡ shown_at b q
alike_at a b same q =
    sym (get-columns_shown a q)
    ∙ ap (λ (m : Columns). get m q) (sym (columns_of-as_shown (columns_shown a))
    ∙ ap columns_of (sym (row_shown_as a) ∙ same ∙ row_shown_as b)
    ∙ columns_of-as_shown (columns_shown b))
    ∙ get-columns_shown b q

-- earlier rows that show the same show the same with a later one
rows_with : (n : ℕ) (a b later : RowCells) → IsRowBelow n a → IsRowBelow n b → IsFrom n later
    → row_shown a ≡ row_shown b → row_shown (join_row a later) ≡ row_shown (join_row b later)
rows_with n a b later below_a below_b from same =
    same_shown (join_row a later) (join_row b later) (λ q.
    ap (option_and_then (value_shown (either max a.gone later.gone))) (cell_joined a later q)
    ∙ column_with n a.gone later.gone (get a.cells q) (get later.cells q) below_a.gone
    (below_a.cells q) from.gone (from.cells q)
    ∙ ap (shown_with later.gone (get later.cells q)) (alike_at a b same q)
    ∙ sym (column_with n b.gone later.gone (get b.cells q) (get later.cells q) below_b.gone
    (below_b.cells q) from.gone (from.cells q))
    ∙ ap (option_and_then (value_shown (either max b.gone later.gone))) (sym (cell_joined b later q)))

-- a row or none, as a row
abbrev some_row : Option RowCells → RowCells
some_row None = bare
some_row (Some row) = row

some_below : (n : ℕ) (o : Option RowCells) → ((row : RowCells) → o ≡ Some row → IsRowBelow n row)
    → IsRowBelow n (some_row o)
some_below n None below = bare_below n
some_below n (Some row) below = below row refl

some_shown : (o : Option RowCells) → row_shown (some_row o) ≡ option_and_then row_shown o
some_shown None = bare_shown
some_shown (Some row) = refl

some_joined : (o : Option RowCells) (later : RowCells)
    → either join_row o (Some later) ≡ Some (join_row (some_row o) later)
some_joined None later = ap (λ x. Some x) (sym (join_row-empty later))
some_joined (Some row) later = refl

-- one key
key_with : (n : ℕ) (o p l : Option RowCells) → ((row : RowCells) → o ≡ Some row → IsRowBelow n row)
    → ((row : RowCells) → p ≡ Some row → IsRowBelow n row)
    → ((row : RowCells) → l ≡ Some row → IsFrom n row)
    → option_and_then row_shown o ≡ option_and_then row_shown p
    → option_and_then row_shown (either join_row o l)
    ≡ option_and_then row_shown (either join_row p l)
key_with n o p None below_o below_p from same =
    ap (option_and_then row_shown) (either_none join_row o) ∙ same
    ∙ ap (option_and_then row_shown) (sym (either_none join_row p))
key_with n o p (Some later) below_o below_p from same =
    ap (option_and_then row_shown) (some_joined o later)
    ∙ rows_with n (some_row o) (some_row p) later (some_below n o below_o) (some_below n p below_p)
    (from later refl) (some_shown o ∙ same ∙ sym (some_shown p))
    ∙ ap (option_and_then row_shown) (sym (some_joined p later))

-- What two layouts show alike they show alike after the same write, whatever cells show it.
pub same_after : (l m : Layout) (w : Write) → IsPast l → IsPast m → l.next_number ≤ w.number
    → m.next_number ≤ w.number → (family : ℕ) (key : List ℕ)
    → shown l family key ≡ shown m family key
    → shown (with_write l w) family key ≡ shown (with_write m w) family key
same_after l m w past_l past_m later_l later_m family key same =
    let more = changes_in w.number family w.changes in
    ap (option_and_then row_shown) (get-joined_map key_cmp key_total join_row (l.rows family) more key)
    ∙ key_with w.number (get (l.rows family) key) (get (m.rows family) key) (get more key)
    (λ row e. row_later l.next_number w.number row later_l (past_l family key row e))
    (λ row e. row_later m.next_number w.number row later_m (past_m family key row e))
    (changes_from w.number family w.changes key) same
    ∙ ap (option_and_then row_shown)
    (sym (get-joined_map key_cmp key_total join_row (m.rows family) more key))

-- what two layouts show alike they show alike after any writes with rising numbers from the next one on
pub same_after_all : (l m : Layout) (ws : List Write) → IsPast l → IsPast m
    → m.next_number ≡ l.next_number → AreRising l.next_number ws → (family : ℕ) (key : List ℕ)
    → shown m family key ≡ shown l family key
    → shown (with_writes m ws) family key ≡ shown (with_writes l ws) family key
same_after_all l m [] past_l past_m next rising family key same = same
same_after_all l m (w ∷ ws) past_l past_m next rising family key same =
    let first = rising.0 in
    let first_m : m.next_number ≤ w.number = omega (arith, first, next) in
    same_after_all (with_write l w) (with_write m w) ws (is_past_after l w past_l first)
    (is_past_after m w past_m first_m) refl rising.1 family key
    (same_after m l w past_m past_l first_m first family key same)
