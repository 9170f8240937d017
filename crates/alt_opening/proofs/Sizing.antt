-- How many bytes the items have at most whose rows are read one after the other, and so those of the state.
use Rattle.std.proofs.Common.{◌≡◌, ◌≤◌, ℕ, List, [], ◌∷◌, ◌++◌, max, refl, ap, ◌∙◌, option_map, arith}
use Rattle.std.specs.FinMap as map
use Rattle.alt_cells.specs.Changes.{Columns}
use Rattle.alt_layout.specs.Layout.{Layout}
use Rattle.alt_machine.specs.State.{State, Texts, descriptions}
use Rattle.alt_machine.specs.Valid.{IsValid}
use Rattle.alt_opening.specs.Scans.{IsBelow, IsFirstFrom, RowsWhere}
use Rattle.alt_opening.specs.Sized.{AreSized}
use Rattle.alt_opening.specs.StateRows.{IsHeldWhole, Shows}
use Rattle.alt_opening.specs.private.RowSizes.{AreAllWithin, RowsAreWithin}
use Rattle.alt_tablerows.specs.ItemTests.{IsWithin}
use Rattle.alt_opening.proofs.OneState.{has_whole}
use Rattle.alt_opening.proofs.Scanning.{rows_more, rows_next}
use Rattle.alt_opening.proofs.StreamState.{known_at}
use Rattle.alt_opening.proofs.TableSteps.{AreUpTo}
use Rattle.alt_schema.specs.declared.schema.TableSchema.{TableSchema}
use Rattle.alt_tablerows.specs.ItemRows.{item_columns}

-- an item that has no more than one number has no more than a larger one
pub within_more : (m n : ℕ) → m ≤ n → (key : List ℕ) (row : Columns) → IsWithin m key row
    → IsWithin n key row
within_more m n up key row small item is same = let h = small item is same in omega (arith, up, h)

-- the larger of two numbers
up_left : (m n k : ℕ) → k ≡ max m n → m ≤ k
up_left m n k is = grind (arith, is)

up_right : (m n k : ℕ) → k ≡ max m n → n ≤ k
up_right m n k is = grind (arith, is)

-- one row more
pub sized_more : (l : Layout) (family old size new : ℕ) → new ≡ max size old → (from : List ℕ)
    → RowsWhere (λ k. IsBelow k from) l family (IsWithin old) → (key : List ℕ) (row : Columns)
    → IsFirstFrom l family from key row → IsWithin size key row → (after : List ℕ)
    → after ≡ key ++ 0 ∷ [] → RowsWhere (λ k. IsBelow k after) l family (IsWithin new)
sized_more l family old size new is from so_far key row first small after at =
    rows_more l family (IsWithin new) key row
    (rows_next l family (IsWithin new) from
    (λ k c low shows. within_more old new (up_right size old new is) k c (so_far k c low shows))
    key row first) first.shows (within_more size new (up_left size old new is) key row small)
    after at

-- one table more
pub within_up : (l : Layout) (catalog : Texts TableSchema) (family old size new : ℕ)
    → new ≡ max size old → AreUpTo (RowsAreWithin l old) catalog family
    → AreUpTo (RowsAreWithin l new) catalog family
within_up l catalog family old size new is so_far name d at low key row here shows =
    within_more old new (up_right size old new is) key row (so_far name d at low key row here shows)

pub within_this : (l : Layout) (d : TableSchema) (old size new : ℕ) → new ≡ max size old
    → RowsAreWithin l size d → RowsAreWithin l new d
within_this l d old size new is own key row here shows =
    within_more size new (up_left size old new is) key row (own key row here shows)

-- those of a state are those of its rows
pub sized_state : (l : Layout) (known : Texts TableSchema) (s : State)
    → descriptions s.tables ≡ known → Shows l s → IsValid s → IsHeldWhole s → (largest : ℕ)
    → AreAllWithin l known largest → AreSized s.tables largest
sized_state l known s catalog shows valid held largest within name place t item at there =
    within name t.description (known_at known s catalog name t at) place (item_columns item) tt
    (shows.items name t at place ∙ ap (option_map item_columns) there) item
    (record {
      whole = has_whole s valid held name t at place item there;
      depth = ((valid.tables name t at).items place item there).depth;
    }) refl
