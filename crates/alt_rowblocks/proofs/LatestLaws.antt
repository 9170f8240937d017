-- The greatest timestamp of rows bounds them, and one of them has it: for the proofs of callers.
use Rattle.std.proofs.Common.{◌≡◌, ◌<◌, ◌≤◌, ◌⊎◌, ⊎_elim, inl, inr, ℕ, suc, Bool, true, false, cond, List, [], ◌∷◌, length, get_or, max, Option, Some, None, refl, sym, ap, ◌∙◌, arith}
use Rattle.std.proofs.lemmas.Bool.{cases_lt}
use Rattle.std.specs.FinMap.{entries, get, get-entries}
use Rattle.std.specs.FinMap.Entries.{find}
use Rattle.std.specs.List.{fold}
use Rattle.std.specs.Ordering.{eq_by_cmp}
use Rattle.alt_cells.proofs.Searched.{get_entry}
use Rattle.alt_cells.specs.Changes.{IsRowBelow}
use Rattle.alt_cells.specs.Keys.{key_cmp}
use Rattle.alt_cells.specs.Walks.{RowMap}
use Rattle.alt_cells.specs.declared.cell.Cell.{Cell}
use Rattle.alt_cells.specs.declared.row.RowCells.{RowCells}
use Rattle.alt_rowblocks.specs.Summaries.{tombstone_timestamp, latest_of, row_latest}

-- the greatest of a number and of those of entries
abbrev greatest : {X : Type 0} → (X → ℕ) → ℕ → List (List ℕ × X) → ℕ
greatest h a es = fold (λ n e. max n (h e.1)) a es

-- it isn't below the first
first_within : {X : Type 0} (h : X → ℕ) (a : ℕ) (es : List (List ℕ × X)) → a ≤ greatest h a es
first_within h a [] = omega arith
first_within h a (e ∷ es) = omega (arith, first_within h (max a (h e.1)) es)

-- nor below what is found
found_within : {X : Type 0} (h : X → ℕ) (a : ℕ) (es : List (List ℕ × X)) (q : List ℕ) (x : X)
    → find key_cmp q es ≡ Some x → h x ≤ greatest h a es
found_within h a [] q x found = let n : None ≡ Some x = found in cc n
found_within h a (e ∷ es) q x found =
    by_test (eq_by_cmp key_cmp q e.0) found (found_within h (max a (h e.1)) es q x)
  where
    by_test : (same : Bool) → cond same (Some e.1) (find key_cmp q es) ≡ Some x
        → (find key_cmp q es ≡ Some x → h x ≤ greatest h (max a (h e.1)) es)
        → h x ≤ greatest h (max a (h e.1)) es
    by_test true found rest =
        let this : e.1 ≡ x = cc found in
        omega (arith, ap h this, first_within h (max a (h e.1)) es)
    by_test false found rest = rest found

-- an entry has a number from this one on, at its place
record Reaches {X : Type 0} (h : X → ℕ) (n : ℕ) (es : List (List ℕ × X)) : Type 0 where
  pub place : ℕ
  pub within : place < length es
  pub entry : List ℕ × X
  pub at : entry ≡ get_or es place entry
  pub high : n ≤ h entry.1

-- one of them has it
reached : {X : Type 0} (h : X → ℕ) (n a : ℕ) (es : List (List ℕ × X)) → n ≤ greatest h a es
    → (n ≤ a) ⊎ Reaches h n es
reached h n a [] high = inl high
reached {X} h n a (e ∷ es) high = ⊎_elim
    (λ (first : n ≤ max a (h e.1)). here first (cases_lt a n))
    (λ (later : Reaches h n es). inr (behind later)) (reached h n (max a (h e.1)) es high)
  where
    here : n ≤ max a (h e.1) → (a < n) ⊎ (n ≤ a) → (n ≤ a) ⊎ Reaches h n (e ∷ es)
    here first (inr low) = inl low
    here first (inl low) = inr (record {
      place = 0;
      within = omega arith;
      entry = e;
      at = refl;
      high = omega (arith, first, low);
    })

    behind : Reaches h n es → Reaches h n (e ∷ es)
    behind later = record {
      place = suc later.place;
      within = let le = later.within in omega (arith, le);
      entry = later.entry;
      at = later.at;
      high = later.high;
    }

-- a row is below what is above its greatest timestamp
row_early : (n : ℕ) (row : RowCells) → row_latest row < n → IsRowBelow n row
row_early n row low = record {
  gone = λ g is.
      let first = first_within (λ (c : Cell). c.at) (tombstone_timestamp row.gone) (entries row.cells) in
      let here : tombstone_timestamp row.gone ≡ g = ap tombstone_timestamp is in
      omega (arith, low, first, here);
  cells = λ q c there.
      let here = found_within (λ (x : Cell). x.at) (tombstone_timestamp row.gone) (entries row.cells) q c
      (sym (get-entries row.cells q) ∙ there) in
      omega (arith, low, here);
}

-- and below nothing else
row_late : (n : ℕ) (row : RowCells) → 0 < n → n ≤ row_latest row → IsRowBelow n row → ⊥
row_late n row some high below = ⊎_elim (by_gone row.gone refl) by_cell
    (reached (λ (c : Cell). c.at) n (tombstone_timestamp row.gone) (entries row.cells) high)
  where
    by_gone : (gone : Option ℕ) → row.gone ≡ gone → n ≤ tombstone_timestamp gone → ⊥
    by_gone None is high = omega (arith, some, high)
    by_gone (Some g) is high = omega (arith, below.gone g is, high)

    by_cell : Reaches (λ (c : Cell). c.at) n (entries row.cells) → ⊥
    by_cell found =
        let low = below.cells found.entry.0 found.entry.1 (get_entry row.cells (entries row.cells)
        found.place found.entry refl found.within found.at) in
        let high = found.high in
        omega (arith, low, high)

-- all rows are below what is above their greatest timestamp
pub latest_early : (n : ℕ) (m : RowMap) → latest_of (entries m) < n → (key : List ℕ)
    (row : RowCells) → get m key ≡ Some row → IsRowBelow n row
latest_early n m low key row there =
    let here = found_within row_latest 0 (entries m) key row (sym (get-entries m key) ∙ there) in
    row_early n row (omega (arith, low, here))

-- and below nothing else
pub latest_late : (n : ℕ) (m : RowMap) → 0 < n → n ≤ latest_of (entries m)
    → ((key : List ℕ) (row : RowCells) → get m key ≡ Some row → IsRowBelow n row) → ⊥
latest_late n m some high below = ⊎_elim (λ (none : n ≤ 0). omega (arith, some, none)) by_row
    (reached row_latest n 0 (entries m) high)
  where
    by_row : Reaches row_latest n (entries m) → ⊥
    by_row found = row_late n found.entry.1 some found.high
        (below found.entry.0 found.entry.1 (get_entry m (entries m)
        found.place found.entry refl found.within found.at))
