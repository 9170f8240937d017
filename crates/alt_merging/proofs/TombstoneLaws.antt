-- Rows that a compaction without tombstones leaves have none.
use Rattle.std.proofs.Common.{◌≡◌, ◌||◌, ℕ, Bool, true, false, List, [], ◌∷◌, Option, Some, refl, sym, ap, subst, ◌∙◌}
use Rattle.std.proofs.lemmas.List.Folds.{list_any-append}
use Rattle.std.specs.Prelude.{◌&&◌, not, cond, is_none, if◌then◌else◌}
use Rattle.std.specs.FinMap.{entries, entries-from_sorted, entries_sorted}
use Rattle.std.specs.List.{list_any}
use Rattle.alt_cells.specs.Compacted.{compacted, compacted_row, entry_compacted, is_bare, is_kept, kept_cells}
use Rattle.alt_cells.specs.Keys.{key_cmp}
use Rattle.alt_cells.specs.Shown.{is_hidden}
use Rattle.alt_cells.specs.Walks.{RowList}
use Rattle.alt_cells.specs.declared.cell.Cell.{Cell}
use Rattle.alt_cells.specs.declared.row.RowCells.{RowCells}
use Rattle.alt_cells.proofs.CompactLaws.{is_sorted-kept}
use Rattle.alt_cells.proofs.CellLaws.{key_total}
use Rattle.alt_disk.specs.Disk.{DiskState}
use Rattle.alt_rowfile.specs.Format.{IsRowFile}
use Rattle.alt_rowfile.specs.InHand.{file_of as row_file, ReadsRows as RowReads}
use Rattle.alt_rowfile.specs.Summaries.{any_tombstone, has_tombstone}
use Rattle.alt_rowfile.specs.declared.rowfile.RowFile.{RowFile}
use Rattle.alt_rowfile.proofs.OneFile.{one_list}
use Rattle.alt_merging.specs.Mergings.{FileIsPurged}

-- a cell is one
abbrev is_tombstone : List ℕ × Cell → Bool
is_tombstone e = is_none e.1.value

-- none of the cells that are kept is one
kept_plain : (gone : Option ℕ) (es : List (List ℕ × Cell))
    → list_any is_tombstone (kept_cells true gone es) ≡ false
kept_plain gone [] = refl
kept_plain gone (e ∷ es) =
    here (is_hidden gone e.1) (is_none e.1.value) refl (kept_plain gone es)
  where
    here : (hidden none : Bool) → is_none e.1.value ≡ none
        → list_any is_tombstone (kept_cells true gone es) ≡ false
        → list_any is_tombstone (cond (not hidden && not (true && none)) (e ∷ kept_cells true gone es)
        (kept_cells true gone es)) ≡ false
    here true none is rest = rest
    here false true is rest = rest
    here false false is rest = ap (λ t. t || list_any is_tombstone (kept_cells true gone es)) is ∙ rest

-- so the row has none
row_plain : (row : RowCells) → has_tombstone (compacted_row true row) ≡ false
unfolding compacted_row
row_plain row = ap (list_any is_tombstone)
    (entries-from_sorted key_cmp (kept_cells true row.gone (entries row.cells))
    (is_sorted-kept key_cmp key_total (is_kept true row.gone) (entries row.cells)
    (entries_sorted row.cells)))
    ∙ kept_plain row.gone (entries row.cells)

-- A compaction without tombstones leaves none.
pub any_tombstone-compacted : (rows : RowList) → any_tombstone (compacted true rows) ≡ false
any_tombstone-compacted [] = refl
any_tombstone-compacted (e ∷ es) =
    list_any-append (λ x. has_tombstone x.1) (entry_compacted true e) (compacted true es)
    ∙ ap (λ t. t || any_tombstone (compacted true es)) (here (is_bare (compacted_row true e.1)))
    ∙ any_tombstone-compacted es
  where
    here : (bare : Bool) → any_tombstone (if bare then [] else ((e.0, compacted_row true e.1) ∷ []))
        ≡ false
    here true = refl
    here false = ap (λ t. t || false) (row_plain e.1)

-- So a file that was made of one has none, as long as it reads as it read.
pub purged_made : (b z : DiskState) (made : RowFile) (rows : RowList)
    → RowReads b made (compacted true rows) → z.file (row_file made) ≡ b.file (row_file made)
    → FileIsPurged z made
purged_made b z made rows reads same m later =
    let bytes : later.bytes ≡ reads.bytes = inside later.bytes reads.bytes
    (sym later.there ∙ same ∙ reads.there) in
    let first : IsRowFile (entries m) later.bytes = record {
      blocks = later.as_file.blocks;
      file = later.as_file.file;
      are = later.as_file.are;
    } in
    let second : IsRowFile (compacted true rows) reads.bytes = record {
      blocks = reads.as_file.blocks;
      file = reads.as_file.file;
      are = reads.as_file.are;
    } in
    ap any_tombstone (one_list (entries m) (compacted true rows) reads.bytes
    (subst (IsRowFile (entries m)) bytes first) second) ∙ any_tombstone-compacted rows
  where
    inside : (x y : List ℕ) → Some x ≡ Some y → x ≡ y
    inside x y e = cc e
