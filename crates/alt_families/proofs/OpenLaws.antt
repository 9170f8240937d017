-- The rows of a family are those of its files and of memory.
use Rattle.std.proofs.Common.{◌≡◌, ◌<◌, ◌+◌, ℕ, List, [], ◌∷◌, drop, drop-cons, suc, length, get_or, Option, Some, None, refl, sym, ap, subst, ◌∙◌, arith}
use Rattle.std.specs.FinMap.{empty, get, get-empty}
use Rattle.alt_cells.specs.declared.row.RowCells.{RowCells}
use Rattle.alt_cells.specs.Joined.{either, joined_map}
use Rattle.alt_cells.specs.Keys.{key_cmp}
use Rattle.alt_cells.specs.Rows.{join_row}
use Rattle.alt_cells.proofs.CellLaws.{key_total}
use Rattle.alt_cells.proofs.Entries.{either_none, either-assoc}
use Rattle.alt_cells.proofs.RowLaws.{get-joined_map, IsJoin-join_row}
use Rattle.alt_disk.specs.Disk.{DiskState}
use Rattle.alt_disk.specs.Runs.{Quiet}
use Rattle.alt_layout.specs.Layout.{RowMap}
use Rattle.alt_layout.proofs.RowLaws.{none_before}
use Rattle.alt_merge.specs.Merges.{Each2, all_rows}
use Rattle.alt_rowfile.specs.declared.rowfile.RowFile.{RowFile}
use Rattle.alt_families.specs.Families.{files_in, rows_in}
use Rattle.alt_families.specs.Opened.{IsOpen, FamilyReads}
use Rattle.alt_families.specs.declared.family.Family.{Family}

-- a family that isn't in hand has no rows
pub none_reads : (s : DiskState) (rows : RowMap) → FamilyReads s None rows → rows ≡ empty
none_reads s rows reads = reads.is ∙ none_before (all_rows reads.maps) ∙ no_maps reads.maps reads.each
  where
    no_maps : (maps : List RowMap) → Each2 (IsOpen s) [] maps → all_rows maps ≡ empty
    no_maps [] each = refl
    no_maps (m ∷ ms) each = absurd each

-- the same family reads as the same maps
abbrev pub reads_at : (s : DiskState) (f g : Option Family) (rows : RowMap) → f ≡ g
    → FamilyReads s f rows → FamilyReads s g rows
reads_at s f g rows same reads = record {
  maps = reads.maps;
  each = subst (λ (o : Option Family). Each2 (IsOpen s) (files_in o) reads.maps) same reads.each;
  is = reads.is ∙ ap (λ (o : Option Family). joined_map join_row (rows_in o) (all_rows reads.maps)) same;
}

-- ---- one row

-- a file in hand reads as it read
pub open_quiet : (a b : DiskState) (f : RowFile) (m : RowMap) → Quiet a b → IsOpen a f m → IsOpen b f m
open_quiet a b f m quiet reads = record {
  bytes = reads.bytes;
  there = quiet.file f.file ∙ reads.there;
  as_file = reads.as_file;
}

-- what is found of files that are still to be asked, joined to what was found, is what is looked for
pub record RowLeft (s : DiskState) (fs : List RowFile) (key : List ℕ) (row : Option RowCells)
    (rows : RowMap) : Type 0 where
  pub maps : List RowMap
  pub each : Each2 (IsOpen s) fs maps
  pub is : get rows key ≡ either join_row row (get (all_rows maps) key)

-- at first nothing
pub row_first : (s : DiskState) (fs : List RowFile) (key : List ℕ) (maps : List RowMap)
    → Each2 (IsOpen s) fs maps → RowLeft s fs key None (all_rows maps)
row_first s fs key maps each = record { maps = maps; each = each; is = refl }

-- a family's row is the one in memory, joined with what its files have
pub row_joined : (s : DiskState) (f : Family) (key : List ℕ) (rows : RowMap)
    → (reads : FamilyReads s (Some f) rows)
    → get rows key ≡ either join_row (get f.table.0 key) (get (all_rows reads.maps) key)
row_joined s f key rows reads =
    ap (λ (m : RowMap). get m key) reads.is
    ∙ get-joined_map key_cmp key_total join_row f.table.0 (all_rows reads.maps) key

-- one file more
row_next : (s : DiskState) (f : RowFile) (fs : List RowFile) (key : List ℕ)
    (row more new : Option RowCells) (rows : RowMap) → RowLeft s (f ∷ fs) key row rows
    → ((m : RowMap) → IsOpen s f m → more ≡ get m key) → new ≡ either join_row row more
    → RowLeft s fs key new rows
row_next s f fs key row more new rows left asked is = by left.maps left.each left.is
  where
    by : (maps : List RowMap) → Each2 (IsOpen s) (f ∷ fs) maps
        → get rows key ≡ either join_row row (get (all_rows maps) key) → RowLeft s fs key new rows
    by [] each same = absurd each
    by (m ∷ ms) each same = record {
      maps = ms;
      each = each.1;
      is = same
          ∙ ap (either join_row row)
          (get-joined_map key_cmp key_total join_row m (all_rows ms) key
          ∙ ap (λ o. either join_row o (get (all_rows ms) key)) (sym (asked m each.0)))
          ∙ sym (either-assoc join_row IsJoin-join_row row more (get (all_rows ms) key))
          ∙ ap (λ o. either join_row o (get (all_rows ms) key)) (sym is);
    }

pub row_more : (s : DiskState) (fs : List RowFile) (i : ℕ) (f : RowFile) (key : List ℕ)
    (row more new : Option RowCells) (rows : RowMap) → RowLeft s (drop i fs) key row rows
    → i < length fs → f ≡ get_or fs i f → ((m : RowMap) → IsOpen s f m → more ≡ get m key)
    → new ≡ either join_row row more → RowLeft s (drop (i + 1) fs) key new rows
row_more s fs i f key row more new rows left within at asked is =
    row_next s f (drop (i + 1) fs) key row more new rows
    (subst (λ (l : List RowFile). RowLeft s l key row rows)
    (drop-cons fs i f within ∙ (λ j. sym at j ∷ drop (one_more i j) fs)) left) asked is
  where
    one_more : (n : ℕ) → suc n ≡ n + 1
    one_more n = omega arith

-- after the last one it is what is looked for
pub row_last : (s : DiskState) (fs : List RowFile) (key : List ℕ) (row : Option RowCells)
    (rows : RowMap) → RowLeft s fs key row rows → fs ≡ [] → row ≡ get rows key
row_last s fs key row rows left none = by left.maps (subst (λ l. Each2 (IsOpen s) l left.maps) none left.each)
    left.is
  where
    by : (maps : List RowMap) → Each2 (IsOpen s) [] maps
        → get rows key ≡ either join_row row (get (all_rows maps) key) → row ≡ get rows key
    by [] each same = sym (same ∙ ap (either join_row row) (get-empty key_cmp key)
        ∙ either_none join_row row)
    by (m ∷ ms) each same = absurd each

-- where there is a file it reads as some map
pub some_open : {P : Type 0} (s : DiskState) (fs : List RowFile) (i : ℕ) (f : RowFile) (key : List ℕ)
    (row : Option RowCells) (rows : RowMap) → RowLeft s (drop i fs) key row rows → i < length fs
    → f ≡ get_or fs i f → ((m : RowMap) → IsOpen s f m → P) → P
some_open {P} s fs i f key row rows left within at leads =
    by left.maps (subst (λ (l : List RowFile). Each2 (IsOpen s) l left.maps)
    (drop-cons fs i f within ∙ ap (λ (x : RowFile). x ∷ drop (suc i) fs) (sym at)) left.each)
  where
    by : (maps : List RowMap) → Each2 (IsOpen s) (f ∷ drop (suc i) fs) maps → P
    by [] each = absurd each
    by (m ∷ ms) each = leads m each.0

-- a family reads as it read while calls leave every file
pub reads_still : (a b : DiskState) (f : Option Family) (rows : RowMap) → Quiet a b
    → FamilyReads a f rows → FamilyReads b f rows
reads_still a b f rows quiet reads = record {
  maps = reads.maps;
  each = all (files_in f) reads.maps reads.each;
  is = reads.is;
}
  where
    all : (fs : List RowFile) (ms : List RowMap) → Each2 (IsOpen a) fs ms → Each2 (IsOpen b) fs ms
    all [] [] each = tt
    all [] (m ∷ ms) each = absurd each
    all (g ∷ gs) [] each = absurd each
    all (g ∷ gs) (m ∷ ms) each = (open_quiet a b g m quiet each.0, all gs ms each.1)
