-- Row files that were opened, and why one wasn't.
use Rattle.std.specs.FinMap.Entries.{is_sorted}
use Rattle.std.proofs.Common.{T, ◌≡◌, ◌<◌, ◌≤◌, ◌+◌, ◌∷◌, ◌++◌, inr, ℕ, List, [], length, take, get_or, Option, Some, refl, sym, ap, subst, ◌∙◌, arith}
use Rattle.std.proofs.lemmas.List.{take_more}
use Rattle.std.specs.FinMap.{entries, from_sorted, entries-from_sorted}
use Rattle.alt_cells.specs.Keys.{key_cmp}
use Rattle.alt_cells.specs.Walks.{RowMap}
use Rattle.alt_disk.specs.Disk.{DiskState}
use Rattle.alt_disk.specs.Runs.{Quiet}
use Rattle.alt_layout.specs.Files.{Image}
use Rattle.alt_manifest.proofs.Among.{in_at}
use Rattle.alt_rowfile.specs.Format.{Entry}
use Rattle.alt_rowfile.specs.InHand.{ReadsRows, file_of}
use Rattle.alt_rowfile.specs.Summaries.{latest_of}
use Rattle.alt_rowfile.specs.declared.fault.RowFileFault.{RowFileFault}
use Rattle.alt_rowfile.specs.declared.fault.RowFileFault.TheVariants.{Damaged}
use Rattle.alt_rowfile.specs.declared.rowfile.RowFile.{RowFile}
use Rattle.alt_rowfile.proofs.LatestLaws.{latest_early, latest_late}
use Rattle.alt_recovery.specs.Opening.{AreOpened, IsOpened, ExplainsOpening, ExplainsRows}

-- A row file in hand reads as rows by their keys.
pub record ReadsMap (s : DiskState) (file : RowFile) : Type 0 where
  pub rows : RowMap
  pub reads : ReadsRows s file (entries rows)

pub reads_map : (s : DiskState) (file : RowFile) (rows : List Entry) → ReadsRows s file rows
    → ReadsMap s file
reads_map s file rows reads =
    let same : rows ≡ entries (from_sorted {R = key_cmp} rows) =
    sym (entries-from_sorted key_cmp rows (subst (λ es. T (is_sorted key_cmp es))
    (sym reads.as_file.are) reads.as_file.file.rising)) in
    record {
      rows = from_sorted rows;
      reads = subst (ReadsRows s file) same reads;
    }

-- a row file in hand reads as it read while its file does
pub reads_while : (a b : DiskState) (file : RowFile) (rows : List Entry)
    → b.file (file_of file) ≡ a.file (file_of file) → ReadsRows a file rows → ReadsRows b file rows
reads_while a b file rows same reads = record {
  bytes = reads.bytes;
  there = same ∙ reads.there;
  as_file = reads.as_file;
}

-- its greatest timestamp isn't above the flushed number
pub opened_early : (s : DiskState) (f flushed : ℕ) (file : RowFile) (map : ReadsMap s file)
    → file_of file ≡ f → latest_of (entries map.rows) ≤ flushed
    → (m : RowMap) × IsOpened s flushed f file m
opened_early s f flushed file map named early = (
  map.rows,
  record {
    named = named;
    reads = map.reads;
    past = latest_early (flushed + 1) map.rows (omega (arith, early));
  },
)

-- it is
pub opened_late : (a b : DiskState) (f flushed : ℕ) (file : RowFile) (map : ReadsMap b file)
    → file_of file ≡ f → Quiet a b → flushed < latest_of (entries map.rows)
    → ExplainsRows f flushed (a.file f) (Damaged f 0)
opened_late a b f flushed file map named quiet late = inr (
  refl,
  refl,
  record {
    rows = map.rows;
    bytes = map.reads.bytes;
    there = sym (quiet.file f) ∙ subst (λ n. b.file n ≡ Some map.reads.bytes) named map.reads.there;
    are = record {
      blocks = map.reads.as_file.blocks;
      file = map.reads.as_file.file;
      are = map.reads.as_file.are;
    };
    late = latest_late (flushed + 1) map.rows (omega arith) (omega (arith, late));
  },
)

-- ---- several of them

-- they read as they read while nothing changes
pub opened_quiet : (a b : DiskState) (flushed : ℕ) (gs : List ℕ) (fs : List RowFile)
    (ms : List RowMap) → Quiet a b → AreOpened a flushed gs fs ms → AreOpened b flushed gs fs ms
opened_quiet a b flushed [] [] [] quiet are = tt
opened_quiet a b flushed [] [] (m ∷ ms) quiet are = absurd are
opened_quiet a b flushed [] (f ∷ fs) ms quiet are = absurd are
opened_quiet a b flushed (g ∷ gs) [] ms quiet are = absurd are
opened_quiet a b flushed (g ∷ gs) (f ∷ fs) [] quiet are = absurd are
opened_quiet a b flushed (g ∷ gs) (f ∷ fs) (m ∷ ms) quiet are = (
  record {
    named = are.0.named;
    reads = reads_while a b f (entries m) (quiet.file (file_of f)) are.0.reads;
    past = are.0.past;
  },
  opened_quiet a b flushed gs fs ms quiet are.1,
)

-- and one more
pub opened_push : (s : DiskState) (flushed : ℕ) (gs : List ℕ) (fs : List RowFile)
    (ms : List RowMap) (g : ℕ) (f : RowFile) (m : RowMap) → AreOpened s flushed gs fs ms
    → IsOpened s flushed g f m
    → AreOpened s flushed (gs ++ g ∷ []) (fs ++ f ∷ []) (ms ++ m ∷ [])
opened_push s flushed [] [] [] g f m are one = (one, tt)
opened_push s flushed [] [] (n ∷ ms) g f m are one = absurd are
opened_push s flushed [] (h ∷ fs) ms g f m are one = absurd are
opened_push s flushed (k ∷ gs) [] ms g f m are one = absurd are
opened_push s flushed (k ∷ gs) (h ∷ fs) [] g f m are one = absurd are
opened_push s flushed (k ∷ gs) (h ∷ fs) (n ∷ ms) g f m are one =
    (are.0, opened_push s flushed gs fs ms g f m are.1 one)

-- Those of the files so far.
pub record OpenedSoFar (s : DiskState) (flushed : ℕ) (gs : List ℕ) (fs : List RowFile) : Type 0 where
  pub maps : List RowMap
  pub are : AreOpened s flushed gs fs maps

pub opened_more : (a b : DiskState) (flushed i g : ℕ) (gs : List ℕ) (fs : List RowFile)
    (f : RowFile) → i < length gs → g ≡ get_or gs i 0 → Quiet a b
    → OpenedSoFar a flushed (take i gs) fs → (m : RowMap) × IsOpened b flushed g f m
    → OpenedSoFar b flushed (take (i + 1) gs) (fs ++ f ∷ [])
opened_more a b flushed i g gs fs f within at quiet so_far one = record {
  maps = so_far.maps ++ one.0 ∷ [];
  are = subst (λ x. AreOpened b flushed x (fs ++ f ∷ []) (so_far.maps ++ one.0 ∷ []))
      (ap (λ (y : ℕ). take i gs ++ y ∷ []) at ∙ sym (take_more gs i 0 within))
      (opened_push b flushed (take i gs) fs so_far.maps g f one.0
      (opened_quiet a b flushed (take i gs) fs so_far.maps quiet so_far.are) one.1);
}

-- a file that wasn't opened is one of them
pub opening_explained : (image other : Image) (files : List ℕ) (flushed i : ℕ) (fault : RowFileFault)
    → i < length files → ((f : ℕ) → other f ≡ image f)
    → ExplainsRows (get_or files i 0) flushed (other (get_or files i 0)) fault
    → ExplainsOpening image files flushed fault
opening_explained image other files flushed i fault within same told = (
  get_or files i 0,
  in_at files i within,
  subst (λ (file : Option (List ℕ)). ExplainsRows (get_or files i 0) flushed file fault)
      (same (get_or files i 0)) told,
)
