-- An engine and a merge under way beside calls on a file that isn't the store's; and where a merge begins.
use Rattle.std.proofs.Common.{◌≡◌, ◌≤◌, ◌<◌, ◌+◌, inl, inr, ℕ, Bool, true, false, List, [], ◌∷◌, length, drop, suc, Option, refl, sym, subst, ◌∙◌, arith}
use Rattle.std.specs.Prelude.{◌==◌, if◌then◌else◌}
use Rattle.std.specs.FinMap.{entries}
use Rattle.std.specs.List.{AllByRecursion}
use Rattle.alt_base.proofs.Lists.{take-length}
use Rattle.alt_cells.specs.Walks.{Anything}
use Rattle.alt_disk.specs.Disk.{DiskState}
use Rattle.alt_disk.specs.Runs.{Spans}
use Rattle.alt_disk.proofs.Runs.{spans_weaker}
use Rattle.alt_fields.proofs.Apart.{all_back}
use Rattle.alt_flush.proofs.DraftLaws.{layout_still, next_above, settled_beside}
use Rattle.alt_gatelog.specs.InHand.{file_of_gate_log as log_file}
use Rattle.alt_gatelog.proofs.Elsewhere.{reads_stays}
use Rattle.alt_layout.specs.Families.{Held, IsMapBelow, files_of, flushed_of, layout_of}
use Rattle.alt_layout.specs.Files.{AreRowFiles, HoldsRows, IsLayout, IsOf, all_of}
use Rattle.alt_layout.specs.Layout.{Layout, RowMap}
use Rattle.alt_layout.specs.Moments.{Has, IsIt}
use Rattle.alt_layout.proofs.FileLaws.{last_named, stored_on}
use Rattle.alt_layout.proofs.FlushLaws.{all_later}
use Rattle.alt_layout.proofs.FlushedLayout.{of_family, unnamed}
use Rattle.alt_manifest.specs.InHand.{file_of_manifest as manifest_file, version_of}
use Rattle.alt_manifest.specs.Versions.{files_named, row_files}
use Rattle.alt_manifest.specs.declared.version.FamilyVersion.{FamilyVersion}
use Rattle.alt_manifest.specs.declared.version.Version.{Version}
use Rattle.alt_merge.specs.Merges.{Each2}
use Rattle.alt_rowfile.specs.InHand.{file_of as row_file, ReadsRows as RowReads}
use Rattle.alt_rowfile.specs.declared.rowfile.RowFile.{RowFile}
use Rattle.alt_families.specs.Families.{files_in}
use Rattle.alt_hand.specs.Beside.{FilesBeside, FilesRead, MergingStays, StandsBeside}
use Rattle.alt_hand.specs.InHand.{AreOpen, HandStandsForLayout, family_of}
use Rattle.alt_hand.specs.Merging.{IsLater, IsMerging, IsOlder, files_at}
use Rattle.alt_hand.specs.declared.hand.Hand.{Hand}
use Rattle.alt_drafts.proofs.MakesLaws.{in_row_files, open_still}
use Rattle.alt_drafts.proofs.StillLaws.{each_on, may_end_on}
use Rattle.alt_hand.proofs.HandLaws.{lies_of}
use Rattle.alt_hand.proofs.LogLaws.{holds_on, length_on}
use Rattle.alt_drafts.proofs.MergingLaws.{one_map}
use Rattle.alt_manifest.proofs.Among.{in_back, in_front}

-- ---- an engine

module _ (a b : DiskState) (e : Hand) (l : Layout) (stands : HandStandsForLayout a e l)
    (touched : ℕ → Type 0) (spans : Spans a b touched Anything)
    (untouched : (g : ℕ) → IsOf (version_of e.manifest) g → touched g → ⊥) where
  abbrev v : Version
  v = version_of e.manifest

  on : (g : ℕ) → IsOf v g → b.file g ≡ a.file g
  on g of = spans.file g (untouched g of)

  -- each image on the way has its layout
  pub layout_beside : Spans a b touched (Has l)
  layout_beside = spans_weaker a b touched touched (Has l)
      (Has (layout_of v stands.reads.held (all_of stands.reads.parts)))
      (layout_still a b v stands.reads.held stands.reads.parts touched Anything
      (lies_of a e l stands) untouched spans) (λ g it. it)
      (λ t image has. subst (IsLayout image) (sym stands.reads.is) has)

  -- and it stands as it stood
  pub stands_beside : ((f : ℕ) → e.next_file ≤ f → b.file f ≡ Option.None) → HandStandsForLayout b e l
  stands_beside fresh = record {
    reads = record {
      held = stands.reads.held;
      parts = stands.reads.parts;
      writes = stands.reads.writes;
      versions = record {
        before = stands.reads.versions.before;
        log = reads_stays a b e.manifest.log _
            (on (manifest_file e.manifest) (inl stands.reads.first)) stands.reads.versions.log;
        form = stands.reads.versions.form;
        is = stands.reads.versions.is;
      };
      first = stands.reads.first;
      stored = stored_on a.file b.file v stands.reads.held stands.reads.held stands.reads.parts
          (λ g there. on g (inr there)) (λ g there. refl) stands.reads.stored;
      ends = stands.reads.ends;
      log = holds_on a b e.log stands.reads.writes (on (log_file e.log)
          (inr (last_named v stands.reads.parts (log_file e.log) stands.reads.writes
          stands.reads.ends))) stands.reads.log;
      is = stands.reads.is;
      next = stands.reads.next;
      length = length_on a.file b.file v.segments e.length
          (λ g there. on g (inr (in_front v.segments (row_files v.families) g there)))
          stands.reads.length;
      free = stands.reads.free;
      fresh = fresh;
      calm = stands.reads.calm;
      memory = stands.reads.memory;
      opened = λ family. open_still a b stands.reads.held stands.reads.held
          (files_of v.families family) (files_in (family_of e family))
          (λ g there. on g (inr (in_back v.segments (row_files v.families) g
          (in_row_files v.families family g there)))) (λ g there. refl) (stands.reads.opened family);
    };
    settled = λ f of. settled_beside a b touched Anything spans f (untouched f of) (stands.settled f of);
  }

  -- its files read as they read
  pub files_beside : (family : ℕ)
      → AllByRecursion (λ f. b.file (row_file f) ≡ a.file (row_file f)) (files_at e family)
  files_beside family = each_on a b stands.reads.held (files_of v.families family) (files_at e family)
      (λ g there. on g (inr (in_back v.segments (row_files v.families) g
      (in_row_files v.families family g there)))) (stands.reads.opened family)

-- a file that isn't the store's is none of its files
not_it : (v : Version) (file : ℕ) → (IsOf v file → ⊥) → (g : ℕ) → IsOf v g → IsIt file g → ⊥
not_it v file not_of g of it = not_of (subst (IsOf v) it of)

-- So a call on a file that was taken leaves an engine.
pub stands_by_side : StandsBeside
stands_by_side a b e l file stands low not_of spans = (
  stands_beside a b e l stands (IsIt file) spans (not_it (version_of e.manifest) file not_of)
      (λ f le. spans.file f (λ it. omega (arith, le, low, it)) ∙ stands.reads.fresh f le),
  layout_beside a b e l stands (IsIt file) spans (not_it (version_of e.manifest) file not_of),
)

pub files_by_side : FilesBeside
files_by_side a b e l file stands not_of spans family =
    files_beside a b e l stands (IsIt file) spans (not_it (version_of e.manifest) file not_of) family

-- what they are said to hold
open_maps : (s : DiskState) (held : Held) (gs : List ℕ) (fs : List RowFile) → AreOpen s held gs fs
    → (maps : List RowMap) × Each2 (λ f m. RowReads s f (entries m)) fs maps
open_maps s held [] [] are = ([], tt)
open_maps s held [] (f ∷ fs) are = absurd are
open_maps s held (g ∷ gs) [] are = absurd are
open_maps s held (g ∷ gs) (f ∷ fs) are =
    let rest = open_maps s held gs fs are.2 in (held g ∷ rest.0, (are.1, rest.1))

pub files_read : FilesRead
files_read s e l family reads = open_maps s reads.held
    (files_of (version_of e.manifest).families family) (files_at e family) (reads.opened family)

-- ---- a merge

pub merging_stays : MergingStays
merging_stays a b e family taken number file same merging =
    may_end_on a b _ (files_at e family) family taken number file same merging

-- ---- where it begins

pub drop_all : {X : Type 0} (xs : List X) → drop (length xs) xs ≡ []
drop_all [] = refl
drop_all (x ∷ xs) = let here : drop (suc (length xs)) (x ∷ xs) ≡ [] = drop_all xs in
    subst (λ n. drop n (x ∷ xs) ≡ []) (let n : suc (length xs) ≡ length (x ∷ xs) = omega arith in n) here

-- the files of a family hold rows up to what is flushed of it
family_holds : (image : ℕ → Option (List ℕ)) (held : Held) (fs : List FamilyVersion) (family : ℕ)
    → AllByRecursion (AreRowFiles image held) fs
    → AllByRecursion (λ g. HoldsRows (held g) (flushed_of fs family) (image g)) (files_of fs family)
family_holds image held [] family are = tt
family_holds image held (f ∷ fs) family are =
    by_test (f.family == family) (family_holds image held fs family are.1)
  where
    by_test : (t : Bool)
        → AllByRecursion (λ g. HoldsRows (held g) (flushed_of fs family) (image g)) (files_of fs family)
        → AllByRecursion (λ g. HoldsRows (held g) (if t then f.flushed else flushed_of fs family)
        (image g)) (if t then f.files else files_of fs family)
    by_test true rest = are.0
    by_test false rest = rest

-- so all of them are older than what comes
all_older : (s : DiskState) (held : Held) (number file : ℕ) (gs : List ℕ) (fs : List RowFile)
    → AreOpen s held gs fs → AllByRecursion (λ g. HoldsRows (held g) number (s.file g)) gs
    → AllByRecursion (λ g. g < file) gs → AllByRecursion (IsOlder s (number + 1) file) fs
all_older s held number file [] [] are holds below = tt
all_older s held number file [] (f ∷ fs) are holds below = absurd are
all_older s held number file (g ∷ gs) [] are holds below = absurd are
all_older s held number file (g ∷ gs) (f ∷ fs) are holds below = (
  record {
    before = subst (λ k. k < file) (sym are.0) below.0;
    rows = λ m reads. subst (IsMapBelow (number + 1)) (sym (one_map s f m (held g) reads are.1))
        holds.0.past;
  },
  all_older s held number file gs fs are.2 holds.1 below.1,
)

module _ (s : DiskState) (e : Hand) (l : Layout) (stands : HandStandsForLayout s e l) where
  abbrev last : Version
  last = version_of e.manifest

  -- An engine stands once it has taken a number.
  pub stands_taken : HandStandsForLayout s (record e { next_file = e.next_file + 1 }) l
  stands_taken = record {
    reads = record {
      held = stands.reads.held;
      parts = stands.reads.parts;
      writes = stands.reads.writes;
      versions = stands.reads.versions;
      first = stands.reads.first;
      stored = stands.reads.stored;
      ends = stands.reads.ends;
      log = stands.reads.log;
      is = stands.reads.is;
      next = stands.reads.next;
      length = stands.reads.length;
      free = let free = stands.reads.free in omega arith;
      fresh = λ f le. stands.reads.fresh f (omega (arith, le));
      calm = stands.reads.calm;
      memory = stands.reads.memory;
      opened = stands.reads.opened;
    };
    settled = stands.settled;
  }

  -- A merge of all files of a family may begin then.
  pub merge_begins : (family : ℕ) → 0 < length (files_at e family)
      → IsMerging s (record e { next_file = e.next_file + 1 }) family (length (files_at e family))
      (flushed_of last.families family) e.next_file
  merge_begins family some =
      let fs = files_at e family in
      let free = stands.reads.free in
      let two = next_above last stands.reads.versions.is in
      record {
        some = some;
        enough = omega arith;
        two = omega (arith, free, two);
        below = omega arith;
        new = unnamed last e.next_file stands.reads.versions.is free;
        older = subst (AllByRecursion (IsOlder s (flushed_of last.families family + 1) e.next_file))
            (sym (take-length (files_at e family)))
            (all_older s stands.reads.held (flushed_of last.families family) e.next_file
            (files_of last.families family) (files_at e family) (stands.reads.opened family)
            (family_holds s.file stands.reads.held last.families family stands.reads.stored.files)
            (of_family (λ g. g < e.next_file) last.families family
            (all_back (λ g. g < e.next_file) last.segments (row_files last.families)
            (all_later (files_named last) last.next_file e.next_file free
            stands.reads.versions.is.below))));
        later = subst (AllByRecursion (IsLater s (flushed_of last.families family + 1) e.next_file))
            (sym (drop_all (files_at e family))) tt;
        reached = omega arith;
      }
