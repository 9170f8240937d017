-- Files in hand, and a merge of them under way, where they read as they read.
use Rattle.std.proofs.Common.{◌≡◌, ◌+◌, inl, inr, ℕ, List, [], ◌∷◌, ◌++◌, take, drop, refl, sym, subst, ◌∙◌}
use Rattle.std.proofs.lemmas.List.{take-append-drop}
use Rattle.std.specs.FinMap.{entries}
use Rattle.std.specs.List.{AllByRecursion}
use Rattle.alt_disk.specs.Disk.{DiskState}
use Rattle.alt_fields.proofs.Apart.{all_front, all_back}
use Rattle.alt_layout.specs.Families.{Held}
use Rattle.alt_layout.specs.Layout.{RowMap}
use Rattle.alt_manifest.specs.Versions.{IsIn}
use Rattle.alt_manifest.specs.declared.version.Version.{Version}
use Rattle.alt_rowfile.specs.InHand.{file_of as row_file, ReadsRows as RowReads}
use Rattle.alt_rowfile.specs.declared.rowfile.RowFile.{RowFile}
use Rattle.alt_drafts.specs.InHand.{AreOpen}
use Rattle.alt_drafts.specs.Merging.{IsLater, IsOlder, MayEnd}

-- files in hand read as they read where those files do
pub each_on : (a b : DiskState) (held : Held) (gs : List ℕ) (fs : List RowFile)
    → ((g : ℕ) → IsIn gs g → b.file g ≡ a.file g) → AreOpen a held gs fs
    → AllByRecursion (λ f. b.file (row_file f) ≡ a.file (row_file f)) fs
each_on a b held [] [] same are = tt
each_on a b held [] (f ∷ fs) same are = absurd are
each_on a b held (g ∷ gs) [] same are = absurd are
each_on a b held (g ∷ gs) (f ∷ fs) same are = (
  subst (λ k. b.file k ≡ a.file k) (sym are.0) (same g (inl refl)),
  each_on a b held gs fs (λ h there. same h (inr there)) are.2,
)

-- a file that reads as it read
pub still_reads : (a b : DiskState) (f : RowFile) (m : RowMap) → b.file (row_file f) ≡ a.file (row_file f)
    → RowReads b f (entries m) → RowReads a f (entries m)
still_reads a b f m same reads = record {
  bytes = reads.bytes;
  there = sym same ∙ reads.there;
  as_file = reads.as_file;
}

older_on : (a b : DiskState) (number file : ℕ) (fs : List RowFile)
    → AllByRecursion (λ f. b.file (row_file f) ≡ a.file (row_file f)) fs
    → AllByRecursion (IsOlder a number file) fs → AllByRecursion (IsOlder b number file) fs
older_on a b number file [] same older = tt
older_on a b number file (f ∷ fs) same older = (
  record {
    before = older.0.before;
    rows = λ m reads. older.0.rows m (still_reads a b f m same.0 reads);
  },
  older_on a b number file fs same.1 older.1,
)

later_on : (a b : DiskState) (number file : ℕ) (fs : List RowFile)
    → AllByRecursion (λ f. b.file (row_file f) ≡ a.file (row_file f)) fs
    → AllByRecursion (IsLater a number file) fs → AllByRecursion (IsLater b number file) fs
later_on a b number file [] same later = tt
later_on a b number file (f ∷ fs) same later = (
  record {
    behind = later.0.behind;
    rows = λ m reads. later.0.rows m (still_reads a b f m same.0 reads);
  },
  later_on a b number file fs same.1 later.1,
)

-- It stays one where the family's files read as they read.
pub may_end_on : (a b : DiskState) (u : Version) (fs : List RowFile) (family taken number file : ℕ)
    → AllByRecursion (λ f. b.file (row_file f) ≡ a.file (row_file f)) fs
    → MayEnd a u fs family taken number file → MayEnd b u fs family taken number file
may_end_on a b u fs family taken number file same may =
    let parts : AllByRecursion (λ f. b.file (row_file f) ≡ a.file (row_file f))
    (take taken fs ++ drop taken fs) =
    subst (AllByRecursion (λ f. b.file (row_file f) ≡ a.file (row_file f)))
    (sym (take-append-drop taken fs)) same in record {
      some = may.some;
      enough = may.enough;
      two = may.two;
      below = may.below;
      new = may.new;
      older = older_on a b (number + 1) file (take taken fs)
          (all_front (λ f. b.file (row_file f) ≡ a.file (row_file f)) (take taken fs) (drop taken fs)
          parts) may.older;
      later = later_on a b (number + 1) file (drop taken fs)
          (all_back (λ f. b.file (row_file f) ≡ a.file (row_file f)) (take taken fs) (drop taken fs)
          parts) may.later;
      reached = may.reached;
    }
