-- What the last version says after work, by the version in hand.
use Rattle.std.proofs.Common.{◌≡◌, ◌-◌, ◌++◌, ⊎_elim, inl, inr, ℕ, Bool, true, false, List, [], ◌∷◌, length, map, refl, sym, ap, subst, ◌∙◌, arith}
use Rattle.std.specs.Prelude.{◌⊎◌, None, Result, Ok, Err, IfOk, OnOk}
use Rattle.alt_disk.specs.Disk.{DiskState}
use Rattle.alt_disk.specs.Runs.{Spans}
use Rattle.alt_disk.proofs.Runs.{spans_on}
use Rattle.alt_layout.specs.Families.{Held, files_of}
use Rattle.alt_layout.specs.Files.{IsOf}
use Rattle.alt_layout.specs.Fresh.{versions_file}
use Rattle.alt_layout.specs.Layout.{Layout}
use Rattle.alt_manifest.specs.Versions.{HasVersion, IsIn, numbers_of, row_files}
use Rattle.alt_manifest.specs.declared.version.Version.{Version}
use Rattle.alt_manifest.proofs.OneVersion.{same_version}
use Rattle.alt_rowfile.specs.InHand.{file_of as row_file}
use Rattle.alt_rowfile.specs.declared.rowfile.RowFile.{RowFile}
use Rattle.alt_merging.specs.HandAdding.{AddsVersion, HasLast, HasOneOf, IsLeftOut, IsOverNewLog, IsThere, LeavesOut}
use Rattle.alt_merging.specs.HandDrafting.{MemoryIsFlushed}
use Rattle.alt_merging.specs.HandInHand.{AreOpen, HandStandsForLayout, family_of, length_of, next_file_of}
use Rattle.alt_merging.specs.HandMerging.{files_at, version_in}
use Rattle.alt_merging.specs.HandWorking.{AreAllFlushed, IsLong, LogIsShort}
use Rattle.alt_merging.specs.HandDeclaredEngineFault.{EngineFault}
use Rattle.alt_merging.specs.HandDeclaredHand.{Hand}
use Rattle.alt_merging.proofs.HandAddingLaws.{last_or}
use Rattle.alt_merging.proofs.HandHandLaws.{lies_of}
use Rattle.alt_merging.proofs.HandWorkLaws.{long_entries, no_entries, short_entries}
use Rattle.alt_engine.specs.InHand.{hand_of}
use Rattle.alt_engine.specs.Versions.{GetsFile, HasNewLog, HasOldLog, IsAfter}
use Rattle.alt_engine.specs.declared.engine.Engine.{Engine}
use Rattle.alt_engine.specs.declared.work.Task.TheVariants.{Step}
use Rattle.alt_engine.specs.declared.work.Worked.{Worked}
use Rattle.alt_engine.specs.declared.work.Worked.TheVariants.{Done}
use Rattle.alt_manifest.proofs.Among.{in_front}

-- ---- answers

-- What follows once a task is done, from facts of each answer and facts of that one.
pub once_done : (r : Result Worked EngineFault) {O P Q R : Type 0} → (O → P → Q → R) → OnOk r O
    → IfOk r (λ w. w ≡ Done → P) → IfOk r (λ w. w ≡ Done → Q) → IfOk r (λ w. w ≡ Done → R)
once_done (Ok w) all o p q = λ done. all o (p done) (q done)
once_done (Err fault) all o p q = tt

-- And from one fact more of each answer.
pub once_done_with : (r : Result Worked EngineFault) {O L P Q R : Type 0} → (O → L → P → Q → R)
    → OnOk r O → OnOk r L → IfOk r (λ w. w ≡ Done → P) → IfOk r (λ w. w ≡ Done → Q)
    → IfOk r (λ w. w ≡ Done → R)
once_done_with (Ok w) all o l p q = λ done. all o l (p done) (q done)
once_done_with (Err fault) all o l p q = tt

pub by_flag : {Q : Type 0} (x : Bool) → (x ≡ true → Q) → (x ≡ false → Q) → Q
by_flag true on off = on refl
by_flag false on off = off refl

-- ---- files

-- files in hand have the numbers that the version names
open_numbers : (s : DiskState) (held : Held) (gs : List ℕ) (fs : List RowFile) → AreOpen s held gs fs
    → gs ≡ map row_file fs
open_numbers s held [] [] are = refl
open_numbers s held [] (f ∷ fs) are = absurd are
open_numbers s held (g ∷ gs) [] are = absurd are
open_numbers s held (g ∷ gs) (f ∷ fs) are =
    (λ i. sym are.0 i ∷ open_numbers s held gs fs are.2 i)

numbers_join : (fs gs : List RowFile) → map row_file (fs ++ gs) ≡ map row_file fs ++ map row_file gs
numbers_join [] gs = refl
numbers_join (f ∷ fs) gs = ap (λ ns. row_file f ∷ ns) (numbers_join fs gs)

numbers_count : (fs : List RowFile) → length (map row_file fs) ≡ length fs
numbers_count [] = refl
numbers_count (f ∷ fs) = let rest = numbers_count fs in omega (arith, rest)

-- the version that the disk reads is the one in hand
pub version_read : (s : DiskState) (e : Hand) (l : Layout) → HandStandsForLayout s e l → (v : Version)
    → HasVersion v (s.file versions_file) → version_in e ≡ v
version_read s e l stands v has =
    same_version (s.file versions_file) (version_in e) v (lies_of s e l stands).last has

-- its next file is the engine's
pub next_read : (s : DiskState) (e f : Hand) (l : Layout) → HandStandsForLayout s f l → AddsVersion s e f → (w : Version)
    → HasVersion w (s.file versions_file) → w.next_file ≡ next_file_of f
next_read s e f l stands adds w has =
    ap (λ (v : Version). v.next_file) (sym (version_read s f l stands w has)) ∙ adds.next_file

module _ (a d : DiskState) (e f : Hand) (l m : Layout) (old : HandStandsForLayout a e l) (new : HandStandsForLayout d f m)
    (v w : Version) (has_v : HasVersion v (a.file versions_file))
    (has_w : HasVersion w (d.file versions_file)) where
  is_v : version_in e ≡ v
  is_v = version_read a e l old v has_v

  is_w : version_in f ≡ w
  is_w = version_read d f m new w has_w

  -- files that it doesn't name any more are gone
  pub removed_read : AddsVersion d e f → (k : ℕ) → IsOf v k → (IsOf w k → ⊥) → d.file k ≡ None
  removed_read adds k of out = adds.removed k (subst (λ (u : Version). IsOf u k) (sym is_v) of)
      (λ after. out (subst (λ (u : Version). IsOf u k) is_w after))

  -- a family that was flushed has its old files and the new one
  gets_file : (family : ℕ) → MemoryIsFlushed (family_of e family) (family_of f family)
      → GetsFile e v w family
  gets_file family flushed =
      let before : files_of (version_in e).families family ≡ map row_file (files_at e family) =
      open_numbers a old.reads.held (files_of (version_in e).families family) (files_at e family)
      (old.reads.opened family) in
      let after : files_of (version_in f).families family ≡ map row_file (files_at f family) =
      open_numbers d new.reads.held (files_of (version_in f).families family) (files_at f family)
      (new.reads.opened family) in
      record {
        more = map row_file flushed.made;
        files = ap (λ (u : Version). files_of u.families family) (sym is_w) ∙ after
            ∙ ap (map row_file) flushed.files ∙ numbers_join (files_at e family) flushed.made
            ∙ ap (λ ns. ns ++ map row_file flushed.made)
            (sym before ∙ ap (λ (u : Version). files_of u.families family) is_v);
        count = numbers_count flushed.made ∙ flushed.count;
      }

  -- the version of a flush of all
  pub new_log_read : (live : List ℕ) → AreAllFlushed live e f → IsOverNewLog live e f → AddsVersion d e f
      → length_of f ≡ 0 → HasNewLog a.file d.file live e v w
  new_log_read live all log adds bytes = record {
    segment = log.segment;
    segments = ap (λ (u : Version). u.segments) (sym is_w) ∙ log.segments;
    new = old.reads.fresh log.segment
        (let last = log.last in let file = all.file in omega (arith, last, file));
    empty = no_entries d f m new bytes;
    files = λ family there. gets_file family (all.lives family there);
    only = λ family there.
        log.only family (subst (λ (u : Version). IsIn (numbers_of u.families) family) (sym is_w) there);
    gone = λ k there.
        let own : IsIn (version_in e).segments k =
        subst (λ (u : Version). IsIn u.segments k) (sym is_v) there in
        adds.removed k (inr (in_front (version_in e).segments (row_files (version_in e).families) k own))
        (log.left k own);
  }

  -- any other one
  pub without_read : (live : List ℕ) → LeavesOut live e f → HasOldLog live e v w
  without_read live leaves = record {
    segments = ap (λ (u : Version). u.segments) (sym is_w) ∙ leaves.segments
        ∙ ap (λ (u : Version). u.segments) is_v;
    dead = λ family out there. subst (λ (u : Version). IsLeftOut u family (e.next - 1)) is_w
        (leaves.named family out
        (subst (λ (u : Version). IsThere u (family_of e family) family) (sym is_v) there));
  }

-- The version of a step that was done.
pub after_step : (a d : DiskState) (live : List ℕ) (e : Engine) (f : Hand) (l m : Layout)
    → HandStandsForLayout a (hand_of e) l → HandStandsForLayout d f m
    → (length_of f ≡ 0) ⊎ (LogIsShort (hand_of e) × (length_of f ≡ length_of (hand_of e)))
    → (IsLong (hand_of e) × AreAllFlushed live (hand_of e) f × IsOverNewLog live (hand_of e) f)
    ⊎ (LogIsShort (hand_of e) × LeavesOut live (hand_of e) f) → AddsVersion d (hand_of e) f
    → IsAfter Step a d live e
after_step a d live e f l m old new bytes version adds = ⊎_elim
    (λ (all : IsLong (hand_of e) × AreAllFlushed live (hand_of e) f
    × IsOverNewLog live (hand_of e) f). inl (
      long_entries a (hand_of e) l old all.0,
      λ v w has_v has_w. new_log_read a d (hand_of e) f l m old new v w has_v has_w live all.1 all.2 adds
          (⊎_elim (λ (none : length_of f ≡ 0). none)
          (λ (short : LogIsShort (hand_of e) × (length_of f ≡ length_of (hand_of e))).
          absurd (let long = all.0 in let low = short.0 in omega (arith, long, low))) bytes),
    ))
    (λ (one : LogIsShort (hand_of e) × LeavesOut live (hand_of e) f). inr (
      short_entries a (hand_of e) l old one.0,
      λ v w has_v has_w. without_read a d (hand_of e) f l m old new v w has_v has_w live one.1,
    )) version

-- ---- moments

-- One version at most behind calls that add none.
pub one_behind : (a b d : DiskState) (e : Hand) (w : Version)
    → Spans a b (λ g. Unit {0}) (HasLast (version_in e))
    → Spans b d (λ g. Unit {0}) (HasOneOf (version_in e) w)
    → Spans a d (λ g. Unit {0}) (HasOneOf (version_in e) w)
one_behind a b d e w first later = spans_on a b d (λ g. Unit {0}) (HasOneOf (version_in e) w)
    (last_or a b (version_in e) w first) later
