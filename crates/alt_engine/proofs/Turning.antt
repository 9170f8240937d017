-- A task behind what became of the merge under way, as one of the engine before it.
use Rattle.std.proofs.Common.{◌≡◌, ◌+◌, ⊎_elim, inl, inr, ℕ, List, [], ◌∷◌, Option, Some, None, refl, sym, ap, subst, ◌∙◌, arith, length}
use Rattle.std.specs.Prelude.{◌⊎◌, ◌<◌, Result, Ok, Err, IfOk}
use Rattle.std.specs.FinMap.{entries}
use Rattle.alt_disk.specs.Disk.{DiskState}
use Rattle.alt_layout.specs.Families.{Held, files_of}
use Rattle.alt_layout.specs.Fresh.{versions_file}
use Rattle.alt_layout.specs.Layout.{Layout}
use Rattle.alt_manifest.specs.Versions.{IsIn}
use Rattle.alt_manifest.specs.declared.version.Version.{Version}
use Rattle.alt_manifest.proofs.OneVersion.{same_version}
use Rattle.alt_rowfile.specs.Format.{IsRowFile}
use Rattle.alt_rowfile.specs.Summaries.{any_tombstone}
use Rattle.alt_rowfile.specs.declared.rowfile.RowFile.{RowFile}
use Rattle.alt_rowfile.proofs.OneFile.{one_list}
use Rattle.alt_merging.specs.HandCarrying.{AreStill}
use Rattle.alt_merging.specs.HandInHand.{AreOpen, HandStandsForLayout as HandStands, length_of, next_file_of}
use Rattle.alt_merging.specs.HandMerging.{IsFirstMany, files_at, version_in}
use Rattle.alt_merging.specs.HandWorking.{AreAllFlushed, IsCalm, IsFirstFull, IsFlushDone, IsLong, IsOneFlushed, LogIsShort}
use Rattle.alt_merging.specs.HandDeclaredEngineFault.{EngineFault}
use Rattle.alt_merging.specs.HandDeclaredHand.{Hand}
use Rattle.alt_merging.proofs.HandHandLaws.{lies_of}
use Rattle.alt_merging.proofs.HandWorkLaws.{entries_length, has_entries, long_entries, no_entries, none_in_memory, short_entries}
use Rattle.alt_merging.specs.Merged.{AreMerged}
use Rattle.alt_merging.specs.Mergings.{family_of_merging as merged_family, file_of_merging}
use Rattle.alt_merging.specs.declared.merging.Merging.{Merging}
use Rattle.alt_merging.proofs.EachLaws.{merged_on, still_back}
use Rattle.alt_engine.specs.InHand.{IsGoing, StandsForLayout, hand_of, merge_of}
use Rattle.alt_engine.specs.Working.{AllMerged, BeginsMerge, DidStep, MergeEnded, EndsMerge, Furthered, FurthersMerge, NeedsNoFlush, IsFree, IsIdle, LiveFamiliesAreMerged, IsMergedFile, MergingIsUnderWay, KeepsMerge, MakesNoOther, WasGivenUp, WasKept}
use Rattle.alt_engine.specs.declared.engine.Engine.{Engine}
use Rattle.alt_engine.specs.declared.work.Task.TheVariants.{FlushAll}
use Rattle.alt_engine.specs.declared.work.Worked.{Worked}
use Rattle.alt_engine.specs.declared.work.Worked.TheVariants.{Idle, Went, Done}
use Rattle.alt_manifest.proofs.Among.{in_back}

-- ---- merges under way

-- one merge is under way
one_job : (o : Option Merging) (i j : Merging) → o ≡ Some i → o ≡ Some j → i ≡ j
one_job o i j a b = inside i j (sym a ∙ b)
  where
    inside : (x y : Merging) → Some x ≡ Some y → x ≡ y
    inside x y e = cc e

pub no_job : (o : Option Merging) (j : Merging) → o ≡ None → o ≡ Some j → ⊥
no_job o j none some = let no : None ≡ Some j = sym none ∙ some in cc no

-- where there is none, none is of a live family
pub free_none : (live : List ℕ) (e : Engine) → merge_of e ≡ None → IsFree live e
free_none live e none j way = no_job (merge_of e) j none way.0

-- and where none is, there is none, if one that isn't is given up
pub none_free : (live : List ℕ) (e : Engine) → KeepsMerge live e → IsFree live e → merge_of e ≡ None
none_free live e keeps free = by (merge_of e) refl
  where
    by : (o : Option Merging) → merge_of e ≡ o → o ≡ None
    by None is = refl
    by (Some j) is = absurd (free j (is, keeps j is))

module _ (a b : DiskState) (live : List ℕ) (e f : Engine)
    (turned : WasKept a b live e f ⊎ WasGivenUp live e f) (same : hand_of f ≡ hand_of e) where
  -- One that is under way behind was under way before, and nothing was done.
  pub way_back : (j : Merging) → MergingIsUnderWay live f j → MergingIsUnderWay live e j × ((b ≡ a) × (f ≡ e))
  way_back j way = ⊎_elim
      (λ (kept : WasKept a b live e f). (
        (subst (λ (x : Engine). merge_of x ≡ Some j) kept.engine way.0, way.1),
        (kept.disk, kept.engine),
      ))
      (λ (gone : WasGivenUp live e f). absurd (no_job (merge_of f) j gone.none way.0)) turned

  -- None behind, none of a live family before.
  pub free_back : IsFree live f → IsFree live e
  free_back free = ⊎_elim
      (λ (kept : WasKept a b live e f). subst (IsFree live) kept.engine free)
      (λ (gone : WasGivenUp live e f) j way. gone.dead (subst (λ (k : Merging). IsIn live (merged_family k))
      (one_job (merge_of e) j gone.job way.0 gone.was) way.1)) turned

  -- And one of a live family before stays.
  pub free_on : IsFree live e → IsFree live f
  free_on free j way = free j (way_back j way).0

  -- What stays is of a live family.
  pub keeps_after : KeepsMerge live f
  keeps_after = ⊎_elim
      (λ (kept : WasKept a b live e f). subst (KeepsMerge live) (sym kept.engine) kept.keeps)
      (λ (gone : WasGivenUp live e f) j is. absurd (no_job (merge_of f) j gone.none is)) turned

  -- One that is under way behind was under way before.
  pub job_back : (j : Merging) → merge_of f ≡ Some j → merge_of e ≡ Some j
  job_back j is = ⊎_elim
      (λ (kept : WasKept a b live e f). subst (λ (x : Engine). merge_of x ≡ Some j) kept.engine is)
      (λ (gone : WasGivenUp live e f). absurd (no_job (merge_of f) j gone.none is)) turned

  -- ---- what a step did

  pub begins_back : (new : Engine) → BeginsMerge live f new → BeginsMerge live e new
  begins_back new begins = record {
    free = free_back begins.free;
    family = begins.family;
    first = subst (λ (h : Hand). IsFirstMany live h begins.family) same begins.first;
    job = begins.job;
    is = begins.is;
    of = begins.of;
    all = begins.all ∙ ap (λ (h : Hand). length (files_at h begins.family)) same;
    next_file = begins.next_file ∙ ap (λ (h : Hand). h.next_file + 1) same;
  }

  pub goes_back : (d : DiskState) (new : Engine) → FurthersMerge b d live f new → FurthersMerge a d live e new
  goes_back d new goes =
      let way = way_back goes.0 goes.1 in (
        goes.0,
        way.0,
        subst (λ (s : DiskState). Furthered s d e new goes.0) way.1.0
            (subst (λ (x : Engine). Furthered b d x new goes.0) way.1.1 goes.2),
      )

  pub ends_back : (d : DiskState) (new : Engine) → EndsMerge b d live f new → EndsMerge a d live e new
  ends_back d new ends =
      let way = way_back ends.0 ends.1 in (
        ends.0,
        way.0,
        subst (λ (s : DiskState). MergeEnded s d e new ends.0) way.1.0
            (subst (λ (x : Engine). MergeEnded b d x new ends.0) way.1.1 ends.2),
      )

  -- ---- the files that it made

  -- Where none is given up no other is made.
  pub makes_back : (d : DiskState) → KeepsMerge live e → MakesNoOther b d f → MakesNoOther a d e
  makes_back d keeps makes = ⊎_elim
      (λ (kept : WasKept a b live e f).
      subst (λ (s : DiskState). MakesNoOther s d e) kept.disk
      (subst (λ (x : Engine). MakesNoOther b d x) kept.engine makes))
      (λ (gone : WasGivenUp live e f). absurd (gone.dead (keeps gone.job gone.was))) turned

-- Where one of a family that isn't live was under way, none is behind.
pub none_after : (a b : DiskState) (live : List ℕ) (e f : Engine)
    → WasKept a b live e f ⊎ WasGivenUp live e f → (j : Merging) → merge_of e ≡ Some j
    → (IsIn live (merged_family j) → ⊥) → merge_of f ≡ None
none_after a b live e f turned j is dead = ⊎_elim
    (λ (kept : WasKept a b live e f). absurd (dead (kept.keeps j is)))
    (λ (gone : WasGivenUp live e f). gone.none) turned

-- The file of one is below the next.
pub job_below : (s : DiskState) (e : Engine) (j : Merging) (l : Layout) → StandsForLayout s e l
    → merge_of e ≡ Some j → file_of_merging j < next_file_of (hand_of e)
job_below s e j l stands is =
    let going = subst (IsGoing s (hand_of e)) is stands.merging in going.1.merging.below

-- ---- answers

-- What is so of each of two answers is so of all but the third.
pub busy_by : {P Q R : Type 0} → (r : Result Worked EngineFault) → (P → R) → (Q → R)
    → IfOk r (λ w. w ≡ Went → P) → IfOk r (λ w. w ≡ Done → Q) → IfOk r (λ w. (w ≡ Idle → ⊥) → R)
busy_by (Ok Idle) p q went done = λ no. absurd (no refl)
busy_by (Ok Went) p q went done = λ no. p (went refl)
busy_by (Ok Done) p q went done = λ no. q (done refl)
busy_by (Err fault) p q went done = tt

-- ---- steps

module _ (s : DiskState) (live : List ℕ) (e : Engine) (l : Layout) (stands : StandsForLayout s e l) where
  -- No flush applied, by the entries of the log.
  pub flushed : LogIsShort (hand_of e) × IsCalm live (hand_of e) → NeedsNoFlush s.file live e
  flushed calm = (short_entries s (hand_of e) l stands.hand calm.0, calm.1)

  -- Where a step flushed, one applied.
  pub flush_busy : (new : Hand) → IsFlushDone live (hand_of e) new → NeedsNoFlush s.file live e → ⊥
  flush_busy new done idle = ⊎_elim
      (λ (all : IsLong (hand_of e) × AreAllFlushed live (hand_of e) new).
      let has = has_entries s (hand_of e) l stands.hand in
      let low = idle.0 has.0 has.1 in
      let high = long_entries s (hand_of e) l stands.hand all.0 has.0 has.1 in omega (arith, low, high))
      (λ (one : LogIsShort (hand_of e)
      × ((family : ℕ) × IsFirstFull live (hand_of e) family
      × IsOneFlushed live (hand_of e) new family)).
      idle.1 one.1.0 one.1.1.lives one.1.1.full) done

  -- What it flushed, by the entries of the log.
  pub did_flush : (d : DiskState) (new : Engine) → IsFlushDone live (hand_of e) (hand_of new)
      → DidStep s d live e new
  did_flush d new done = ⊎_elim
      (λ (all : IsLong (hand_of e) × AreAllFlushed live (hand_of e) (hand_of new)).
      inl (long_entries s (hand_of e) l stands.hand all.0, all.1))
      (λ (one : LogIsShort (hand_of e)
      × ((family : ℕ) × IsFirstFull live (hand_of e) family
      × IsOneFlushed live (hand_of e) (hand_of new) family)).
      inr (inl (short_entries s (hand_of e) l stands.hand one.0, one.1))) done

  -- A flush of all has nothing to do.
  pub idle_all : length_of (hand_of e) ≡ 0 → IsIdle FlushAll s live e
  idle_all none = (
    no_entries s (hand_of e) l stands.hand none,
    none_in_memory s (hand_of e) l stands.hand none,
  )

  -- It has something to do where the log has entries.
  pub busy_all : (length_of (hand_of e) ≡ 0 → ⊥) → IsIdle FlushAll s live e → ⊥
  busy_all some idle = let has = has_entries s (hand_of e) l stands.hand in
      let none = idle.0 has.0 has.1 in
      some (entries_length s (hand_of e) l has.0 stands.hand has.1
      ∙ omega (arith, none))

-- a family that is the first with many is one of them
pub first_lives : (live : List ℕ) (e : Hand) (family : ℕ) → IsFirstMany live e family
    → IsIn live family
first_lives live e family first = subst (λ xs. IsIn xs family) (sym first.is)
    (in_back first.before (family ∷ first.behind) family (inl refl))

-- ---- merges of all

-- files that are merged, by their numbers
merged_file : (s : DiskState) (held : Held) (gs : List ℕ) (fs : List RowFile) → AreOpen s held gs fs
    → AreMerged s fs → IsMergedFile s.file gs
merged_file s held [] [] are merged = tt
merged_file s held [] (f ∷ fs) are merged = absurd are
merged_file s held (g ∷ gs) [] are merged = absurd are
merged_file s held (g ∷ []) (f ∷ []) are merged = λ m bytes there rows.
    let first : IsRowFile (entries (held g)) are.1.bytes = record {
      blocks = are.1.as_file.blocks;
      file = are.1.as_file.file;
      are = are.1.as_file.are;
    } in
    let same : are.1.bytes ≡ bytes = inside are.1.bytes bytes
    (sym are.1.there ∙ ap s.file are.0 ∙ there) in
    ap any_tombstone (one_list (entries m) (entries (held g)) bytes rows
    (subst (IsRowFile (entries (held g))) same first)) ∙ merged (held g) are.1
  where
    inside : (x y : List ℕ) → Some x ≡ Some y → x ≡ y
    inside x y e = cc e
merged_file s held (g ∷ []) (f ∷ h ∷ fs) are merged = absurd merged
merged_file s held (g ∷ k ∷ gs) (f ∷ []) are merged = absurd are.2
merged_file s held (g ∷ k ∷ gs) (f ∷ h ∷ fs) are merged = absurd merged

-- Each live family has one file at most, without tombstones.
pub all_merged : (s : DiskState) (live : List ℕ) (e : Hand) (l : Layout) → HandStands s e l
    → AllMerged s live e → LiveFamiliesAreMerged live s.file
all_merged s live e l stands merged v has family there =
    let same : version_in e ≡ v = same_version (s.file versions_file) (version_in e) v
    (lies_of s e l stands).last has in
    subst (λ (u : Version). IsMergedFile s.file (files_of u.families family)) same
    (merged_file s stands.reads.held (files_of (version_in e).families family) (files_at e family)
    (stands.reads.opened family) (merged family there))

-- Files of live families that are merged behind were merged before.
pub merged_back : (a b : DiskState) (live : List ℕ) (e f : Hand) → f ≡ e
    → ((family : ℕ) → AreStill a b (files_at e family)) → AllMerged b live f → AllMerged a live e
merged_back a b live e f same still merged family there =
    merged_on b a (files_at e family) (still_back a b (files_at e family) (still family))
    (subst (λ (h : Hand). AreMerged b (files_at h family)) same (merged family there))

pub merged_forth : (a b : DiskState) (live : List ℕ) (e f : Hand) → f ≡ e
    → ((family : ℕ) → AreStill a b (files_at e family)) → AllMerged a live e → AllMerged b live f
merged_forth a b live e f same still merged family there =
    subst (λ (h : Hand). AreMerged b (files_at h family)) (sym same)
    (merged_on a b (files_at e family) (still family) (merged family there))
