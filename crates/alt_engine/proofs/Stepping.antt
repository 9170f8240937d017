-- A step behind a flush that had nothing to do.
use Rattle.std.proofs.Common.{◌≡◌, ◌∙◌, ◌+◌, ⊎_elim, ℕ, List, [], ◌∷◌, Some, None, length, sym, ap, subst}
use Rattle.std.specs.List.{AllByRecursion}
use Rattle.std.specs.Prelude.{Result, Ok, Err, IfErr}
use Rattle.alt_disk.specs.Disk.{DiskState}
use Rattle.alt_faults.proofs.Telling.{outside-neither}
use Rattle.alt_manifest.specs.Versions.{IsIn}
use Rattle.alt_merging.specs.HandDrafting.{EngineFaultIsOutside as IsOutsideFault}
use Rattle.alt_merging.specs.HandFaults.{told_by_engine}
use Rattle.alt_merging.specs.HandMerging.{HasMany, IsFirstMany, files_at}
use Rattle.alt_merging.specs.HandWorking.{IsDueFor, IsFileSpent, TellsNoDamage}
use Rattle.alt_merging.specs.HandOpened.{EngineFaultIsUnspent}
use Rattle.alt_merging.specs.HandDeclaredEngineFault.{EngineFault}
use Rattle.alt_merging.specs.HandDeclaredHand.{Hand}
use Rattle.alt_merging.specs.Mergings.{GivesWay, MergingStands, family_of_merging, taken_of}
use Rattle.alt_merging.specs.declared.merging.Merging.{Merging}
use Rattle.alt_merging.proofs.EachLaws.{file_for, whole_for}
use Rattle.alt_engine.specs.InHand.{IsGoing, hand_of, merge_of}
use Rattle.alt_engine.specs.Working.{BeginsMerge, MergeEnded, Furthered}
use Rattle.alt_engine.specs.declared.engine.Engine.{Engine}
use Rattle.alt_engine.specs.declared.work.Worked.{Worked}
use Rattle.alt_engine.proofs.Turning.{free_none}

-- ---- the same disk and the same rows

pub at_both : (P : DiskState → Hand → Type 0) (a b : DiskState) (e f : Hand) → b ≡ a → f ≡ e → P a e
    → P b f
at_both P a b e f p q h = subst (P b) (sym q) (subst (λ s. P s e) (sym p) h)

pub back_both : (P : DiskState → Hand → Type 0) (a b : DiskState) (e f : Hand) → b ≡ a → f ≡ e → P b f
    → P a e
back_both P a b e f p q h = subst (λ s. P s e) p (subst (P b) q h)

pub furthered_back : (a b d : DiskState) (e x new : Engine) (job : Merging) → b ≡ a
    → hand_of x ≡ hand_of e → Furthered b d x new job → Furthered a d e new job
furthered_back a b d e x new job p q h = record {
  after = h.after;
  is = h.is;
  further = λ left stands. h.further left (at_both (λ s k. MergingStands s k job left) a b (hand_of e)
      (hand_of x) p q stands);
  next_file = h.next_file ∙ ap (λ (k : Hand). k.next_file) q;
}

pub ended_back : (a b d : DiskState) (e x new : Engine) (job : Merging) → b ≡ a
    → hand_of x ≡ hand_of e → MergeEnded b d x new job → MergeEnded a d e new job
ended_back a b d e x new job p q h = record {
  none = h.none;
  last = λ left stands. h.last left (at_both (λ s k. MergingStands s k job left) a b (hand_of e)
      (hand_of x) p q stands);
  gives = subst (λ (k : Hand). GivesWay d k (hand_of new) (family_of_merging job) (taken_of job)) q h.gives;
  next_file = h.next_file ∙ ap (λ (k : Hand). k.next_file) q;
}

pub begins_at : (live : List ℕ) (e x new : Engine) → hand_of x ≡ hand_of e → merge_of e ≡ None
    → BeginsMerge live x new → BeginsMerge live e new
begins_at live e x new q none h = record {
  free = free_none live e none;
  family = h.family;
  first = subst (λ (k : Hand). IsFirstMany live k h.family) q h.first;
  job = h.job;
  is = h.is;
  of = h.of;
  all = h.all ∙ ap (λ (k : Hand). length (files_at k h.family)) q;
  next_file = h.next_file ∙ ap (λ (k : Hand). k.next_file + 1) q;
}

-- the merge that was taken out stands
pub taken_stands : (s : DiskState) (e : Engine) (j : Merging) → merge_of e ≡ Some j
    → IsGoing s (hand_of e) (merge_of e) → IsGoing s (hand_of e) (Some j)
taken_stands s e j is going = subst (IsGoing s (hand_of e)) is going

-- ---- faults of flushes

pub due_file : (live : List ℕ) (e : Hand) (f : EngineFault) → IsDueFor live e f → IsFileSpent f
due_file live e f due = ⊎_elim (λ all. file_for _ f all.1) (λ one. file_for _ f one.1.2) due

pub due_whole : (live : List ℕ) (e : Hand) (f : EngineFault) → IsDueFor live e f → TellsNoDamage f
due_whole live e f due = ⊎_elim (λ all. whole_for _ f all.1) (λ one. whole_for _ f one.1.2) due

-- What tells neither a number nor damage needs no file.
pub outside_need : {P : EngineFault → Type 0} (r : Result Worked EngineFault) → IfErr r EngineFaultIsUnspent
    → IfErr r TellsNoDamage → ((f : EngineFault) → IsOutsideFault f → P f) → IfErr r P
outside_need (Ok w) unspent whole all = tt
outside_need (Err f) unspent whole all =
    all f (outside-neither (told_by_engine f) unspent whole)

-- ---- many files

-- None of the families has many.
pub none_of : (live : List ℕ) (e : Hand) → AllByRecursion (λ family. HasMany e family → ⊥) live
    → (family : ℕ) → IsIn live family → HasMany e family → ⊥
none_of [] e all family there = absurd there
none_of (f ∷ fs) e all family there = ⊎_elim
    (λ (same : family ≡ f). subst (λ k. HasMany e k → ⊥) (sym same) all.0)
    (λ (later : IsIn fs family). none_of fs e all.1 family later) there
