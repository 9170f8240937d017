-- Files that need no merge, and work behind work.
use Rattle.std.proofs.Common.{◌≡◌, ◌≢◌, ◌<◌, ◌≤◌, ◌-◌, ⊎_elim, inl, inr, ℕ, Bool, true, false, List, [], ◌∷◌, length, get_or, refl, sym, ap, subst, ◌∙◌, arith}
use Rattle.std.specs.Prelude.{◌⊎◌, None, not}
use Rattle.std.specs.FinMap.{empty, entries}
use Rattle.std.specs.List.{AllByRecursion}
use Rattle.alt_disk.specs.Disk.{DiskState}
use Rattle.alt_disk.specs.Runs.{Spans}
use Rattle.alt_disk.proofs.Runs.{spans_on, spans_weaker}
use Rattle.alt_filemerge.specs.FileMerges.{ReadEach}
use Rattle.alt_layout.specs.Layout.{Layout, RowMap, shown}
use Rattle.alt_flush.proofs.DraftLaws.{next_above}
use Rattle.alt_layout.specs.Files.{IsOf}
use Rattle.alt_layout.specs.Fresh.{versions_file}
use Rattle.alt_layout.proofs.MomentLaws.{same_or_not}
use Rattle.alt_manifest.specs.InHand.{version_of}
use Rattle.alt_manifest.specs.Versions.{IsIn, files_named, numbers_of}
use Rattle.alt_manifest.specs.declared.version.Version.{Version}
use Rattle.alt_manifest.specs.Rules.{Reflects}
use Rattle.alt_rowfile.specs.InHand.{ReadsRows as RowReads}
use Rattle.alt_rowfile.specs.Summaries.{any_tombstone}
use Rattle.alt_rowfile.specs.declared.rowfile.RowFile.{RowFile}
use Rattle.alt_hand.specs.Carrying.{AreStill}
use Rattle.alt_hand.specs.Drafting.{IsSpentFor}
use Rattle.alt_hand.specs.Adding.{AddsVersion, IsLeftOut, LeavesOut, MakesNone}
use Rattle.alt_hand.specs.InHand.{HandStandsForLayout, next_file_of, next_of}
use Rattle.alt_hand.specs.Merging.{memory_at, version_in}
use Rattle.alt_hand.specs.Working.{IsFileSpent, TellsNoDamage, Works, WorksIn}
use Rattle.alt_hand.specs.DeclaredEngineFault.{EngineFault}
use Rattle.alt_hand.specs.DeclaredEngineFault.TheVariants.{Spent, Damaged, Failed, NoMemory}
use Rattle.alt_hand.specs.declared.hand.Hand.{Hand}
use Rattle.alt_hand.proofs.StillLaws.{still_reads}
use Rattle.alt_manifest.proofs.Among.{in_or_not}
use Rattle.alt_merging.specs.Merged.{AreMerged}

-- ---- files

pub still_back : (a b : DiskState) (fs : List RowFile) → AreStill a b fs → AreStill b a fs
still_back a b [] still = tt
still_back a b (f ∷ fs) still = (sym still.0, still_back a b fs still.1)

-- Files that are merged stay so while they read as they read.
pub merged_on : (a b : DiskState) (fs : List RowFile) → AreStill a b fs → AreMerged a fs
    → AreMerged b fs
merged_on a b [] still merged = tt
merged_on a b (f ∷ []) still merged = λ m reads. merged m (still_reads a b f m still.0 reads)
merged_on a b (f ∷ g ∷ fs) still merged = absurd merged

-- One file is merged where it has no tombstone.
pub one_merged : (s : DiskState) (fs : List RowFile) (maps : List RowMap) (x : RowFile)
    (has : Bool) → 0 < length fs → length fs ≤ 1 → x ≡ get_or fs 0 x
    → ((m : RowMap) → RowReads s x (entries m) → has ≡ any_tombstone (entries m))
    → ReadEach s fs maps → Reflects (not has) (AreMerged s fs)
one_merged s [] maps x has some few is tells each = absurd (omega (arith, some))
one_merged s (f ∷ g ∷ fs) maps x has some few is tells each = absurd (omega (arith, few))
one_merged s (f ∷ []) [] x has some few is tells each = absurd each
one_merged s (f ∷ []) (m ∷ maps) x has some few is tells each = here has refl
  where
    at : (n : RowMap) → RowReads s f (entries n) → has ≡ any_tombstone (entries n)
    at n reads = tells n (subst (λ (k : RowFile). RowReads s k (entries n)) (sym is) reads)

    here : (t : Bool) → has ≡ t → Reflects (not t) (AreMerged s (f ∷ []))
    here true e = λ purged. let no : true ≡ false = sym e ∙ at m each.0 ∙ purged m each.0 in cc no
    here false e = λ n reads. sym (at n reads) ∙ e

-- ---- work

-- work behind work
pub works_then : (live : List ℕ) (l m n : Layout) → Works live l m → Works live m n → Works live l n
works_then live l m n first later = record {
  number = later.number ∙ first.number;
  lives = λ family there key. later.lives family there key ∙ first.lives family there key;
  others = λ family. ⊎_elim
      (λ (same : (key : List ℕ) → shown n family key ≡ shown m family key). ⊎_elim
      (λ (before : (key : List ℕ) → shown m family key ≡ shown l family key).
      inl (λ key. same key ∙ before key))
      (λ (none : (key : List ℕ) → shown m family key ≡ None).
      inr (λ key. same key ∙ none key)) (first.others family))
      (λ (none : (key : List ℕ) → shown n family key ≡ None). inr none) (later.others family);
}

-- what a stop leaves of work behind work
pub works_on : (a b c : DiskState) (live : List ℕ) (l m : Layout) → Works live l m
    → Spans a b (λ g. Unit {0}) (WorksIn live l) → Spans b c (λ g. Unit {0}) (WorksIn live m)
    → Spans a c (λ g. Unit {0}) (WorksIn live l)
works_on a b c live l m works first later =
    spans_on a b c (λ g. Unit {0}) (WorksIn live l) first
    (spans_weaker b c (λ g. Unit {0}) (λ g. Unit {0}) (WorksIn live l) (WorksIn live m) later
    (λ g it. it) (λ t image worked. record {
      layout = worked.layout;
      is = worked.is;
      works = works_then live l m worked.layout works worked.works;
    }))

-- ---- versions

-- a file of the store is below the next one
of_below : (a : DiskState) (e : Hand) (l : Layout) → HandStandsForLayout a e l → (f : ℕ) → IsOf (version_in e) f
    → f < next_file_of e
of_below a e l stands f of =
    let free = stands.reads.free in
    let two = next_above (version_of e.manifest) stands.reads.versions.is in ⊎_elim
    (λ (first : f ≡ versions_file). omega (arith, free, two, first))
    (λ (there : IsIn (files_named (version_of e.manifest)) f).
    let low = each_in (files_named (version_of e.manifest)) f stands.reads.versions.is.below there in
    omega (arith, free, low)) of
  where
    each_in : (xs : List ℕ) (n : ℕ)
        → AllByRecursion (λ k. k < (version_of e.manifest).next_file) xs → IsIn xs n
        → n < (version_of e.manifest).next_file
    each_in [] n all there = absurd there
    each_in (x ∷ xs) n all there = ⊎_elim
        (λ (e : n ≡ x). let low = all.0 in omega (arith, low, e))
        (λ (later : IsIn xs n). each_in xs n all.1 later) there

-- a file is one of the store's, or not
of_or_not : (v : Version) (f : ℕ) → IsOf v f ⊎ (IsOf v f → ⊥)
of_or_not v f = ⊎_elim (λ (first : f ≡ versions_file). inl (inl first))
    (λ (other : f ≢ versions_file). ⊎_elim (λ (there : IsIn (files_named v) f). inl (inr there))
    (λ (out : IsIn (files_named v) f → ⊥). inr (λ of. ⊎_elim other out of))
    (in_or_not (files_named v) f)) (same_or_not f versions_file)

-- a version behind another one
pub adds_then : (a b c : DiskState) (e f g : Hand) (l : Layout) → HandStandsForLayout a e l → AddsVersion b e f
    → AddsVersion c f g → next_file_of e ≤ next_file_of f → MakesNone b c (next_file_of f) → AddsVersion c e g
adds_then a b c e f g l stands first later low missing = record {
  next_file = later.next_file;
  removed = λ k of out. ⊎_elim (λ (between : IsOf (version_in f) k). later.removed k between out)
      (λ (gone : IsOf (version_in f) k → ⊥). missing k
      (let below = of_below a e l stands k of in omega (arith, below, low)) (first.removed k of gone))
      (of_or_not (version_in f) k);
}

pub leaves_then : (live : List ℕ) (e f g : Hand) → LeavesOut live e f → LeavesOut live f g
    → next_of f ≡ next_of e → LeavesOut live e g
leaves_then live e f g first later next = record {
  segments = later.segments ∙ first.segments;
  named = λ family out there. subst (λ n. IsLeftOut (version_in g) family (n - 1)) next
      (later.named family out (inl (first.named family out there).named));
  emptied = later.emptied;
}

-- A version that was added to an engine with the same version and memory was added to this one.
pub adds_from : (s : DiskState) (e f g : Hand) → version_in f ≡ version_in e → AddsVersion s f g → AddsVersion s e g
adds_from s e f g same adds = record {
  next_file = adds.next_file;
  removed = λ k of out. adds.removed k (subst (λ (v : Version). IsOf v k) (sym same) of) out;
}

pub leaves_from : (live : List ℕ) (e f g : Hand) → version_in f ≡ version_in e
    → ((family : ℕ) → memory_at f family ≡ memory_at e family) → next_of f ≡ next_of e
    → LeavesOut live f g → LeavesOut live e g
leaves_from live e f g same memory next leaves = record {
  segments = leaves.segments ∙ ap (λ (v : Version). v.segments) same;
  named = λ family out there. subst (λ n. IsLeftOut (version_in g) family (n - 1)) next
      (leaves.named family out (⊎_elim
      (λ (name : IsIn (numbers_of (version_in e).families) family).
      inl (subst (λ (v : Version). IsIn (numbers_of v.families) family) (sym same) name))
      (λ (some : memory_at e family ≢ empty). inr (λ none. some (sym (memory family) ∙ none))) there));
  emptied = leaves.emptied;
}

-- ---- faults

-- A fault for a next file tells of no damage, and names file 2^32 - 1 where it tells a number.
pub whole_for : (n : ℕ) (f : EngineFault) → IsSpentFor n f → TellsNoDamage f
whole_for n (Spent number) spent = tt
whole_for n (Damaged file at) spent = absurd spent
whole_for n Failed spent = tt
whole_for n NoMemory spent = tt

pub file_for : (n : ℕ) (f : EngineFault) → IsSpentFor n f → IsFileSpent f
file_for n (Spent number) spent = spent.0
file_for n (Damaged file at) spent = absurd spent
file_for n Failed spent = tt
file_for n NoMemory spent = tt
