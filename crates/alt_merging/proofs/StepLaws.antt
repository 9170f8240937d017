-- A merge under way, call by call.
use Rattle.std.proofs.Common.{◌≡◌, ◌+◌, ⊎_elim, inl, ℕ, Bool, true, false, List, [], ◌∷◌, ◌++◌, take, drop, zero, suc, Option, refl, sym, ap, subst, ◌∙◌, arith, eqb-true}
use Rattle.std.proofs.lemmas.List.{append-nil, take-append-drop, take-append-le}
use Rattle.std.specs.Prelude.{◌==◌, ◌||◌, IsTrue, Result, Err}
use Rattle.std.specs.FinMap.{entries}
use Rattle.std.specs.List.{AllByRecursion}
use Rattle.alt_cells.specs.Compacted.{compacted}
use Rattle.alt_base.specs.Counts.{Rose}
use Rattle.alt_cells.specs.Walks.{Anything, HasCause, IsDamaged, RowList, RowMap}
use Rattle.alt_cells.specs.declared.source.SourceFault.{SourceFault}
use Rattle.alt_cells.specs.declared.source.SourceFault.TheVariants.{Damaged, Failed, NoMemory}
use Rattle.alt_compact.specs.declared.job.Stepped.{Stepped}
use Rattle.alt_compact.specs.Jobs.{MovesOnlyTouched}
use Rattle.alt_disk.specs.Disk.{DiskState, IsTrusted}
use Rattle.alt_disk.specs.Runs.{Run, Spans}
use Rattle.alt_disk.proofs.Runs.{quiet_spans, quiet_start, run_spans, spans_on, spans_weaker}
use Rattle.alt_fields.proofs.Apart.{all_front}
use Rattle.alt_filemerge.specs.FileMerges.{MergeStands, ReadEach, any_file, drops, is_output, output_of}
use Rattle.alt_filemerge.proofs.Merged.{stands_on}
use Rattle.alt_filemerge.specs.declared.filemerge.FileMerge.{FileMerge}
use Rattle.alt_layout.specs.Files.{IsOf}
use Rattle.alt_layout.specs.Fresh.{versions_file}
use Rattle.alt_layout.specs.Layout.{Layout}
use Rattle.alt_layout.specs.Moments.{Has, IsIt}
use Rattle.alt_manifest.specs.Versions.{IsIn, files_named}
use Rattle.alt_merge.specs.Merges.{Each2, all_rows}
use Rattle.alt_rowfile.specs.InHand.{file_of as row_file, ReadsRows as RowReads, StandsForRows as RowFileStands}
use Rattle.alt_rowfile.specs.Writing.{itself}
use Rattle.alt_rowfile.specs.declared.rowfile.RowFile.{RowFile}
use Rattle.alt_hand.specs.Carrying.{CarriesFamily}
use Rattle.alt_hand.specs.InHand.{HandStandsForLayout}
use Rattle.alt_hand.specs.Merging.{IsMadeOf, IsMerging, IsOlder, files_at, version_in}
use Rattle.alt_hand.specs.Working.{TellsNoDamage, WorksIn}
use Rattle.alt_hand.specs.Opened.{EngineFaultIsUnspent, of_source}
use Rattle.alt_hand.specs.declared.hand.Hand.{Hand}
use Rattle.alt_hand.specs.DeclaredEngineFault.{EngineFault}
use Rattle.alt_hand.specs.DeclaredEngineFault.TheVariants as fault
use Rattle.alt_hand.proofs.BesideLaws.{files_by_side, files_read, merging_stays, stands_by_side}
use Rattle.alt_hand.proofs.EndLaws.{works_same}
use Rattle.alt_hand.specs.Adding.{HasLast}
use Rattle.alt_hand.proofs.AddingLaws.{keeps_last}
use Rattle.alt_manifest.specs.InHand.{version_of}
use Rattle.alt_hand.proofs.HandLaws.{each_image, lies_of}
use Rattle.alt_merging.specs.Mergings.{MergingStands}
use Rattle.alt_merging.specs.declared.merging.Merging.{Merging}

-- ---- calls on its file

-- the file of a merge isn't one of the store's
pub not_of : (s : DiskState) (e : Hand) (family taken number file : ℕ)
    → IsMerging s e family taken number file → IsOf (version_in e) file → ⊥
not_of s e family taken number file merging of = ⊎_elim
    (λ (first : file ≡ versions_file). let two = merging.two in omega (arith, first, two))
    (λ (there : IsIn (files_named (version_in e)) file). merging.new there) of

-- calls on one file alone
pub run_it : (a b : DiskState) (file : ℕ) (P : ℕ → Option (List ℕ) → Type 0)
    → Run a b file P → Spans a b (IsIt file) Anything
run_it a b file P run = run_spans a b file P (IsIt file) Anything run refl (λ t image here others. tt)

module _ (a b : DiskState) (e : Hand) (l : Layout) (stands : HandStandsForLayout a e l)
    (family taken number file : ℕ) (merging : IsMerging a e family taken number file)
    (spans : Spans a b (IsIt file) Anything) where
  both : HandStandsForLayout b e l × Spans a b (IsIt file) (Has l)
  both = stands_by_side a b e l file stands merging.below
      (not_of a e family taken number file merging) spans

  -- leave the engine as it stands
  pub hand_stays : HandStandsForLayout b e l
  hand_stays = both.0

  -- and each image with the layout
  pub images_stay : Spans a b (λ g. Unit {0}) (Has l)
  images_stay = spans_weaker a b (IsIt file) (λ g. Unit {0}) (Has l) (Has l) both.1 (λ g it. tt)
      (λ t image has. has)

  -- and the last version
  pub last_stays : Spans a b (λ g. Unit {0}) (HasLast (version_in e))
  last_stays = keeps_last a b (IsIt file) Anything (version_of e.manifest) (lies_of a e l stands).last
      (stands.settled versions_file (inl refl))
      (λ (it : versions_file ≡ file). let two = merging.two in omega (arith, two, it)) spans

  -- its files read as they read
  pub files_stay : (other : ℕ)
      → AllByRecursion (λ f. b.file (row_file f) ≡ a.file (row_file f)) (files_at e other)
  files_stay other = files_by_side a b e l file stands
      (not_of a e family taken number file merging) spans other

  -- and it is a merge of them
  pub merging_on : IsMerging b e family taken number file
  merging_on = merging_stays a b e family taken number file (files_stay family) merging

-- the images of a layout are images that work leaves
pub has_works : (a b : DiskState) (live : List ℕ) (l : Layout) → Spans a b (λ g. Unit {0}) (Has l)
    → Spans a b (λ g. Unit {0}) (WorksIn live l)
has_works a b live l spans =
    spans_weaker a b (λ g. Unit {0}) (λ g. Unit {0}) (WorksIn live l) (Has l) spans (λ g it. it)
    (λ t image has. record { layout = l; is = has; works = works_same live l })

-- and so of calls behind them
pub then_works : (a b c : DiskState) (live : List ℕ) (l : Layout) → Spans a b (λ g. Unit {0}) (Has l)
    → Spans b c (λ g. Unit {0}) (WorksIn live l) → Spans a c (λ g. Unit {0}) (WorksIn live l)
then_works a b c live l first later =
    spans_on a b c (λ g. Unit {0}) (WorksIn live l) (has_works a b live l first) later

-- ---- its beginning

-- the first of several files read as the first of their maps
each2_take : (P : RowFile → RowMap → Type 0) (n : ℕ) (fs : List RowFile) (maps : List RowMap)
    → Each2 P fs maps → Each2 P (take n fs) (take n maps)
each2_take P zero fs maps each = tt
each2_take P (suc n) [] [] each = tt
each2_take P (suc n) [] (m ∷ maps) each = absurd each
each2_take P (suc n) (f ∷ fs) [] each = absurd each
each2_take P (suc n) (f ∷ fs) (m ∷ maps) each =
    (each.0, each2_take P n fs maps each.1)

-- older files are other ones
not_older : (s : DiskState) (number file : ℕ) (fs : List RowFile)
    → AllByRecursion (IsOlder s number file) fs → any_file fs file ≡ false
not_older s number file [] older = refl
not_older s number file (f ∷ fs) older =
    here (file == row_file f) refl (not_older s number file fs older.1)
  where
    here : (t : Bool) → (file == row_file f) ≡ t → any_file fs file ≡ false
        → t || any_file fs file ≡ false
    here true same rest = absurd (let low = older.0.before in
        let e : file ≡ row_file f = eqb-true file (row_file f) same in omega (arith, low, e))
    here false same rest = rest

-- It stands once its file is made.
pub begins : (a b : DiskState) (e : Hand) (l : Layout) → HandStandsForLayout a e l
    → (family taken number file : ℕ) → IsMerging a e family taken number file
    → Spans a b (IsIt file) Anything → (merge : FileMerge) → output_of merge ≡ file
    → drops merge ≡ true
    → ((files : List RowFile) (lists : List RowMap) → ReadEach b files lists
    → any_file files file ≡ false → MergeStands b files merge [] (entries (all_rows lists)))
    → (left : RowList) × MergingStands b e
    (record { family = family; taken = taken; file = file; merge = merge }) left
begins a b e l stands family taken number file merging spans merge output purges begun =
    let later = merging_on a b e l stands family taken number file merging spans in
    let read = files_read b e l family
    (hand_stays a b e l stands family taken number file merging spans).reads in (
      entries (all_rows (take taken read.0)),
      record {
        number = number;
        merging = later;
        output = output;
        purges = purges;
        done = [];
        stands = begun (take taken (files_at e family)) (take taken read.0)
            (each2_take (λ f m. RowReads b f (entries m)) taken (files_at e family) read.0 read.1)
            (not_older b (number + 1) file (take taken (files_at e family)) later.older);
      },
    )

-- ---- a step

-- what it moves is its file
pub moves_it : (a b : DiskState) (merge : FileMerge) (file : ℕ) → IsTrusted a → output_of merge ≡ file
    → MovesOnlyTouched (is_output merge) a b → Spans a b (IsIt file) Anything
moves_it a b merge file t output moves = spans_weaker a b (λ f. IsTrue (is_output merge f)) (IsIt file)
    Anything Anything (moves.others t) (λ f it. eqb-true f (output_of merge) it ∙ output)
    (λ s image any. any)

-- a merge with the same files has the same one
pub same_output : (old new : FileMerge) → is_output new ≡ is_output old
    → output_of new ≡ output_of old
same_output old new same = eqb-true (output_of new) (output_of old)
    (sym (ap (λ (p : ℕ → Bool). p (output_of new)) same) ∙ itself (output_of new))

-- It stands after a step.
pub steps : (a b : DiskState) (e : Hand) (l : Layout) → HandStandsForLayout a e l → (old new : Merging)
    (left rest more : RowList) → (stands : MergingStands a e old left)
    → Spans a b (IsIt old.file) Anything → new.family ≡ old.family → new.taken ≡ old.taken
    → new.file ≡ old.file → is_output new.merge ≡ is_output old.merge
    → drops new.merge ≡ drops old.merge
    → MergeStands b (take old.taken (files_at e old.family)) new.merge (stands.done ++ more) rest
    → MergingStands b e new rest
steps a b e l engine old new left rest more stands spans family taken file output purges merge = record {
  number = stands.number;
  merging = subst (λ k. IsMerging b e k new.taken stands.number new.file) (sym family)
      (subst (λ k. IsMerging b e old.family k stands.number new.file) (sym taken)
      (subst (IsMerging b e old.family old.taken stands.number) (sym file)
      (merging_on a b e l engine old.family old.taken stands.number old.file stands.merging spans)));
  output = same_output old.merge new.merge output ∙ stands.output ∙ sym file;
  purges = purges ∙ stands.purges;
  done = stands.done ++ more;
  stands = subst (λ k. MergeStands b (take k (files_at e new.family)) new.merge (stands.done ++ more)
      rest) (sym taken) (subst (λ k. MergeStands b (take old.taken (files_at e k)) new.merge
      (stands.done ++ more) rest) (sym family) merge);
}

-- ---- its end

-- files that read as they read
each2_on : (a b : DiskState) (fs : List RowFile) (maps : List RowMap)
    → AllByRecursion (λ f. b.file (row_file f) ≡ a.file (row_file f)) fs
    → Each2 (λ f m. RowReads a f (entries m)) fs maps
    → Each2 (λ f m. RowReads b f (entries m)) fs maps
each2_on a b [] [] same each = tt
each2_on a b [] (m ∷ maps) same each = absurd each
each2_on a b (f ∷ fs) [] same each = absurd each
each2_on a b (f ∷ fs) (m ∷ maps) same each = (
  record {
    bytes = each.0.bytes;
    there = same.0 ∙ each.0.there;
    as_file = each.0.as_file;
  },
  each2_on a b fs maps same.1 each.1,
)

-- Where no row is left, the file that was finished stands for what is left of all.
pub made_of : (a b : DiskState) (e : Hand) (l : Layout) → HandStandsForLayout a e l → (old : Merging)
    → (stands : MergingStands a e old []) → Spans a b (IsIt old.file) Anything → (made : RowFile)
    → RowFileStands b made (compacted (drops old.merge) stands.done)
    → IsMadeOf b (take old.taken (files_at e old.family)) made
made_of a b e l engine old stands spans made lasts =
    let fs = files_at e old.family in
    let still : AllByRecursion (λ f. b.file (row_file f) ≡ a.file (row_file f))
    (take old.taken fs ++ drop old.taken fs) =
    subst (AllByRecursion (λ f. b.file (row_file f) ≡ a.file (row_file f)))
    (sym (take-append-drop old.taken fs))
    (files_stay a b e l engine old.family old.taken stands.number old.file stands.merging spans
    old.family) in
    let all : stands.done ≡ entries (all_rows stands.stands.lists) =
    sym (stands.stands.are ∙ append-nil stands.done) in
    record {
      lists = stands.stands.lists;
      reads = each2_on a b (take old.taken fs) stands.stands.lists
          (all_front (λ f. b.file (row_file f) ≡ a.file (row_file f)) (take old.taken fs)
          (drop old.taken fs) still) stands.stands.reads;
      stands = subst (RowFileStands b made)
          ((λ i. compacted (stands.purges i) (all i))) lasts;
    }

-- ---- no call

-- where no call is made each image has the layout
pub has_still : (s : DiskState) (e : Hand) (l : Layout) → HandStandsForLayout s e l
    → Spans s s (λ g. Unit {0}) (Has l)
has_still s e l stands = quiet_spans s s (λ g. Unit {0}) (Has l) (quiet_start s)
    (λ t image fits. each_image s e l stands image fits)

-- and the last version
pub last_still : (s : DiskState) (e : Hand) (l : Layout) → HandStandsForLayout s e l
    → Spans s s (λ g. Unit {0}) (HasLast (version_in e))
last_still s e l stands = keeps_last s s (λ g. ⊥) Anything (version_of e.manifest)
    (lies_of s e l stands).last (stands.settled versions_file (inl refl)) (λ no. no)
    (quiet_spans s s (λ g. ⊥) Anything (quiet_start s) (λ t image fits. tt))

-- ---- faults

-- a fault of the merge as one of the engine
pub cause_of : (reads : ℕ → Bool) (a b : DiskState) (given : SourceFault) (made : EngineFault)
    → made ≡ of_source given → HasCause reads a b given → (r : Result Stepped EngineFault)
    → r ≡ Err made → r ≡ Err fault.Failed → Rose a.faults b.faults
cause_of reads a b (Damaged f at) made is has r same e = absurd (let no : ⊥ = cc in no)
cause_of reads a b Failed made is has r same e = has
cause_of reads a b NoMemory made is has r same e = absurd (let no : ⊥ = cc in no)

-- it tells of no spent number
pub unspent_source : (given : SourceFault) (made : EngineFault) → made ≡ of_source given
    → EngineFaultIsUnspent made
unspent_source (Damaged f at) made is = subst EngineFaultIsUnspent (sym is) tt
unspent_source Failed made is = subst EngineFaultIsUnspent (sym is) tt
unspent_source NoMemory made is = subst EngineFaultIsUnspent (sym is) tt

-- and where the source's tells of no damage, of none
pub sound_source : (given : SourceFault) (made : EngineFault) → made ≡ of_source given
    → (IsDamaged given → ⊥) → TellsNoDamage made
sound_source (Damaged f at) made is sound = absurd (sound tt)
sound_source Failed made is sound = subst TellsNoDamage (sym is) tt
sound_source NoMemory made is sound = subst TellsNoDamage (sym is) tt

-- ---- carried on by the engine

either_test : {Q : Type 0} (x y : Bool) → x || y ≡ true → (x ≡ true → Q) → (y ≡ true → Q) → Q
either_test true y e here there = here refl
either_test false y e here there = there e

-- a file that is read reads as it read, where each of the files in hand does
any_on : (a b : DiskState) (fs : List RowFile) (g : ℕ)
    → AllByRecursion (λ f. b.file (row_file f) ≡ a.file (row_file f)) fs → any_file fs g ≡ true
    → b.file g ≡ a.file g
any_on a b [] g same there = let no : false ≡ true = there in cc no
any_on a b (f ∷ fs) g same there = either_test (g == row_file f) (any_file fs g) there
    (λ here. subst (λ k. b.file k ≡ a.file k) (sym (eqb-true g (row_file f) here)) same.0)
    (λ later. any_on a b fs g same.1 later)

-- A call of the engine that carries merges of its family on leaves it as it stands.
pub carried : (a b : DiskState) (e f : Hand) (j : Merging) (left : RowList)
    → CarriesFamily a b e f j.family → MergingStands a e j left → MergingStands b f j left
carried a b e f j left carries stands =
    let fs = files_at e j.family in
    let front : take j.taken (files_at f j.family) ≡ take j.taken fs =
    ap (take j.taken) carries.files ∙ take-append-le j.taken fs carries.more stands.merging.enough in
    let still : AllByRecursion (λ g. b.file (row_file g) ≡ a.file (row_file g)) (take j.taken fs) =
    all_front (λ g. b.file (row_file g) ≡ a.file (row_file g)) (take j.taken fs) (drop j.taken fs)
    (subst (AllByRecursion (λ g. b.file (row_file g) ≡ a.file (row_file g)))
    (sym (take-append-drop j.taken fs)) carries.still) in
    record {
      number = stands.number;
      merging = carries.merging j.taken stands.number j.file stands.merging;
      output = stands.output;
      purges = stands.purges;
      done = stands.done;
      stands = subst (λ gs. MergeStands b gs j.merge stands.done left) (sym front)
          (stands_on a b (take j.taken fs) j.merge stands.done left (λ g touched.
          either_test (any_file (take j.taken fs) g) (is_output j.merge g) touched
          (λ read. any_on a b (take j.taken fs) g still read)
          (λ written. subst (λ k. b.file k ≡ a.file k)
          (sym (eqb-true g (output_of j.merge) written ∙ stands.output))
          (carries.beside j.taken stands.number j.file stands.merging))) stands.stands);
    }
