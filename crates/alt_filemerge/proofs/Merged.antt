-- A merge that is kept between two calls: it is under way over walks of its files, and it stands while these files stay as they read.
use Rattle.std.proofs.Common.{◌≡◌, ℕ, true, List, [], ◌∷◌, ◌++◌, refl, sym, ap, subst, ◌∙◌, take, drop, append_assoc}
use Rattle.std.proofs.lemmas.Bool.{eqb-true}
use Rattle.std.proofs.lemmas.List.{take-append-drop}
use Rattle.std.proofs.lemmas.Result.{IfErr-weaker}
use Rattle.std.specs.Prelude.{◌==◌, ◌||◌, Result, IfErr}
use Rattle.std.specs.FinMap.{entries}
use Rattle.alt_disk.specs.Disk.{DiskState, IsTrusted}
use Rattle.alt_cells.specs.Compacted.{compacted}
use Rattle.alt_cells.specs.declared.source.SourceFault.{SourceFault}
use Rattle.alt_cells.specs.declared.source.SourceFault.TheVariants.{Damaged, Failed, NoMemory}
use Rattle.alt_cells.specs.Walks.{RowMap, RowList, SameFiles, HasCause}
use Rattle.alt_compact.specs.Jobs.{IsUnderWay, MovesOnlyTouched, purges}
use Rattle.alt_merge.specs.declared.merge.Merge.{Merge}
use Rattle.alt_merge.specs.Merges.{Each2, all_rows, any_reads}
use Rattle.alt_merge.specs.MergeLaws.{or_left, or_right}
use Rattle.alt_merge.specs.Whole.{merge_reads, merge_holds}
use Rattle.alt_rowfile.specs.InHand.{file_of}
use Rattle.alt_rowfile.specs.Walking.{walk_holds, walk_reads, reads_on, itself}
use Rattle.alt_rowfile.specs.Writing.{WritesRows, writer_file, writer_writes, writes_on}
use Rattle.alt_rowfile.specs.declared.rowfile.RowFile.{RowFile}
use Rattle.alt_rowfile.specs.declared.walk.RowFileWalk.{RowFileWalk}
use Rattle.alt_rowfile.specs.declared.writer.RowFileWriter.{RowFileWriter}
use Rattle.alt_filemerge.specs.declared.filemerge.FileMerge.{FileMerge}
use Rattle.alt_filemerge.specs.FileMerges.{MergeStands, StaysApart, ReadEach, any_file, IsWalkOf}

-- ---- lists

pub each2_pushed : {A B : Type 0} (P : A → B → Type 0) (xs : List A) (ys : List B) (x : A) (y : B)
    → Each2 P xs ys → P x y → Each2 P (xs ++ x ∷ []) (ys ++ y ∷ [])
each2_pushed P [] [] x y each p = (p, tt)
each2_pushed P [] (b ∷ ys) x y each p = absurd each
each2_pushed P (a ∷ xs) [] x y each p = absurd each
each2_pushed P (a ∷ xs) (b ∷ ys) x y each p = (each.0, each2_pushed P xs ys x y each.1 p)

-- ---- walks over the files

-- they hold what the files read as
walks_hold : (s : DiskState) (files : List RowFile) (walks : List RowFileWalk) (lists : List RowMap)
    → Each2 IsWalkOf files walks → ReadEach s files lists → Each2 (walk_holds s) walks lists
walks_hold s [] [] [] each reads = tt
walks_hold s [] [] (m ∷ lists) each reads = absurd reads
walks_hold s [] (w ∷ walks) lists each reads = absurd each
walks_hold s (file ∷ files) [] lists each reads = absurd each
walks_hold s (file ∷ files) (w ∷ walks) [] each reads = absurd reads
walks_hold s (file ∷ files) (w ∷ walks) (m ∷ lists) each reads =
    (each.0.holds s m reads.0, walks_hold s files walks lists each.1 reads.1)

-- and read these files
walks_read : (files : List RowFile) (walks : List RowFileWalk) → Each2 IsWalkOf files walks
    → (f : ℕ) → any_reads walk_reads walks f ≡ any_file files f
walks_read [] [] each f = refl
walks_read [] (w ∷ walks) each f = absurd each
walks_read (file ∷ files) [] each f = absurd each
walks_read (file ∷ files) (w ∷ walks) each f =
    ap (λ b. b || any_reads walk_reads walks f) (each.0.reads f)
    ∙ ap (λ b. (f == file_of file) || b) (walks_read files walks each.1 f)

-- what makes a call on them fail is of these files
cause_files : (a b : DiskState) (files : List RowFile) (walks : List RowFileWalk)
    (fault : SourceFault) → Each2 IsWalkOf files walks
    → HasCause (any_reads walk_reads walks) a b fault → HasCause (any_file files) a b fault
cause_files a b files walks (Damaged f at) each cause =
    sym (walks_read files walks each f) ∙ cause
cause_files a b files walks Failed each cause = cause
cause_files a b files walks NoMemory each cause = tt

pub cause_of : {A : Type 0} (a b : DiskState) (files : List RowFile) (walks : List RowFileWalk)
    (result : Result A SourceFault) → Each2 IsWalkOf files walks
    → IfErr result (HasCause (any_reads walk_reads walks) a b)
    → IfErr result (HasCause (any_file files) a b)
cause_of a b files walks result each = IfErr-weaker result _ _
    (λ fault cause. cause_files a b files walks fault each cause)

-- ---- between two steps

-- it is under way over any walks of its files
pub under_of : (s : DiskState) (files : List RowFile) (merging : FileMerge)
    (merge : Merge RowFileWalk) (taken left : RowList) → MergeStands s files merging taken left
    → Each2 IsWalkOf files merge.sources.items
    → IsUnderWay (merge_holds walk_holds) (merge_reads walk_reads) WritesRows writer_writes s merging.job
    merge merging.writer taken left
under_of s files merging merge taken left stands walks = record {
  rows = all_rows stands.lists;
  holds = record {
    maps = stands.lists;
    each = walks_hold s files merge.sources.items stands.lists walks stands.reads;
    same = refl;
  };
  are = stands.are;
  at = stands.at;
  written = stands.written;
  apart = λ f r w.
      let here : f ≡ writer_file merging.writer = eqb-true f (writer_file merging.writer) w in
      let read : any_file files (writer_file merging.writer) ≡ true =
      subst (λ g. any_file files g ≡ true) here
      (sym (walks_read files merge.sources.items walks f) ∙ r) in
      let f : ⊥ = cc (stands.apart) in
      f;
}

-- files that stay as they read still read as these rows
read_on : (a b : DiskState) (files : List RowFile) (lists : List RowMap)
    → SameFiles (any_file files) a b → ReadEach a files lists → ReadEach b files lists
read_on a b [] [] same reads = tt
read_on a b [] (m ∷ lists) same reads = absurd reads
read_on a b (file ∷ files) [] same reads = absurd reads
read_on a b (file ∷ files) (m ∷ lists) same reads = (
  reads_on a b file (entries m)
      (λ f r. same f (or_left (f == file_of file) (any_file files f) r)) reads.0,
  read_on a b files lists
      (λ f r. same f (or_right (f == file_of file) (any_file files f) r)) reads.1,
)

-- it stands while its files and the one that it writes stay as they read
pub stands_on : StaysApart
stands_on a b files merging taken left same stands = record {
  lists = stands.lists;
  reads = read_on a b files stands.lists
      (λ f r. same f (or_left (any_file files f) (f == writer_file merging.writer) r))
      stands.reads;
  are = stands.are;
  at = stands.at;
  written = writes_on a b merging.writer (compacted (purges merging.job) taken)
      (λ f r. same f (or_right (any_file files f) (f == writer_file merging.writer) r))
      stands.written;
  apart = stands.apart;
}

-- a writer of the same files has the same file
same_file : (v w : RowFileWriter) → writer_writes v ≡ writer_writes w → writer_file v ≡ writer_file w
same_file v w same = eqb-true (writer_file v) (writer_file w)
    (sym (ap (λ p. p (writer_file v)) same) ∙ itself (writer_file v))

-- after a step it stands
pub after_step : (a b : DiskState) (files : List RowFile) (merging later : FileMerge)
    (merge : Merge RowFileWalk) (taken left : RowList) (n : ℕ) → IsTrusted a
    → MergeStands a files merging taken left
    → MovesOnlyTouched (writer_writes merging.writer) a b
    → writer_writes later.writer ≡ writer_writes merging.writer
    → IsUnderWay (merge_holds walk_holds) (merge_reads walk_reads) WritesRows writer_writes b later.job
    merge later.writer (taken ++ take n left) (drop n left)
    → MergeStands b files later (taken ++ take n left) (drop n left)
after_step a b files merging later merge taken left n t stands moves files_same under = record {
  lists = stands.lists;
  reads = read_on a b files stands.lists
      (λ f r. (moves.others t).file f (λ w.
      let here : f ≡ writer_file merging.writer = eqb-true f (writer_file merging.writer) w in
      let read : any_file files (writer_file merging.writer) ≡ true =
      subst (λ g. any_file files g ≡ true) here r in
      let f : ⊥ = cc (stands.apart) in
      f))
      stands.reads;
  are = stands.are ∙ ap (λ l. taken ++ l) (sym (take-append-drop n left))
      ∙ sym (append_assoc taken (take n left) (drop n left));
  at = under.at;
  written = under.written;
  apart = ap (any_file files) (same_file later.writer merging.writer files_same) ∙ stands.apart;
}
