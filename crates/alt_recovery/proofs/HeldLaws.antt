-- Which rows the files of families hold, put together family by family.
use Rattle.std.proofs.Common.{◌≡◌, ◌==◌, ◌++◌, ◌∷◌, inl, inr, ℕ, Bool, true, false, cond, List, [], Option, Some, refl, sym, ap, subst, ◌∙◌, eqb-true}
use Rattle.std.specs.Prelude.{if◌then◌else◌}
use Rattle.std.specs.BTreeMap.{get}
use Rattle.std.specs.FinMap.{empty, entries}
use Rattle.std.specs.List.{AllByRecursion}
use Rattle.std.specs.Ordering.{nat_cmp, is_eq}
use Rattle.alt_base.proofs.Orderings.{is_eq-nat_cmp}
use Rattle.alt_disk.specs.Disk.{DiskState}
use Rattle.alt_disk.specs.Runs.{Quiet}
use Rattle.alt_families.specs.Families.{Families, files_in, rows_in}
use Rattle.alt_families.specs.declared.family.Family.{Family}
use Rattle.alt_layout.specs.Families.{Held, files_of}
use Rattle.alt_layout.specs.Files.{AreRowFiles, HoldsRows, Image}
use Rattle.alt_layout.specs.Flushes.{with_rows}
use Rattle.alt_layout.specs.Layout.{RowMap}
use Rattle.alt_layout.proofs.FileLaws.{in_either, row_files_on}
use Rattle.alt_layout.proofs.FlushLaws.{own_rows}
use Rattle.alt_layout.proofs.OneLayout.{same_file}
use Rattle.alt_manifest.specs.Versions.{IsIn, row_files}
use Rattle.alt_manifest.specs.declared.version.FamilyVersion.{FamilyVersion}
use Rattle.alt_manifest.proofs.Among.{in_back, in_front}
use Rattle.alt_rowfile.specs.InHand.{ReadsRows, file_of}
use Rattle.alt_rowfile.specs.declared.fault.RowFileFault.{RowFileFault}
use Rattle.alt_rowfile.specs.declared.fault.RowFileFault.TheVariants.{Damaged, DigestDiffers, Failed, NoMemory}
use Rattle.alt_rowfile.specs.declared.rowfile.RowFile.{RowFile}
use Rattle.alt_recovery.specs.Families.{AreOpenedFamilies, AreInHand, ExplainsFamilies}
use Rattle.alt_recovery.specs.Opening.{AreOpened, ExplainsOpening, IsOpened}
use Rattle.alt_recovery.proofs.NumberLaws.{get_empty}
use Rattle.alt_recovery.proofs.OpenLaws.{reads_while}

-- ---- what a file holds

-- a file that was opened holds its rows
opened_holds : (s : DiskState) (flushed g : ℕ) (f : RowFile) (m : RowMap) → IsOpened s flushed g f m
    → HoldsRows m flushed (s.file g)
opened_holds s flushed g f m one = record {
  bytes = one.reads.bytes;
  there = subst (λ (n : ℕ). s.file n ≡ Some one.reads.bytes) one.named one.reads.there;
  rows = record {
    blocks = one.reads.as_file.blocks;
    file = one.reads.as_file.file;
    are = one.reads.as_file.are;
  };
  past = one.past;
}

-- the rows of one file more leave those that another is known to hold
with_rows-same : (image : Image) (held : Held) (g h x y : ℕ) (m : RowMap)
    → HoldsRows m x (image g) → HoldsRows (held h) y (image h) → with_rows held g m h ≡ held h
with_rows-same image held g h x y m this that = by_test (h == g) refl
  where
    by_test : (t : Bool) → (h == g) ≡ t → (if t then m else held h) ≡ held h
    by_test true is = same_file m (held h) x y (image h)
        (subst (λ (n : ℕ). HoldsRows m x (image n)) (sym (eqb-true h g is)) this) that
    by_test false is = refl

-- the rows of several files more
abbrev pub with_all : Held → List ℕ → List RowMap → Held
with_all held [] ms = held
with_all held (g ∷ gs) [] = held
with_all held (g ∷ gs) (m ∷ ms) = with_all (with_rows held g m) gs ms

-- they leave what a file is known to hold
with_all-same : (s : DiskState) (held : Held) (flushed : ℕ) (gs : List ℕ) (fs : List RowFile)
    (ms : List RowMap) (h y : ℕ) → AreOpened s flushed gs fs ms → HoldsRows (held h) y (s.file h)
    → with_all held gs ms h ≡ held h
with_all-same s held flushed [] [] [] h y are that = refl
with_all-same s held flushed [] [] (m ∷ ms) h y are that = absurd are
with_all-same s held flushed [] (f ∷ fs) ms h y are that = absurd are
with_all-same s held flushed (g ∷ gs) [] ms h y are that = absurd are
with_all-same s held flushed (g ∷ gs) (f ∷ fs) [] h y are that = absurd are
with_all-same s held flushed (g ∷ gs) (f ∷ fs) (m ∷ ms) h y are that =
    let first : with_rows held g m h ≡ held h = with_rows-same s.file held g h flushed y m
    (opened_holds s flushed g f m are.0) that in
    with_all-same s (with_rows held g m) flushed gs fs ms h y are.1
    (subst (λ (n : RowMap). HoldsRows n y (s.file h)) (sym first) that) ∙ first

-- and each of them holds its own
with_all-hold : (s : DiskState) (held : Held) (flushed : ℕ) (gs : List ℕ) (fs : List RowFile)
    (ms : List RowMap) → AreOpened s flushed gs fs ms
    → AllByRecursion (λ g. HoldsRows (with_all held gs ms g) flushed (s.file g)) gs
    × AreInHand s (with_all held gs ms) gs fs
with_all-hold s held flushed [] [] [] are = (tt, tt)
with_all-hold s held flushed [] [] (m ∷ ms) are = absurd are
with_all-hold s held flushed [] (f ∷ fs) ms are = absurd are
with_all-hold s held flushed (g ∷ gs) [] ms are = absurd are
with_all-hold s held flushed (g ∷ gs) (f ∷ fs) [] are = absurd are
with_all-hold s held flushed (g ∷ gs) (f ∷ fs) (m ∷ ms) are =
    let this : HoldsRows m flushed (s.file g) = opened_holds s flushed g f m are.0 in
    let own : with_rows held g m g ≡ m = own_rows held g m in
    let there : with_all (with_rows held g m) gs ms g ≡ m =
    with_all-same s (with_rows held g m) flushed gs fs ms g flushed are.1
    (subst (λ (n : RowMap). HoldsRows n flushed (s.file g)) (sym own) this) ∙ own in
    let rest = with_all-hold s (with_rows held g m) flushed gs fs ms are.1 in (
      (subst (λ (n : RowMap). HoldsRows n flushed (s.file g)) (sym there) this, rest.0),
      (
        are.0.named,
        subst (λ (n : RowMap). ReadsRows s f (entries n)) (sym there) are.0.reads,
        rest.1,
      ),
    )

-- ---- families

-- a file holds rows up to a number
record HoldsSome (held : Held) (image : Image) (g : ℕ) : Type 0 where
  pub flushed : ℕ
  pub holds : HoldsRows (held g) flushed (image g)

-- so does each row file of families
each_holds : (image : Image) (held : Held) (fs : List FamilyVersion) (g : ℕ)
    → AllByRecursion (AreRowFiles image held) fs → IsIn (row_files fs) g → HoldsSome held image g
each_holds image held [] g are there = absurd there
each_holds image held (f ∷ fs) g are there = in_either f.files (row_files fs) g
    (λ here. one f.files are.0 here) (λ later. each_holds image held fs g are.1 later) there
  where
    one : (gs : List ℕ) → AllByRecursion (λ h. HoldsRows (held h) f.flushed (image h)) gs
        → IsIn gs g → HoldsSome held image g
    one [] are there = absurd there
    one (h ∷ gs) are (inl same) = record {
      flushed = f.flushed;
      holds = subst (λ (n : ℕ). HoldsRows (held n) f.flushed (image n)) (sym same) are.0;
    }
    one (h ∷ gs) are (inr later) = one gs are.1 later

-- a file of one family is one of the row files
in_row_files : (fs : List FamilyVersion) (family g : ℕ) → IsIn (files_of fs family) g
    → IsIn (row_files fs) g
in_row_files [] family g there = absurd there
in_row_files (f ∷ fs) family g there = by_test (f.family == family) (in_row_files fs family g) there
  where
    by_test : (t : Bool) → (IsIn (files_of fs family) g → IsIn (row_files fs) g)
        → IsIn (if t then f.files else files_of fs family) g → IsIn (f.files ++ row_files fs) g
    by_test true rest there = in_front f.files (row_files fs) g there
    by_test false rest there = in_back f.files (row_files fs) g (rest there)

-- families hold what they held where their files are said to
families_same : (image : Image) (held more : Held) (fs : List FamilyVersion)
    → ((g : ℕ) → IsIn (row_files fs) g → more g ≡ held g)
    → AllByRecursion (AreRowFiles image held) fs → AllByRecursion (AreRowFiles image more) fs
families_same image held more [] rows are = tt
families_same image held more (f ∷ fs) rows are = (
  row_files_on image image held more f (λ g there. refl)
      (λ g there. rows g (in_front f.files (row_files fs) g there)) are.0,
  families_same image held more fs
      (λ g there. rows g (in_back f.files (row_files fs) g there)) are.1,
)

-- so are files in hand
hand_same : (s : DiskState) (held more : Held) (gs : List ℕ) (fs : List RowFile)
    → ((g : ℕ) → IsIn gs g → more g ≡ held g) → AreInHand s held gs fs → AreInHand s more gs fs
hand_same s held more [] [] rows are = tt
hand_same s held more [] (f ∷ fs) rows are = absurd are
hand_same s held more (g ∷ gs) [] rows are = absurd are
hand_same s held more (g ∷ gs) (f ∷ fs) rows are = (
  are.0,
  subst (λ (m : RowMap). ReadsRows s f (entries m)) (sym (rows g (inl refl))) are.1,
  hand_same s held more gs fs (λ h there. rows h (inr there)) are.2,
)

-- files in hand read as they read while nothing changes
hand_quiet : (a b : DiskState) (held : Held) (gs : List ℕ) (fs : List RowFile) → Quiet a b
    → AreInHand a held gs fs → AreInHand b held gs fs
hand_quiet a b held [] [] quiet are = tt
hand_quiet a b held [] (f ∷ fs) quiet are = absurd are
hand_quiet a b held (g ∷ gs) [] quiet are = absurd are
hand_quiet a b held (g ∷ gs) (f ∷ fs) quiet are = (
  are.0,
  reads_while a b f (entries (held g)) (quiet.file (file_of f)) are.1,
  hand_quiet a b held gs fs quiet are.2,
)

-- so do families
pub families_quiet : (a b : DiskState) (held : Held) (fs : List FamilyVersion) (opened : Families)
    → Quiet a b → AreOpenedFamilies a held fs opened → AreOpenedFamilies b held fs opened
families_quiet a b held fs opened quiet are = record {
  files = subst (λ (image : Image). AllByRecursion (AreRowFiles image held) fs)
      (λ i g. sym (quiet.file g) i) are.files;
  open_files = λ family. hand_quiet a b held (files_of fs family)
      (files_in (get nat_cmp opened family)) quiet (are.open_files family);
  none = are.none;
}

-- no family yet
pub families_none : (s : DiskState) (held : Held) (opened : Families) → opened.entries ≡ []
    → AreOpenedFamilies s held [] opened
families_none s held opened is = record {
  files = tt;
  open_files = λ family. subst (λ (o : Option Family). AreInHand s held [] (files_in o))
      (sym (get_empty opened is family)) tt;
  none = λ family. ap rows_in (get_empty opened is family);
}

-- one family more, at the front
pub families_more : (s : DiskState) (held : Held) (fs : List FamilyVersion) (f : FamilyVersion)
    (old new : Families) (family : Family) (ms : List RowMap) → AreOpenedFamilies s held fs old
    → AreOpened s f.flushed f.files family.files.items ms → family.table.0 ≡ empty
    → ((q : ℕ) → get nat_cmp new q
    ≡ cond (is_eq (nat_cmp f.family q)) (Some family) (get nat_cmp old q))
    → AreOpenedFamilies s (with_all held f.files ms) (f ∷ fs) new
families_more s held fs f old new family ms are opened bare put =
    let own = with_all-hold s held f.flushed f.files family.files.items ms opened in record {
      files = (
        own.0,
        families_same s.file held (with_all held f.files ms) fs same are.files,
      );
      open_files = λ q. by_open q (f.family == q) (found q) own.1;
      none = λ q. by_none q (f.family == q) (found q);
    }
  where
    same : (g : ℕ) → IsIn (row_files fs) g → with_all held f.files ms g ≡ held g
    same g there = let some = each_holds s.file held fs g are.files there in
        with_all-same s held f.flushed f.files family.files.items ms g some.flushed opened some.holds

    found : (q : ℕ) → get nat_cmp new q ≡ cond (f.family == q) (Some family) (get nat_cmp old q)
    found q = put q ∙ ap (λ b. cond b (Some family) (get nat_cmp old q)) (is_eq-nat_cmp f.family q)

    by_open : (q : ℕ) (t : Bool) → get nat_cmp new q ≡ cond t (Some family) (get nat_cmp old q)
        → AreInHand s (with_all held f.files ms) f.files family.files.items
        → AreInHand s (with_all held f.files ms) (if t then f.files else files_of fs q)
        (files_in (get nat_cmp new q))
    by_open q true is own = subst (λ (o : Option Family).
        AreInHand s (with_all held f.files ms) f.files (files_in o)) (sym is) own
    by_open q false is own = subst (λ (o : Option Family).
        AreInHand s (with_all held f.files ms) (files_of fs q) (files_in o)) (sym is)
        (hand_same s held (with_all held f.files ms) (files_of fs q) (files_in (get nat_cmp old q))
        (λ g there. same g (in_row_files fs q g there)) (are.open_files q))

    by_none : (q : ℕ) (t : Bool) → get nat_cmp new q ≡ cond t (Some family) (get nat_cmp old q)
        → rows_in (get nat_cmp new q) ≡ empty
    by_none q true is = ap rows_in is ∙ bare
    by_none q false is = ap rows_in is ∙ are.none q

-- The last families so far were opened.
pub record FamiliesSoFar (s : DiskState) (fs : List FamilyVersion) (opened : Families) : Type 0 where
  pub held : Held
  pub are : AreOpenedFamilies s held fs opened

-- ---- one that wasn't

-- a fault of a family's files
pub family_explains : (image other : Image) (fs before behind : List FamilyVersion)
    (f : FamilyVersion) (fault : RowFileFault) → fs ≡ before ++ f ∷ behind
    → ((g : ℕ) → other g ≡ image g) → ExplainsOpening other f.files f.flushed fault
    → ExplainsFamilies image fs fault
family_explains image other fs before behind f (Damaged g at) is same h = record {
  before = before;
  family = f;
  behind = behind;
  is = is;
  told = subst (λ (files : Image). ExplainsOpening files f.files f.flushed (Damaged g at))
      (λ i n. same n i) h;
}
family_explains image other fs before behind f (DigestDiffers g kept found) is same h = record {
  before = before;
  family = f;
  behind = behind;
  is = is;
  told = subst (λ (files : Image). ExplainsOpening files f.files f.flushed
      (DigestDiffers g kept found)) (λ i n. same n i) h;
}
family_explains image other fs before behind f Failed is same h = tt
family_explains image other fs before behind f NoMemory is same h = tt
