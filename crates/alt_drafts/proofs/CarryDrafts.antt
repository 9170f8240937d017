-- A merge under way, carried over the steps of a draft of the next version.
use Rattle.std.proofs.Common.{◌≡◌, ◌≢◌, ◌≤◌, ◌<◌, ◌+◌, ◌-◌, ⊎_elim, inl, inr, ℕ, List, [], ◌∷◌, ◌++◌, length, drop, Option, refl, sym, ap, subst, ◌∙◌, arith, append_assoc, length-append, Bool, true, false}
use Rattle.std.proofs.lemmas.List.{append-nil, drop-append-le, take-append-le}
use Rattle.std.specs.Prelude.{◌⊎◌, ◌==◌, if◌then◌else◌, Result, Ok, Err, IfOk, OnOk}
use Rattle.std.specs.BTreeMap.{get}
use Rattle.std.specs.FinMap.{empty, entries}
use Rattle.std.specs.List.{AllByRecursion}
use Rattle.std.specs.Ordering.{nat_cmp}
use Rattle.alt_disk.specs.Disk.{DiskState}
use Rattle.alt_disk.specs.Runs.{Run}
use Rattle.alt_fields.proofs.Apart.{all_append, all_front}
use Rattle.alt_flush.specs.Drafts.{kept_before, over_new_log, with_files, with_flush, without_family}
use Rattle.alt_flush.proofs.DraftLaws.{old_file}
use Rattle.alt_flush.proofs.DropLaws.{named_without, none-other}
use Rattle.alt_flush.proofs.NewLogLaws.{named_new_log}
use Rattle.alt_layout.specs.Families.{files_of, flushed_of}
use Rattle.alt_layout.specs.Files.{all_of}
use Rattle.alt_layout.specs.Layout.{Layout}
use Rattle.alt_layout.specs.Merges.{IsMapFrom}
use Rattle.alt_layout.proofs.FileLaws.{in_either}
use Rattle.alt_layout.proofs.FlushedFiles.{IsPut, flushed_of-own, of-other, put_file}
use Rattle.alt_layout.proofs.MergeLaws.{none_from, with_later-behind}
use Rattle.alt_layout.proofs.MomentLaws.{same_or_not}
use Rattle.alt_manifest.specs.Versions.{IsFamily, IsIn, files_named, row_files}
use Rattle.alt_manifest.specs.declared.version.FamilyVersion.{FamilyVersion}
use Rattle.alt_manifest.specs.declared.version.Version.{Version}
use Rattle.alt_rowfile.specs.InHand.{file_of as row_file, StandsForRows as RowFileStands}
use Rattle.alt_rowfile.specs.declared.rowfile.RowFile.{RowFile}
use Rattle.alt_writes.specs.Writes.{Write}
use Rattle.alt_families.specs.Families.{Families, files_in, rows_in}
use Rattle.alt_families.specs.declared.family.Family.{Family}
use Rattle.alt_drafts.specs.Carrying.{AreStill, CarriesDraft}
use Rattle.alt_drafts.specs.Drafting.{AreDead, Makes, without_families}
use Rattle.alt_drafts.specs.Merging.{IsLater, IsOlder, MayEnd}
use Rattle.alt_drafts.proofs.StillLaws.{each_on, may_end_on}
use Rattle.alt_drafts.proofs.MakesLaws.{named_of}
use Rattle.alt_drafts.proofs.MergingLaws.{one_map, open_count}
use Rattle.alt_manifest.proofs.Among.{in_back, in_front}

-- ---- no step, and one behind another

pub all_still : (s : DiskState) (fs : List RowFile) → AreStill s s fs
all_still s [] = tt
all_still s (f ∷ fs) = (refl, all_still s fs)

pub still_then : (a b c : DiskState) (fs : List RowFile) → AreStill a b fs → AreStill b c fs → AreStill a c fs
still_then a b c [] first later = tt
still_then a b c (f ∷ fs) first later = (later.0 ∙ first.0, still_then a b c fs first.1 later.1)

pub carries_same : (s : DiskState) (u : Version) (o : Option Family) (family : ℕ)
    → CarriesDraft s s u u o o family
carries_same s u o family = record {
  more = [];
  files = sym (append-nil (files_in o));
  still = all_still s (files_in o);
  merging = λ taken number file may. may;
}

pub carries_then : (a b c : DiskState) (u v w : Version) (o p q : Option Family) (family : ℕ)
    → CarriesDraft a b u v o p family → CarriesDraft b c v w p q family
    → CarriesDraft a c u w o q family
carries_then a b c u v w o p q family first later = record {
  more = first.more ++ later.more;
  files = later.files ∙ ap (λ fs. fs ++ later.more) first.files
      ∙ append_assoc (files_in o) first.more later.more;
  still = still_then a b c (files_in o) first.still
      (all_front (λ f. c.file (row_file f) ≡ b.file (row_file f)) (files_in o) first.more
      (subst (AreStill b c) first.files later.still));
  merging = λ taken number file may. later.merging taken number file
      (first.merging taken number file may);
}

-- ---- families that aren't live

-- one left out changes nothing of another
carries_without : (s : DiskState) (u : Version) (o : Option Family) (dead family : ℕ)
    → family ≢ dead → CarriesDraft s s u (without_family u dead) o o family
carries_without s u o dead family apart = record {
  more = [];
  files = sym (append-nil (files_in o));
  still = all_still s (files_in o);
  merging = λ taken number file may. record {
    some = may.some;
    enough = may.enough;
    two = may.two;
    below = may.below;
    new = λ there. may.new (named_without u dead file there);
    older = may.older;
    later = may.later;
    reached = subst (λ n. number ≤ n) (sym (none-other (λ (f : FamilyVersion). f.flushed) dead
        (u.next_number - 1) family 0 (λ fs. flushed_of fs family) refl (λ f fs. refl) apart u.families))
        may.reached;
  };
}

pub carries_without_all : (s : DiskState) (u : Version) (o : Option Family) (dead : List ℕ)
    (family : ℕ) → (IsIn dead family → ⊥) → CarriesDraft s s u (without_families u dead) o o family
carries_without_all s u o [] family out = carries_same s u o family
carries_without_all s u o (d ∷ dead) family out =
    carries_then s s s u (without_family u d) (without_families (without_family u d) dead) o o o family
    (carries_without s u o d family (λ e. out (inl e)))
    (carries_without_all s (without_family u d) o dead family (λ there. out (inr there)))

-- So a call that leaves out all that aren't live carries merges of those that are.
pub carries_left_out : {E : Type 0} → (r : Result Version E) (draft : Version)
    (old new : Families) (live dead : List ℕ) → AreDead live dead
    → IfOk r (λ u. u ≡ without_families draft dead)
    → OnOk r ((family : ℕ) → (IsIn dead family → ⊥)
    → get nat_cmp new family ≡ get nat_cmp old family)
    → IfOk r (λ u. (s : DiskState) (family : ℕ) → IsIn live family
    → CarriesDraft s s draft u (get nat_cmp old family) (get nat_cmp new family) family)
carries_left_out (Ok u) draft old new live dead are is stay = λ s family there.
    let out : IsIn dead family → ⊥ = λ gone. are family gone there in
    subst (λ (v : Version). CarriesDraft s s draft v (get nat_cmp old family)
    (get nat_cmp new family) family) (sym is)
    (subst (λ o. CarriesDraft s s draft (without_families draft dead) (get nat_cmp old family) o family)
    (sym (stay family out))
    (carries_without_all s draft (get nat_cmp old family) dead family out))
carries_left_out (Err fault) draft old new live dead are is stay = tt

-- ---- a family flushed

-- what a list with one more has, the list has, or it is that one
in_put : (xs ys : List ℕ) (n f : ℕ) → IsPut xs ys n → IsIn ys f → IsIn xs f ⊎ (f ≡ n)
in_put xs ys n f put there = in_either put.front (n ∷ put.back) f
    (λ front. inl (subst (λ zs. IsIn zs f) (sym put.before) (in_front put.front put.back f front)))
    (λ rest. ⊎_elim (λ (e : f ≡ n). inr e)
    (λ (later : IsIn put.back f).
    inl (subst (λ zs. IsIn zs f) (sym put.before) (in_back put.front put.back f later))) rest)
    (subst (λ zs. IsIn zs f) put.after there)

-- the draft of a flush names its file, and what it named
named_flush : (u : Version) (family f : ℕ) → IsIn (files_named (with_flush u family)) f
    → IsIn (files_named u) f ⊎ (f ≡ u.next_file)
named_flush u family f there =
    let gs = row_files (with_flush u family).families in
    in_either u.segments gs f (λ front. inl (in_front u.segments (row_files u.families) f front))
    (λ back. ⊎_elim (λ (old : IsIn (row_files u.families) f).
    inl (in_back u.segments (row_files u.families) f old)) (λ (e : f ≡ u.next_file). inr e)
    (in_put (row_files u.families) gs u.next_file f
    (put_file family (u.next_number - 1) u.next_file u.families) back)) there

-- what is flushed of a family is below the next number
flushed_below : (next : ℕ) (fs : List FamilyVersion) (family : ℕ) → 0 < next
    → AllByRecursion (IsFamily next) fs → flushed_of fs family < next
flushed_below next [] family some are = some
flushed_below next (f ∷ fs) family some are =
    by_test (f.family == family) (flushed_below next fs family some are.1)
  where
    by_test : (t : Bool) → flushed_of fs family < next
        → (if t then f.flushed else flushed_of fs family) < next
    by_test true rest = are.0.flushed
    by_test false rest = rest

module _ (a b : DiskState) (u : Version) (families : Families) (parts : List (List Write))
    (l : Layout) (makes : Makes a u families parts l) (family : ℕ)
    (P : ℕ → Option (List ℕ) → Type 0) (run : Run a b u.next_file P) (made : RowFile)
    (made_is : row_file made ≡ u.next_file)
    (stands : RowFileStands b made (entries (rows_in (get nat_cmp families family))))
    (after : Families)
    (one_more : files_in (get nat_cmp after family)
    ≡ files_in (get nat_cmp families family) ++ made ∷ [])
    (others : (other : ℕ) → other ≢ family → get nat_cmp after other ≡ get nat_cmp families other)
  where
    abbrev w : Version
    w = with_flush u family

    -- files in hand read as they read
    still : (other : ℕ) → AreStill a b (files_in (get nat_cmp families other))
    still other = each_on a b makes.held (files_of u.families other)
        (files_in (get nat_cmp families other)) (λ g there. run.file g
        (old_file a b u makes.held parts P makes.drafted run g (named_of u other g there)))
        (makes.opened other)

    -- a merge's file is another one than the new one
    new : (file : ℕ) → file < u.next_file → (IsIn (files_named u) file → ⊥)
        → IsIn (files_named w) file → ⊥
    new file below out there = ⊎_elim out (λ (e : file ≡ u.next_file). omega (arith, below, e))
        (named_flush u family file there)

    -- the new file holds later writes alone
    behind : (number file : ℕ) → file < u.next_file → number ≤ flushed_of u.families family
        → IsLater b (number + 1) file made
    behind number file below reached = record {
      behind = omega (arith, below, made_is);
      rows = λ m reads. subst (IsMapFrom (number + 1))
          (sym (one_map b made m (rows_in (get nat_cmp families family)) reads stands.reads
          ∙ makes.memory family))
          (with_later-behind (flushed_of u.families family) family (number + 1) empty (all_of parts)
          (omega (arith, reached)) (none_from (number + 1)));
    }

    own : CarriesDraft a b u w (get nat_cmp families family) (get nat_cmp after family) family
    own = record {
      more = made ∷ [];
      files = one_more;
      still = still family;
      merging = λ taken number file may.
          let fs = files_in (get nat_cmp families family) in
          let on = may_end_on a b u fs family taken number file (still family) may in
          let enough = may.enough in let longer = length-append fs (made ∷ []) in
          let below = may.below in
          subst (λ gs. MayEnd b w gs family taken number file) (sym one_more) (record {
            some = may.some;
            enough = omega (arith, enough, longer);
            two = may.two;
            below = omega (arith, below);
            new = new file may.below may.new;
            older = subst (AllByRecursion (IsOlder b (number + 1) file))
                (sym (take-append-le taken fs (made ∷ []) may.enough)) on.older;
            later = subst (AllByRecursion (IsLater b (number + 1) file))
                (sym (drop-append-le taken fs (made ∷ []) may.enough))
                (all_append (IsLater b (number + 1) file) (drop taken fs) (made ∷ []) on.later
                (behind number file may.below may.reached, tt));
            reached = let top = flushed_of-own family (u.next_number - 1) u.next_file u.families in
                let first = makes.drafted.is.next_number.0 in
                let old = flushed_below u.next_number u.families family (omega (arith, first))
                makes.drafted.is.families in
                let reached = may.reached in omega (arith, top, old, reached);
          });
    }

    beside : (other : ℕ) → other ≢ family
        → CarriesDraft a b u w (get nat_cmp families other) (get nat_cmp after other) other
    beside other apart = record {
      more = [];
      files = ap files_in (others other apart)
          ∙ sym (append-nil (files_in (get nat_cmp families other)));
      still = still other;
      merging = λ taken number file may.
          let fs = files_in (get nat_cmp families other) in
          let on = may_end_on a b u fs other taken number file (still other) may in
          let below = may.below in
          subst (λ o. MayEnd b w (files_in o) other taken number file) (sym (others other apart))
          (record {
            some = may.some;
            enough = may.enough;
            two = may.two;
            below = omega (arith, below);
            new = new file may.below may.new;
            older = on.older;
            later = on.later;
            reached = subst (λ n. number ≤ n) (sym (of-other (λ (f : FamilyVersion). f.flushed) family
                (u.next_number - 1) u.next_file other 0 (λ fs. flushed_of fs other) refl (λ f fs. refl)
                apart u.families)) may.reached;
          });
    }

    -- A flush of one family carries merges of any.
    pub carries_flush : (other : ℕ)
        → CarriesDraft a b u w (get nat_cmp families other) (get nat_cmp after other) other
    carries_flush other = ⊎_elim
        (λ (same : other ≡ family). subst (λ k. CarriesDraft a b u w (get nat_cmp families k)
        (get nat_cmp after k) k) (sym same) own) (beside other) (same_or_not other family)

-- ---- a new segment

-- what is flushed of a family with files is known over it
flushed_kept : (fs : List FamilyVersion) (family : ℕ) → 0 < length (files_of fs family)
    → flushed_of (with_files fs) family ≡ flushed_of fs family
flushed_kept [] family some = refl
flushed_kept (f ∷ fs) family some = here f.files refl (f.family == family) refl
    (λ more. flushed_kept fs family more)
  where
    here : (gs : List ℕ) → f.files ≡ gs → (t : Bool) → (f.family == family) ≡ t
        → (0 < length (files_of fs family)
        → flushed_of (with_files fs) family ≡ flushed_of fs family)
        → flushed_of (kept_before f gs
        (with_files fs)) family
        ≡ (if f.family == family then f.flushed else flushed_of fs family)
    here [] e true same rest = absurd (let none : length (files_of (f ∷ fs) family) ≡ 0 =
        ap length (ap (λ t. if t then f.files else files_of fs family) same ∙ e) in
        let more = some in omega (arith, none, more))
    here [] e false same rest =
        let tail : files_of (f ∷ fs) family ≡ files_of fs family =
        ap (λ t. if t then f.files else files_of fs family) same in
        rest (subst (λ gs. 0 < length gs) tail some)
        ∙ sym (ap (λ t. if t then f.flushed else flushed_of fs family) same)
    here (g ∷ gs) e true same rest = ap (λ t. if t then f.flushed
        else flushed_of (with_files fs) family) same
        ∙ sym (ap (λ t. if t then f.flushed else flushed_of fs family) same)
    here (g ∷ gs) e false same rest =
        let tail : files_of (f ∷ fs) family ≡ files_of fs family =
        ap (λ t. if t then f.files else files_of fs family) same in
        ap (λ t. if t then f.flushed
        else flushed_of (with_files fs) family) same
        ∙ rest (subst (λ gs. 0 < length gs) tail some)
        ∙ sym (ap (λ t. if t then f.flushed else flushed_of fs family) same)

-- A draft over a new segment carries merges of any family.
pub carries_new_log : (a b : DiskState) (u : Version) (families : Families)
    (parts : List (List Write)) (l : Layout) → Makes a u families parts l
    → (P : ℕ → Option (List ℕ) → Type 0) → Run a b u.next_file P → (family : ℕ)
    → CarriesDraft a b u (over_new_log u) (get nat_cmp families family) (get nat_cmp families family)
    family
carries_new_log a b u families parts l makes P run family =
    let o = get nat_cmp families family in
    let still : AreStill a b (files_in o) = each_on a b makes.held (files_of u.families family)
    (files_in o) (λ g there. run.file g
    (old_file a b u makes.held parts P makes.drafted run g (named_of u family g there)))
    (makes.opened family) in
    record {
      more = [];
      files = sym (append-nil (files_in o));
      still = still;
      merging = λ taken number file may.
          let on = may_end_on a b u (files_in o) family taken number file still may in
          let below = may.below in let some = may.some in let enough = may.enough in
          let count = open_count a makes.held (files_of u.families family) (files_in o)
          (makes.opened family) in
          record {
            some = may.some;
            enough = may.enough;
            two = may.two;
            below = omega (arith, below);
            new = λ there. ⊎_elim (λ (e : file ≡ u.next_file). omega (arith, below, e))
                (λ (row : IsIn (row_files u.families) file). may.new
                (in_back u.segments (row_files u.families) file row)) (named_new_log u file there);
            older = on.older;
            later = on.later;
            reached = subst (λ n. number ≤ n) (sym (flushed_kept u.families family
                (omega (arith, some, enough, count)))) may.reached;
          };
    }
