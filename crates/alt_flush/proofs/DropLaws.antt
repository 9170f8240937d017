-- A draft in which one family has no files: it is a version, its files hold what they held, and of its layout the rows of that family alone are gone.
use Rattle.std.proofs.Common.{◌≡◌, ◌≢◌, ◌<◌, ◌≤◌, ◌+◌, ◌-◌, ◌^◌, ⊎_elim, inl, inr, ℕ, Bool, true, false, List, [], ◌∷◌, ◌++◌, refl, sym, ap, subst, ◌∙◌, arith, append_assoc, eqb-true, eq-eqb}
use Rattle.std.proofs.lemmas.Bool.Decides.{nat_tests}
use Rattle.std.specs.Prelude.{◌==◌, if◌then◌else◌, nat_lt}
use Rattle.std.specs.FinMap.{empty}
use Rattle.std.specs.List.{AllByRecursion}
use Rattle.alt_fields.proofs.Apart.{all_append, all_front, all_back}
use Rattle.alt_writes.specs.Writes.{Write}
use Rattle.alt_manifest.specs.Versions.{AreDistinct, IsIn, IsFamily, IsVersion, RiseFrom, files_named, numbers_of, row_files}
use Rattle.alt_manifest.specs.declared.version.FamilyVersion.{FamilyVersion}
use Rattle.alt_manifest.specs.declared.version.Version.{Version}
use Rattle.alt_layout.specs.Families.{Held, flushed_of, files_of, with_later, next_after, family_rows, joined_files}
use Rattle.alt_layout.specs.Files.{Image, AreRowFiles, Stored}
use Rattle.alt_layout.proofs.RowLaws.{with_later-none}
use Rattle.alt_layout.proofs.FlushLaws.{count_numbers, numbers_fit, rise_count}
use Rattle.alt_layout.proofs.FlushedFiles.{differs}
use Rattle.alt_flush.specs.Drafts.{with_none, without_family}

-- ---- the families

-- it has no files
pub files_of-none : (family flushed : ℕ) (fs : List FamilyVersion) → RiseFrom 0 (numbers_of fs)
    → files_of (with_none family flushed fs) family ≡ []
files_of-none family flushed fs rising = within 0 fs rising
  where
    here : (f : FamilyVersion) (fs : List FamilyVersion) (t u : Bool) → (f.family == family) ≡ t
        → files_of (with_none family flushed fs) family ≡ []
        → files_of (if t
        then record { family = f.family; flushed = flushed; files = [] } ∷ fs
        else (if u
        then record { family = family; flushed = flushed; files = [] } ∷ f ∷ fs
        else f ∷ with_none family flushed fs)) family ≡ []
    here f fs true u same rest = ap (λ t. if t then [] else files_of fs family) same
    here f fs false true same rest =
        ap (λ t. if t then [] else (if f.family == family then f.files else files_of fs family))
        (eq-eqb family family refl)
    here f fs false false same rest =
        ap (λ t. if t then f.files else files_of (with_none family flushed fs) family) same ∙ rest

    within : (least : ℕ) (fs : List FamilyVersion) → RiseFrom least (numbers_of fs)
        → files_of (with_none family flushed fs) family ≡ []
    within least [] rising = ap (λ t. if t then [] else []) (eq-eqb family family refl)
    within least (f ∷ fs) rising = here f fs (f.family == family) (nat_lt family f.family) refl
        (within (f.family + 1) fs rising.1)

-- and is flushed up to that number
pub flushed_of-none : (family flushed : ℕ) (fs : List FamilyVersion)
    → flushed_of (with_none family flushed fs) family ≡ flushed
flushed_of-none family flushed [] =
    ap (λ t. if t then flushed else 0) (eq-eqb family family refl)
flushed_of-none family flushed (f ∷ fs) =
    here (f.family == family) (nat_lt family f.family) refl (flushed_of-none family flushed fs)
  where
    here : (t u : Bool) → (f.family == family) ≡ t
        → flushed_of (with_none family flushed fs) family ≡ flushed
        → flushed_of (if t
        then record { family = f.family; flushed = flushed; files = [] } ∷ fs
        else (if u
        then record { family = family; flushed = flushed; files = [] } ∷ f ∷ fs
        else f ∷ with_none family flushed fs)) family ≡ flushed
    here true u same rest = ap (λ t. if t then flushed else flushed_of fs family) same
    here false true same rest =
        ap (λ t. if t then flushed else (if f.family == family then f.flushed else flushed_of fs family))
        (eq-eqb family family refl)
    here false false same rest =
        ap (λ t. if t then f.flushed else flushed_of (with_none family flushed fs) family) same ∙ rest

-- another family is as it was
pub none-other : {X : Type 0} (pick : FamilyVersion → X) (family flushed other : ℕ) (none : X)
    (find : List FamilyVersion → X) → find [] ≡ none
    → ((f : FamilyVersion) (fs : List FamilyVersion)
    → find (f ∷ fs) ≡ (if f.family == other then pick f else find fs))
    → other ≢ family → (fs : List FamilyVersion) → find (with_none family flushed fs) ≡ find fs
none-other pick family flushed other none find nil cons not_it [] =
    cons (record { family = family; flushed = flushed; files = [] }) []
    ∙ ap (λ t. if t then pick (record { family = family; flushed = flushed; files = [] })
    else find []) (differs family other (λ e. not_it (sym e)))
none-other pick family flushed other none find nil cons not_it (f ∷ fs) =
    here (f.family == family) (nat_lt family f.family) refl
    (none-other pick family flushed other none find nil cons not_it fs)
  where
    here : (t u : Bool) → (f.family == family) ≡ t → find (with_none family flushed fs) ≡ find fs
        → find (if t
        then record { family = f.family; flushed = flushed; files = [] } ∷ fs
        else (if u
        then record { family = family; flushed = flushed; files = [] } ∷ f ∷ fs
        else f ∷ with_none family flushed fs)) ≡ find (f ∷ fs)
    here true u same rest =
        let apart : (f.family == other) ≡ false = differs f.family other
        (λ e. not_it (sym e ∙ eqb-true f.family family same)) in
        cons (record { family = f.family; flushed = flushed; files = [] }) fs
        ∙ ap (λ t. if t then pick (record { family = f.family; flushed = flushed; files = [] })
        else find fs) apart
        ∙ sym (cons f fs ∙ ap (λ t. if t then pick f else find fs) apart)
    here false true same rest =
        cons (record { family = family; flushed = flushed; files = [] }) (f ∷ fs)
        ∙ ap (λ t. if t then pick (record { family = family; flushed = flushed; files = [] })
        else find (f ∷ fs)) (differs family other (λ e. not_it (sym e)))
    here false false same rest =
        cons f (with_none family flushed fs)
        ∙ ap (λ x. if f.family == other then pick f else x) rest ∙ sym (cons f fs)

-- ---- the files that are named

-- a list with a part of it left out
pub record IsCut (xs ys : List ℕ) : Type 0 where
  pub front : List ℕ
  pub gone : List ℕ
  pub back : List ℕ
  pub before : xs ≡ front ++ (gone ++ back)
  pub after : ys ≡ front ++ back

cut_none : (family flushed : ℕ) (fs : List FamilyVersion)
    → IsCut (row_files fs) (row_files (with_none family flushed fs))
cut_none family flushed [] =
    record { front = []; gone = []; back = []; before = refl; after = refl }
cut_none family flushed (f ∷ fs) =
    here (f.family == family) (nat_lt family f.family) (cut_none family flushed fs)
  where
    here : (t u : Bool) → IsCut (row_files fs) (row_files (with_none family flushed fs))
        → IsCut (row_files (f ∷ fs)) (row_files (if t
        then record { family = f.family; flushed = flushed; files = [] } ∷ fs
        else (if u
        then record { family = family; flushed = flushed; files = [] } ∷ f ∷ fs
        else f ∷ with_none family flushed fs)))
    here true u rest = record {
      front = [];
      gone = f.files;
      back = row_files fs;
      before = refl;
      after = refl;
    }
    here false true rest = record {
      front = [];
      gone = [];
      back = row_files (f ∷ fs);
      before = refl;
      after = refl;
    }
    here false false rest = record {
      front = f.files ++ rest.front;
      gone = rest.gone;
      back = rest.back;
      before = ap (λ x. f.files ++ x) rest.before
          ∙ sym (append_assoc f.files rest.front (rest.gone ++ rest.back));
      after = ap (λ x. f.files ++ x) rest.after
          ∙ sym (append_assoc f.files rest.front rest.back);
    }

cut_behind : (zs xs ys : List ℕ) → IsCut xs ys → IsCut (zs ++ xs) (zs ++ ys)
cut_behind zs xs ys cut = record {
  front = zs ++ cut.front;
  gone = cut.gone;
  back = cut.back;
  before = ap (λ x. zs ++ x) cut.before ∙ sym (append_assoc zs cut.front (cut.gone ++ cut.back));
  after = ap (λ x. zs ++ x) cut.after ∙ sym (append_assoc zs cut.front cut.back);
}

-- what is in what is left was in it
in_cut : (xs ys : List ℕ) (n : ℕ) → IsCut xs ys → IsIn ys n → IsIn xs n
in_cut xs ys n cut there = subst (λ zs. IsIn zs n) (sym cut.before)
    (parts cut.front (subst (λ zs. IsIn zs n) cut.after there))
  where
    behind : (gone : List ℕ) → IsIn cut.back n → IsIn (gone ++ cut.back) n
    behind [] there = there
    behind (x ∷ gone) there = inr (behind gone there)

    parts : (front : List ℕ) → IsIn (front ++ cut.back) n
        → IsIn (front ++ (cut.gone ++ cut.back)) n
    parts [] there = behind cut.gone there
    parts (x ∷ front) there = ⊎_elim (λ (e : n ≡ x). inl e)
        (λ (later : IsIn (front ++ cut.back) n). inr (parts front later)) there

-- distinct numbers stay distinct
distinct_cut : (xs ys : List ℕ) → IsCut xs ys → AreDistinct xs → AreDistinct ys
distinct_cut xs ys cut distinct = subst AreDistinct (sym cut.after)
    (parts cut.front (subst AreDistinct cut.before distinct))
  where
    behind : (gone : List ℕ) → AreDistinct (gone ++ cut.back) → AreDistinct cut.back
    behind [] distinct = distinct
    behind (x ∷ gone) distinct = behind gone distinct.1

    parts : (front : List ℕ) → AreDistinct (front ++ (cut.gone ++ cut.back))
        → AreDistinct (front ++ cut.back)
    parts [] distinct = behind cut.gone distinct
    parts (x ∷ front) distinct = (
      λ there. distinct.0 (in_cut (front ++ (cut.gone ++ cut.back)) (front ++ cut.back) x (record {
        front = front;
        gone = cut.gone;
        back = cut.back;
        before = refl;
        after = refl;
      }) there),
      parts front distinct.1,
    )

-- what holds of each holds of those that are left
all_cut : (P : ℕ → Type 0) (xs ys : List ℕ) → IsCut xs ys → AllByRecursion P xs
    → AllByRecursion P ys
all_cut P xs ys cut all = subst (AllByRecursion P) (sym cut.after)
    (let parts : AllByRecursion P (cut.front ++ (cut.gone ++ cut.back)) =
    subst (AllByRecursion P) cut.before all in
    all_append P cut.front cut.back (all_front P cut.front (cut.gone ++ cut.back) parts)
    (all_back P cut.gone cut.back (all_back P cut.front (cut.gone ++ cut.back) parts)))

-- ---- it is a version

rising_none : (family flushed least : ℕ) (fs : List FamilyVersion) → least ≤ family
    → RiseFrom least (numbers_of fs) → RiseFrom least (numbers_of (with_none family flushed fs))
rising_none family flushed least [] low rising = (low, tt)
rising_none family flushed least (f ∷ fs) low rising =
    here (f.family == family) (nat_lt family f.family) refl refl
    (λ above. rising_none family flushed (f.family + 1) fs above rising.1)
  where
    here : (t u : Bool) → (f.family == family) ≡ t → nat_lt family f.family ≡ u
        → (f.family + 1 ≤ family
        → RiseFrom (f.family + 1) (numbers_of (with_none family flushed fs)))
        → RiseFrom least (numbers_of (if t
        then record { family = f.family; flushed = flushed; files = [] } ∷ fs
        else (if u
        then record { family = family; flushed = flushed; files = [] } ∷ f ∷ fs
        else f ∷ with_none family flushed fs)))
    here true u same below rest = rising
    here false true same below rest = (low, (grind (arith, nat_tests, below), rising.1))
    here false false same below rest =
        (rising.0, rest (grind (arith, nat_tests, below, same)))

families_none : (family flushed next : ℕ) (fs : List FamilyVersion) → family < 2 ^ 32
    → flushed < next → AllByRecursion (IsFamily next) fs
    → AllByRecursion (IsFamily next) (with_none family flushed fs)
families_none family flushed next [] fits low are =
    (record { family = fits; flushed = low; files = tt; count = omega arith }, tt)
families_none family flushed next (f ∷ fs) fits low are =
    here (f.family == family) (nat_lt family f.family) (families_none family flushed next fs fits low are.1)
  where
    here : (t u : Bool) → AllByRecursion (IsFamily next) (with_none family flushed fs)
        → AllByRecursion (IsFamily next) (if t
        then record { family = f.family; flushed = flushed; files = [] } ∷ fs
        else (if u
        then record { family = family; flushed = flushed; files = [] } ∷ f ∷ fs
        else f ∷ with_none family flushed fs))
    here true u rest =
        (record { family = are.0.family; flushed = low; files = tt; count = omega arith }, are.1)
    here false true rest =
        (record { family = fits; flushed = low; files = tt; count = omega arith }, are)
    here false false rest = (are.0, rest)

-- the files that it names were named
pub named_without : (u : Version) (family f : ℕ) → IsIn (files_named (without_family u family)) f
    → IsIn (files_named u) f
named_without u family f there = in_cut (files_named u) (files_named (without_family u family)) f
    (cut_behind u.segments (row_files u.families)
    (row_files (with_none family (u.next_number - 1) u.families))
    (cut_none family (u.next_number - 1) u.families)) there

-- The draft is a version.
pub without_is : (u : Version) (family : ℕ) → IsVersion u → family < 2 ^ 32
    → IsVersion (without_family u family)
without_is u family is fits =
    let flushed : ℕ = u.next_number - 1 in
    let more = with_none family flushed u.families in
    let first = is.next_number.0 in
    let cut = cut_behind u.segments (row_files u.families) (row_files more)
    (cut_none family flushed u.families) in
    let rising : RiseFrom 0 (numbers_of more) =
    rising_none family flushed 0 u.families (omega arith) is.rising in
    let families : AllByRecursion (IsFamily u.next_number) more =
    families_none family flushed u.next_number u.families fits (omega arith) is.families in
    record {
      next_file = is.next_file;
      next_number = is.next_number;
      some = is.some;
      segments = is.segments;
      count = is.count;
      rising = rising;
      families = families;
      families_count = omega (
        arith,
        rise_count 0 (2 ^ 32) (numbers_of more) (omega arith) rising
            (numbers_fit u.next_number more families),
        count_numbers more,
      );
      below = all_cut (λ f. f < u.next_file) (files_named u) (files_named (without_family u family)) cut
          is.below;
      differ = distinct_cut (files_named u) (files_named (without_family u family)) cut is.differ;
    }

-- Its files hold what they held.
pub without_stored : (image : Image) (u : Version) (family : ℕ) (held : Held)
    (parts : List (List Write)) → Stored image u held parts
    → Stored image (without_family u family) held parts
without_stored image u family held parts stored = record {
  files = files_none u.families stored.files;
  segments = stored.segments;
  writes = stored.writes;
  rising = stored.rising;
}
  where
    flushed : ℕ
    flushed = u.next_number - 1

    files_none : (fs : List FamilyVersion) → AllByRecursion (AreRowFiles image held) fs
        → AllByRecursion (AreRowFiles image held) (with_none family flushed fs)
    files_none [] are = (tt, tt)
    files_none (f ∷ fs) are = here (f.family == family) (nat_lt family f.family) (files_none fs are.1)
      where
        here : (t v : Bool)
            → AllByRecursion (AreRowFiles image held) (with_none family flushed fs)
            → AllByRecursion (AreRowFiles image held) (if t
            then record { family = f.family; flushed = flushed; files = [] } ∷ fs
            else (if v
            then record { family = family; flushed = flushed; files = [] } ∷ f ∷ fs
            else f ∷ with_none family flushed fs))
        here true v rest = (tt, are.1)
        here false true rest = (tt, are)
        here false false rest = (are.0, rest)

-- ---- its layout

-- The family has no rows.
pub without_rows : (u : Version) (family : ℕ) (held : Held) (ws : List Write) → IsVersion u
    → u.next_number ≡ next_after u.next_number ws
    → family_rows (without_family u family).families held ws family ≡ empty
without_rows u family held ws is top =
    let files = files_of-none family (u.next_number - 1) u.families is.rising in
    let flushed = flushed_of-none family (u.next_number - 1) u.families in
    let first = is.next_number.0 in
    (λ i. with_later (flushed i) family (joined_files held (files i)) ws)
    ∙ with_later-none (u.next_number - 1) family u.next_number empty ws (omega (arith, top, first))

-- Each other one has what it had.
pub without_others : (u : Version) (family other : ℕ) (held : Held) (ws : List Write)
    → other ≢ family → family_rows (without_family u family).families held ws other
    ≡ family_rows u.families held ws other
without_others u family other held ws apart = λ i.
    with_later (none-other (λ (f : FamilyVersion). f.flushed) family (u.next_number - 1) other 0
    (λ fs. flushed_of fs other) refl (λ f fs. refl) apart u.families i) other
    (joined_files held (none-other (λ (f : FamilyVersion). f.files) family (u.next_number - 1) other []
    (λ fs. files_of fs other) refl (λ f fs. refl) apart u.families i)) ws
