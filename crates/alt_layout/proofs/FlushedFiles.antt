-- The files of the families once one of them is flushed, and all that are named then.
use Rattle.std.proofs.Common.{◌≡◌, ◌≢◌, ◌<◌, ◌+◌, ⊎_elim, inl, inr, ℕ, Bool, true, false, List, [], ◌∷◌, ◌++◌, refl, sym, ap, subst, ◌∙◌, arith, append_assoc, eqb-true, eq-eqb}
use Rattle.std.proofs.lemmas.Bool.Decides.{nat_tests}
use Rattle.std.specs.Prelude.{◌⊎◌, ◌==◌, if◌then◌else◌, nat_lt}
use Rattle.std.specs.List.{AllByRecursion}
use Rattle.alt_fields.proofs.Apart.{all_append, all_front, all_back}
use Rattle.alt_manifest.specs.Versions.{AreDistinct, IsIn, RiseFrom, numbers_of, row_files}
use Rattle.alt_manifest.specs.declared.version.FamilyVersion.{FamilyVersion}
use Rattle.alt_layout.specs.Families.{flushed_of, files_of}
use Rattle.alt_layout.specs.Flushes.{with_file}

-- ---- the families

-- a test that is false
pub differs : (m n : ℕ) → m ≢ n → (m == n) ≡ false
differs m n other = by_test (m == n) refl
  where
    by_test : (t : Bool) → (m == n) ≡ t → (m == n) ≡ false
    by_test true e = absurd (other (eqb-true m n e))
    by_test false e = e

-- the files of the family, with the new one
pub files_of-own : (family flushed file : ℕ) (fs : List FamilyVersion)
    → RiseFrom 0 (numbers_of fs)
    → files_of (with_file family flushed file fs) family ≡ files_of fs family ++ file ∷ []
files_of-own family flushed file fs rising = within 0 fs rising
  where
    -- a family below all that are named isn't
    none : (least : ℕ) (fs : List FamilyVersion) → RiseFrom least (numbers_of fs)
        → family < least → files_of fs family ≡ []
    none least [] rising low = refl
    none least (f ∷ fs) rising low =
        ap (λ t. if t then f.files else files_of fs family) (differs f.family family
        (λ same. let first = rising.0 in omega arith))
        ∙ none (f.family + 1) fs rising.1 (let first = rising.0 in omega arith)

    here : (f : FamilyVersion) (fs : List FamilyVersion) (t u : Bool) → (f.family == family) ≡ t
        → nat_lt family f.family ≡ u → RiseFrom (f.family + 1) (numbers_of fs)
        → files_of (with_file family flushed file fs) family ≡ files_of fs family ++ file ∷ []
        → files_of (if t
        then record { family = f.family; flushed = flushed; files = f.files ++ file ∷ [] } ∷ fs
        else (if u
        then record { family = family; flushed = flushed; files = file ∷ [] } ∷ f ∷ fs
        else f ∷ with_file family flushed file fs)) family
        ≡ (if t then f.files else files_of fs family) ++ file ∷ []
    here f fs true u same low rising rest =
        ap (λ t. if t then f.files ++ file ∷ [] else files_of fs family) same
    here f fs false true same low rising rest =
        ap (λ t. if t then file ∷ [] else (if f.family == family then f.files else files_of fs family))
        (eq-eqb family family refl)
        ∙ ap (λ x. x ++ file ∷ []) (sym (none (f.family + 1) fs rising (grind (arith, nat_tests, low))))
    here f fs false false same low rising rest =
        ap (λ t. if t then f.files else files_of (with_file family flushed file fs) family) same
        ∙ rest

    within : (least : ℕ) (fs : List FamilyVersion) → RiseFrom least (numbers_of fs)
        → files_of (with_file family flushed file fs) family ≡ files_of fs family ++ file ∷ []
    within least [] rising = ap (λ t. if t then file ∷ [] else []) (eq-eqb family family refl)
    within least (f ∷ fs) rising = here f fs (f.family == family) (nat_lt family f.family) refl refl
        rising.1 (within (f.family + 1) fs rising.1)

-- and the number up to which they go
pub flushed_of-own : (family flushed file : ℕ) (fs : List FamilyVersion)
    → flushed_of (with_file family flushed file fs) family ≡ flushed
flushed_of-own family flushed file [] =
    ap (λ t. if t then flushed else 0) (eq-eqb family family refl)
flushed_of-own family flushed file (f ∷ fs) =
    here (f.family == family) (nat_lt family f.family) refl (flushed_of-own family flushed file fs)
  where
    here : (t u : Bool) → (f.family == family) ≡ t
        → flushed_of (with_file family flushed file fs) family ≡ flushed
        → flushed_of (if t
        then record { family = f.family; flushed = flushed; files = f.files ++ file ∷ [] } ∷ fs
        else (if u
        then record { family = family; flushed = flushed; files = file ∷ [] } ∷ f ∷ fs
        else f ∷ with_file family flushed file fs)) family ≡ flushed
    here true u same rest = ap (λ t. if t then flushed else flushed_of fs family) same
    here false true same rest =
        ap (λ t. if t then flushed else (if f.family == family then f.flushed else flushed_of fs family))
        (eq-eqb family family refl)
    here false false same rest =
        ap (λ t. if t then f.flushed else flushed_of (with_file family flushed file fs) family) same
        ∙ rest

-- another family is as it was
pub of-other : {X : Type 0} (pick : FamilyVersion → X) (family flushed file other : ℕ) (none : X)
    (find : List FamilyVersion → X) → find [] ≡ none
    → ((f : FamilyVersion) (fs : List FamilyVersion)
    → find (f ∷ fs) ≡ (if f.family == other then pick f else find fs))
    → other ≢ family → (fs : List FamilyVersion)
    → find (with_file family flushed file fs) ≡ find fs
of-other pick family flushed file other none find nil cons not_it [] =
    cons (record { family = family; flushed = flushed; files = file ∷ [] }) []
    ∙ ap (λ t. if t then pick (record { family = family; flushed = flushed; files = file ∷ [] })
    else find []) (differs family other (λ e. not_it (sym e)))
of-other pick family flushed file other none find nil cons not_it (f ∷ fs) =
    here (f.family == family) (nat_lt family f.family) refl
    (of-other pick family flushed file other none find nil cons not_it fs)
  where
    here : (t u : Bool) → (f.family == family) ≡ t
        → find (with_file family flushed file fs) ≡ find fs
        → find (if t
        then record { family = f.family; flushed = flushed; files = f.files ++ file ∷ [] } ∷ fs
        else (if u
        then record { family = family; flushed = flushed; files = file ∷ [] } ∷ f ∷ fs
        else f ∷ with_file family flushed file fs)) ≡ find (f ∷ fs)
    here true u same rest =
        let apart : (f.family == other) ≡ false = differs f.family other
        (λ e. not_it (sym e ∙ eqb-true f.family family same)) in
        cons (record { family = f.family; flushed = flushed; files = f.files ++ file ∷ [] }) fs
        ∙ ap (λ t. if t then pick (record {
          family = f.family;
          flushed = flushed;
          files = f.files ++ file ∷ [];
        }) else find fs) apart
        ∙ sym (cons f fs ∙ ap (λ t. if t then pick f else find fs) apart)
    here false true same rest =
        cons (record { family = family; flushed = flushed; files = file ∷ [] }) (f ∷ fs)
        ∙ ap (λ t. if t then pick (record { family = family; flushed = flushed; files = file ∷ [] })
        else find (f ∷ fs)) (differs family other (λ e. not_it (sym e)))
    here false false same rest =
        cons f (with_file family flushed file fs)
        ∙ ap (λ x. if f.family == other then pick f else x) rest ∙ sym (cons f fs)

-- ---- the files that are named

-- a list with one number put in somewhere
pub record IsPut (xs ys : List ℕ) (n : ℕ) : Type 0 where
  pub front : List ℕ
  pub back : List ℕ
  pub before : xs ≡ front ++ back
  pub after : ys ≡ front ++ n ∷ back

-- so are those of a version
pub put_file : (family flushed file : ℕ) (fs : List FamilyVersion)
    → IsPut (row_files fs) (row_files (with_file family flushed file fs)) file
put_file family flushed file [] = record { front = []; back = []; before = refl; after = refl }
put_file family flushed file (f ∷ fs) =
    here (f.family == family) (nat_lt family f.family) (put_file family flushed file fs)
  where
    here : (t u : Bool) → IsPut (row_files fs) (row_files (with_file family flushed file fs)) file
        → IsPut (row_files (f ∷ fs)) (row_files (if t
        then record { family = f.family; flushed = flushed; files = f.files ++ file ∷ [] } ∷ fs
        else (if u
        then record { family = family; flushed = flushed; files = file ∷ [] } ∷ f ∷ fs
        else f ∷ with_file family flushed file fs))) file
    here true u rest = record {
      front = f.files;
      back = row_files fs;
      before = refl;
      after = append_assoc f.files (file ∷ []) (row_files fs);
    }
    here false true rest = record {
      front = [];
      back = row_files (f ∷ fs);
      before = refl;
      after = refl;
    }
    here false false rest = record {
      front = f.files ++ rest.front;
      back = rest.back;
      before = ap (λ x. f.files ++ x) rest.before
          ∙ sym (append_assoc f.files rest.front rest.back);
      after = ap (λ x. f.files ++ x) rest.after
          ∙ sym (append_assoc f.files rest.front (file ∷ rest.back));
    }

-- what is in it is the number put in, or was in it
pub in_put : (xs ys : List ℕ) (n m : ℕ) → IsPut xs ys n → IsIn ys m → (m ≡ n) ⊎ IsIn xs m
in_put xs ys n m put there = subst (λ zs. (m ≡ n) ⊎ IsIn zs m) (sym put.before)
    (parts put.front put.back (subst (λ zs. IsIn zs m) put.after there))
  where
    parts : (front back : List ℕ) → IsIn (front ++ n ∷ back) m → (m ≡ n) ⊎ IsIn (front ++ back) m
    parts [] back there = there
    parts (x ∷ front) back there = ⊎_elim (λ (e : m ≡ x). inr (inl e))
        (λ (later : IsIn (front ++ n ∷ back) m). ⊎_elim (λ (e : m ≡ n). inl e)
        (λ (old : IsIn (front ++ back) m). inr (inr old)) (parts front back later)) there

-- distinct numbers with another one put in
pub distinct_put : (xs ys : List ℕ) (n : ℕ) → IsPut xs ys n → AreDistinct xs → (IsIn xs n → ⊥)
    → AreDistinct ys
distinct_put xs ys n put distinct new = subst AreDistinct (sym put.after)
    (parts put.front put.back (subst AreDistinct put.before distinct)
    (λ there. new (subst (λ zs. IsIn zs n) (sym put.before) there)))
  where
    parts : (front back : List ℕ) → AreDistinct (front ++ back) → (IsIn (front ++ back) n → ⊥)
        → AreDistinct (front ++ n ∷ back)
    parts [] back distinct new = (new, distinct)
    parts (x ∷ front) back distinct new = (
      (λ there. ⊎_elim (λ (e : x ≡ n). new (inl (sym e)))
          (λ (old : IsIn (front ++ back) x). distinct.0 old)
          (in_put (front ++ back) (front ++ n ∷ back) n x
          (record { front = front; back = back; before = refl; after = refl }) there)),
      parts front back distinct.1 (λ there. new (inr there)),
    )

-- what holds of each number and of the one put in
pub all_put : (P : ℕ → Type 0) (xs ys : List ℕ) (n : ℕ) → IsPut xs ys n → AllByRecursion P xs → P n
    → AllByRecursion P ys
all_put P xs ys n put all new = subst (AllByRecursion P) (sym put.after)
    (let parts : AllByRecursion P (put.front ++ put.back) =
    subst (AllByRecursion P) put.before all in
    all_append P put.front (n ∷ put.back) (all_front P put.front put.back parts)
    (new, all_back P put.front put.back parts))

-- behind other numbers
pub put_behind : (zs xs ys : List ℕ) (n : ℕ) → IsPut xs ys n → IsPut (zs ++ xs) (zs ++ ys) n
put_behind zs xs ys n put = record {
  front = zs ++ put.front;
  back = put.back;
  before = ap (λ x. zs ++ x) put.before ∙ sym (append_assoc zs put.front put.back);
  after = ap (λ x. zs ++ x) put.after ∙ sym (append_assoc zs put.front (n ∷ put.back));
}
