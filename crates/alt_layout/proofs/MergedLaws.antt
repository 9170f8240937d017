-- The version in which what was made of a family's oldest files stands in their place: it is a version, its files hold what they are to, and its layout
-- shows what the old one shows.
use Rattle.std.proofs.Common.{◌≡◌, ◌≢◌, ◌<◌, ◌+◌, ◌^◌, inl, inr, ℕ, Bool, true, false, List, [], ◌∷◌, ◌++◌, length, take, drop, refl, sym, ap, subst, ◌∙◌, arith, eqb-true, eq-eqb}
use Rattle.std.proofs.lemmas.Bool.{false≢true}
use Rattle.std.proofs.lemmas.List.{take-append-drop}
use Rattle.std.specs.Prelude.{◌⊎◌, ◌==◌, if◌then◌else◌, option_and_then}
use Rattle.std.specs.FinMap.{get}
use Rattle.std.specs.List.{AllByRecursion}
use Rattle.alt_cells.specs.Shown.{row_shown}
use Rattle.alt_fields.proofs.Apart.{all_append, all_back}
use Rattle.alt_writes.specs.Writes.{Write}
use Rattle.alt_manifest.specs.Versions.{IsIn, IsFamily, IsVersion, RiseFrom, files_named, numbers_of, row_files}
use Rattle.alt_manifest.specs.declared.version.FamilyVersion.{FamilyVersion}
use Rattle.alt_manifest.specs.declared.version.Version.{Version}
use Rattle.alt_layout.specs.Families.{Held, flushed_of, files_of, family_rows, layout_of}
use Rattle.alt_layout.specs.Files.{Image, AreRowFiles, HoldsRows, Stored, all_of}
use Rattle.alt_layout.specs.Merged.{MayReplace, ShowsSame, with_made, version_made}
use Rattle.alt_layout.proofs.FamilyLaws.{left_rows}
use Rattle.alt_layout.proofs.FileLaws.{families_on, row_files_on}
use Rattle.alt_layout.proofs.FlushLaws.{all_later, count_numbers, rise_count}
use Rattle.alt_layout.proofs.FlushedFiles.{differs}
use Rattle.alt_layout.proofs.FlushedLayout.{of_family}
use Rattle.alt_layout.proofs.MergeLaws.{merged_shown}
use Rattle.alt_layout.proofs.SwappedFiles.{IsSwapped, swap_files, swap_behind, in_swapped, all_swapped, distinct_swapped}
use Rattle.alt_manifest.proofs.Among.{in_back, in_front, rise_distinct}

-- ---- lists of numbers

-- what holds of each number in a list
all_in : (P : ℕ → Type 0) (xs : List ℕ) → ((n : ℕ) → IsIn xs n → P n) → AllByRecursion P xs
all_in P [] each = tt
all_in P (x ∷ xs) each = (each x (inl refl), all_in P xs (λ n there. each n (inr there)))

-- of the back of a list
all_drop : (P : ℕ → Type 0) (n : ℕ) (xs : List ℕ) → AllByRecursion P xs
    → AllByRecursion P (drop n xs)
all_drop P n xs all = all_back P (take n xs) (drop n xs)
    (subst (AllByRecursion P) (sym (take-append-drop n xs)) all)

-- the front of numbers that rise
rise_front : (least : ℕ) (xs ys : List ℕ) → RiseFrom least (xs ++ ys) → RiseFrom least xs
rise_front least [] ys rise = tt
rise_front least (x ∷ xs) ys rise = (rise.0, rise_front (x + 1) xs ys rise.1)

-- ---- the family

-- its files are those that were made and those since
pub files_made : (family taken : ℕ) (made : List ℕ) (fs : List FamilyVersion)
    → 0 < length (files_of fs family)
    → files_of (with_made family taken made fs) family ≡ made ++ drop taken (files_of fs family)
files_made family taken made [] some = absurd (omega (arith, some))
files_made family taken made (f ∷ fs) some =
    here (f.family == family) refl (files_made family taken made fs) some
  where
    here : (t : Bool) → (f.family == family) ≡ t
        → (0 < length (files_of fs family) → files_of (with_made family taken made fs) family
        ≡ made ++ drop taken (files_of fs family))
        → 0 < length (if t then f.files else files_of fs family)
        → files_of (if t
        then record { family = f.family; flushed = f.flushed; files = made ++ drop taken f.files } ∷ fs
        else f ∷ with_made family taken made fs) family
        ≡ made ++ drop taken (if t then f.files else files_of fs family)
    here true same rest some =
        ap (λ t. if t then made ++ drop taken f.files else files_of fs family) same
    here false same rest some =
        ap (λ t. if t then f.files else files_of (with_made family taken made fs) family) same
        ∙ rest some

-- what is flushed of any family stays
pub flushed_made : (family taken : ℕ) (made : List ℕ) (fs : List FamilyVersion) (other : ℕ)
    → flushed_of (with_made family taken made fs) other ≡ flushed_of fs other
flushed_made family taken made [] other = refl
flushed_made family taken made (f ∷ fs) other =
    here (f.family == family) (flushed_made family taken made fs other)
  where
    here : (t : Bool) → flushed_of (with_made family taken made fs) other ≡ flushed_of fs other
        → flushed_of (if t
        then record { family = f.family; flushed = f.flushed; files = made ++ drop taken f.files } ∷ fs
        else f ∷ with_made family taken made fs) other
        ≡ (if f.family == other then f.flushed else flushed_of fs other)
    here true rest = refl
    here false rest = ap (λ x. if f.family == other then f.flushed else x) rest

-- and so do the files of another one
pub files_made-other : (family taken : ℕ) (made : List ℕ) (fs : List FamilyVersion) (other : ℕ)
    → other ≢ family → files_of (with_made family taken made fs) other ≡ files_of fs other
files_made-other family taken made [] other apart = refl
files_made-other family taken made (f ∷ fs) other apart =
    here (f.family == family) refl (files_made-other family taken made fs other apart)
  where
    here : (t : Bool) → (f.family == family) ≡ t
        → files_of (with_made family taken made fs) other ≡ files_of fs other
        → files_of (if t
        then record { family = f.family; flushed = f.flushed; files = made ++ drop taken f.files } ∷ fs
        else f ∷ with_made family taken made fs) other
        ≡ (if f.family == other then f.files else files_of fs other)
    here true same rest =
        let not_it : (f.family == other) ≡ false = differs f.family other
        (λ e. apart (sym e ∙ eqb-true f.family family same)) in
        ap (λ t. if t then made ++ drop taken f.files else files_of fs other) not_it
        ∙ sym (ap (λ t. if t then f.files else files_of fs other) not_it)
    here false same rest = ap (λ x. if f.family == other then f.files else x) rest

-- the families are the same
numbers_made : (family taken : ℕ) (made : List ℕ) (fs : List FamilyVersion)
    → numbers_of (with_made family taken made fs) ≡ numbers_of fs
numbers_made family taken made [] = refl
numbers_made family taken made (f ∷ fs) =
    here (f.family == family) (numbers_made family taken made fs)
  where
    here : (t : Bool) → numbers_of (with_made family taken made fs) ≡ numbers_of fs
        → numbers_of (if t
        then record { family = f.family; flushed = f.flushed; files = made ++ drop taken f.files } ∷ fs
        else f ∷ with_made family taken made fs) ≡ f.family ∷ numbers_of fs
    here true rest = refl
    here false rest = ap (λ x. f.family ∷ x) rest

-- ---- it is a version

-- each family is one
families_made : (next family taken : ℕ) (made : List ℕ) (fs : List FamilyVersion)
    → AllByRecursion (IsFamily next) fs
    → RiseFrom 2 (made ++ drop taken (files_of fs family))
    → AllByRecursion (λ g. g < 2 ^ 32) (made ++ drop taken (files_of fs family))
    → AllByRecursion (IsFamily next) (with_made family taken made fs)
families_made next family taken made [] are rise below = tt
families_made next family taken made (f ∷ fs) are rise below =
    here (f.family == family) (families_made next family taken made fs are.1) rise below
  where
    here : (t : Bool) → (RiseFrom 2 (made ++ drop taken (files_of fs family))
        → AllByRecursion (λ g. g < 2 ^ 32) (made ++ drop taken (files_of fs family))
        → AllByRecursion (IsFamily next) (with_made family taken made fs))
        → RiseFrom 2 (made ++ drop taken (if t then f.files else files_of fs family))
        → AllByRecursion (λ g. g < 2 ^ 32) (made
        ++ drop taken (if t then f.files else files_of fs family))
        → AllByRecursion (IsFamily next) (if t
        then record { family = f.family; flushed = f.flushed; files = made ++ drop taken f.files } ∷ fs
        else f ∷ with_made family taken made fs)
    here true rest rise below = (
      record {
        family = are.0.family;
        flushed = are.0.flushed;
        files = rise;
        count = let few = rise_count 2 (2 ^ 32) (made ++ drop taken f.files) (omega arith) rise below in
            omega (arith, few);
      },
      are.1,
    )
    here false rest rise below = (are.0, rest rise below)

module _ (v : Version) (held more : Held) (family taken number : ℕ) (made : List ℕ)
    (is : IsVersion v) (may : MayReplace v held more family taken number made) where
  -- the family has files
  has_files : 0 < length (files_of v.families family)
  has_files = let some = may.some in let enough = may.enough in omega (arith, some, enough)

  swap : IsSwapped (files_named v) (files_named (version_made v family taken made))
      (take taken (files_of v.families family)) made
  swap = swap_behind v.segments (row_files v.families)
      (row_files (with_made family taken made v.families)) (take taken (files_of v.families family))
      made (swap_files family taken made v.families has_files)

  -- the files that the new version names are made, or were named
  pub named_made : (g : ℕ) → IsIn (files_named (version_made v family taken made)) g
      → IsIn made g ⊎ IsIn (files_named v) g
  named_made g there = in_swapped (files_named v) (files_named (version_made v family taken made))
      (take taken (files_of v.families family)) made g swap there

  -- Its files are those of the old version and what was made, so it is a version.
  pub version_made_is : IsVersion (version_made v family taken made)
  version_made_is =
      let fits = is.next_file in
      let old : AllByRecursion (λ g. g < 2 ^ 32) (files_of v.families family) =
      of_family (λ g. g < 2 ^ 32) v.families family
      (all_back (λ g. g < 2 ^ 32) v.segments (row_files v.families)
      (all_later (files_named v) v.next_file (2 ^ 32) (omega arith) is.below)) in
      let small : AllByRecursion (λ g. g < 2 ^ 32)
      (made ++ drop taken (files_of v.families family)) =
      all_append (λ g. g < 2 ^ 32) made (drop taken (files_of v.families family))
      (all_later made v.next_file (2 ^ 32) (omega arith) may.below)
      (all_drop (λ g. g < 2 ^ 32) taken (files_of v.families family) old) in
      record {
        next_file = is.next_file;
        next_number = is.next_number;
        some = is.some;
        segments = is.segments;
        count = is.count;
        rising = subst (RiseFrom 0) (sym (numbers_made family taken made v.families)) is.rising;
        families = families_made v.next_number family taken made v.families is.families may.rise small;
        families_count = let few = is.families_count in omega (
          arith,
          few,
          count_numbers v.families,
          count_numbers (with_made family taken made v.families),
          ap length (numbers_made family taken made v.families),
        );
        below = all_swapped (λ f. f < v.next_file) (files_named v)
            (files_named (version_made v family taken made))
            (take taken (files_of v.families family)) made swap is.below may.below;
        differ = distinct_swapped (files_named v) (files_named (version_made v family taken made))
            (take taken (files_of v.families family)) made swap is.differ
            (rise_distinct 2 made (rise_front 2 made (drop taken (files_of v.families family)) may.rise))
            may.new;
      }

  -- ---- what it stores

  -- the files of the family that were there hold the rows that they held
  stored_since : (image : Image) (f : FamilyVersion)
      → ((g : ℕ) → IsIn f.files g → more g ≡ held g) → AreRowFiles image held f
      → AllByRecursion (λ g. HoldsRows (more g) f.flushed (image g)) (drop taken f.files)
  stored_since image f same are = all_drop (λ g. HoldsRows (more g) f.flushed (image g)) taken
      f.files (row_files_on image image held more f (λ g there. refl) same are)

  -- the row files of the version
  files_stored : (image : Image) (fs : List FamilyVersion)
      → ((g : ℕ) → IsIn (row_files fs) g → more g ≡ held g)
      → AllByRecursion (AreRowFiles image held) fs
      → AllByRecursion (λ g. HoldsRows (more g) (flushed_of fs family) (image g)) made
      → AllByRecursion (AreRowFiles image more) (with_made family taken made fs)
  files_stored image [] same are new = tt
  files_stored image (f ∷ fs) same are new =
      here (f.family == family) (files_stored image fs
      (λ g there. same g (in_back f.files (row_files fs) g there)) are.1) new
    where
      here : (t : Bool)
          → (AllByRecursion (λ g. HoldsRows (more g) (flushed_of fs family) (image g)) made
          → AllByRecursion (AreRowFiles image more) (with_made family taken made fs))
          → AllByRecursion (λ g. HoldsRows (more g)
          (if t then f.flushed else flushed_of fs family) (image g)) made
          → AllByRecursion (AreRowFiles image more) (if t
          then record { family = f.family; flushed = f.flushed; files = made ++ drop taken f.files } ∷ fs
          else f ∷ with_made family taken made fs)
      here true rest new = (
        all_append (λ g. HoldsRows (more g) f.flushed (image g)) made (drop taken f.files) new
            (stored_since image f
            (λ g there. same g (in_front f.files (row_files fs) g there)) are.0),
        families_on image image held more fs (λ g there. refl)
            (λ g there. same g (in_back f.files (row_files fs) g there)) are.1,
      )
      here false rest new = (
        row_files_on image image held more f (λ g there. refl)
            (λ g there. same g (in_front f.files (row_files fs) g there)) are.0,
        rest new,
      )

  -- The files of the version hold what was made, and what the old ones held.
  pub stored_made : (image : Image) (parts : List (List Write)) → Stored image v held parts
      → AllByRecursion (λ g. HoldsRows (more g) (flushed_of v.families family) (image g)) made
      → Stored image (version_made v family taken made) more parts
  stored_made image parts stored new = record {
    files = files_stored image v.families
        (λ g there. may.same g (in_back v.segments (row_files v.families) g there)) stored.files new;
    segments = stored.segments;
    writes = stored.writes;
    rising = stored.rising;
  }

  -- ---- its layout

  -- the files of a family hold the rows that they held
  family_stays : (other : ℕ) → AllByRecursion (λ g. more g ≡ held g) (files_of v.families other)
  family_stays other = of_family (λ g. more g ≡ held g) v.families other
      (all_in (λ g. more g ≡ held g) (row_files v.families)
      (λ g there. may.same g (in_back v.segments (row_files v.families) g there)))

  -- the family shows what it showed
  own : (ws : List Write) (key : List ℕ)
      → option_and_then row_shown
      (get (family_rows (with_made family taken made v.families) more ws family) key)
      ≡ option_and_then row_shown (get (family_rows v.families held ws family) key)
  own ws key = merged_shown v.families (with_made family taken made v.families) held more ws number
      family (record {
        taken = take taken (files_of v.families family);
        since = drop taken (files_of v.families family);
        made = made;
        before = sym (take-append-drop taken (files_of v.families family));
        after = files_made family taken made v.families has_files;
        stay = all_drop (λ g. more g ≡ held g) taken (files_of v.families family)
            (family_stays family);
        purged = may.purged;
        below = may.older;
        later = may.later;
        reached = may.reached;
        flushed = flushed_made family taken made v.families family;
      }) key

  -- and any other has its rows
  others : (ws : List Write) (other : ℕ) → other ≢ family
      → family_rows (with_made family taken made v.families) more ws other
      ≡ family_rows v.families held ws other
  others ws other apart = left_rows v.families (with_made family taken made v.families) held more ws
      other (record {
        files = files_made-other family taken made v.families other apart;
        rows = family_stays other;
        flushed = flushed_made family taken made v.families other;
      })

  by_test : (ws : List Write) (key : List ℕ) (other : ℕ) (t : Bool) → (other == family) ≡ t
      → option_and_then row_shown
      (get (family_rows (with_made family taken made v.families) more ws other) key)
      ≡ option_and_then row_shown (get (family_rows v.families held ws other) key)
  by_test ws key other true e = subst (λ x. option_and_then row_shown
      (get (family_rows (with_made family taken made v.families) more ws x) key)
      ≡ option_and_then row_shown (get (family_rows v.families held ws x) key))
      (sym (eqb-true other family e)) (own ws key)
  by_test ws key other false e = ap (λ m. option_and_then row_shown (get m key))
      (others ws other (λ same. false≢true (sym e ∙ eq-eqb other family same)))

  -- The layout shows what the old one shows.
  pub shows_made : (parts : List (List Write))
      → ShowsSame (layout_of v held (all_of parts))
      (layout_of (version_made v family taken made) more (all_of parts))
  shows_made parts = record {
    number = refl;
    rows = λ other key. by_test (all_of parts) key other (other == family) refl;
  }
