-- A draft over a new segment, once no family has rows in memory: it is a version, and its layout is the one before.
use Rattle.std.proofs.Common.{◌≡◌, ◌<◌, ◌≤◌, ◌+◌, ◌^◌, ℕ, Bool, true, false, List, [], ◌∷◌, ◌++◌, refl, sym, ap, subst, ◌∙◌, arith, eqb-true}
use Rattle.std.specs.Prelude.{◌==◌, if◌then◌else◌}
use Rattle.std.specs.FinMap.{empty}
use Rattle.std.specs.List.{AllByRecursion}
use Rattle.alt_fields.proofs.Apart.{all_back}
use Rattle.alt_cells.specs.Joined.{joined_map}
use Rattle.alt_cells.specs.Rows.{join_row}
use Rattle.alt_writes.specs.Writes.{Write}
use Rattle.alt_manifest.specs.Versions.{AreDistinct, IsFamily, IsIn, IsVersion, RiseFrom, files_named, numbers_of, row_files}
use Rattle.alt_manifest.specs.declared.version.FamilyVersion.{FamilyVersion}
use Rattle.alt_manifest.specs.declared.version.Version.{Version}
use Rattle.alt_layout.specs.Families.{Held, flushed_of, files_of, with_later, next_after, joined_files, layout_of}
use Rattle.alt_layout.specs.Files.{Image, AreRowFiles, IsSegment, Stored, all_of}
use Rattle.alt_layout.proofs.FamilyLaws.{same_layouts}
use Rattle.alt_layout.proofs.FlushLaws.{above_all, all_later, count_numbers, numbers_fit, rise_count}
use Rattle.alt_layout.proofs.FlushedFiles.{differs}
use Rattle.alt_layout.proofs.RowLaws.{none_behind, with_later-from}
use Rattle.alt_flush.specs.Drafts.{kept_before, over_new_log, with_files}
use Rattle.alt_manifest.proofs.Among.{distinct_back, rise_lower}

-- ---- the families with files

-- they name the same files
pub row_files-with_files : (fs : List FamilyVersion) → row_files (with_files fs) ≡ row_files fs
row_files-with_files [] = refl
row_files-with_files (f ∷ fs) = here f.files refl (row_files-with_files fs)
  where
    here : (gs : List ℕ) → f.files ≡ gs → row_files (with_files fs) ≡ row_files fs
        → row_files (kept_before f gs (with_files fs)) ≡ f.files ++ row_files fs
    here [] e rest = rest ∙ ap (λ x. x ++ row_files fs) (sym e)
    here (g ∷ gs) e rest = ap (λ x. f.files ++ x) rest

-- a family below all that are named has none
files_of-low : (least family : ℕ) (fs : List FamilyVersion) → RiseFrom least (numbers_of fs)
    → family < least → files_of fs family ≡ []
files_of-low least family [] rising low = refl
files_of-low least family (f ∷ fs) rising low =
    ap (λ t. if t then f.files else files_of fs family) (differs f.family family
    (λ same. let first = rising.0 in omega arith))
    ∙ files_of-low (f.family + 1) family fs rising.1 (let first = rising.0 in omega arith)

-- each has the files that it had
pub files_of-with_files : (least family : ℕ) (fs : List FamilyVersion)
    → RiseFrom least (numbers_of fs) → files_of (with_files fs) family ≡ files_of fs family
files_of-with_files least family [] rising = refl
files_of-with_files least family (f ∷ fs) rising =
    here f.files refl (f.family == family) refl
    (files_of-with_files (f.family + 1) family fs rising.1)
  where
    here : (gs : List ℕ) → f.files ≡ gs → (t : Bool) → (f.family == family) ≡ t
        → files_of (with_files fs) family ≡ files_of fs family
        → files_of (kept_before f gs (with_files fs)) family
        ≡ (if f.family == family then f.files else files_of fs family)
    here [] e true same rest = rest
        ∙ files_of-low (f.family + 1) family fs rising.1
        (let it = eqb-true f.family family same in omega arith)
        ∙ sym (ap (λ t. if t then f.files else files_of fs family) same ∙ e)
    here [] e false same rest = rest
        ∙ sym (ap (λ t. if t then f.files else files_of fs family) same)
    here (g ∷ gs) e t same rest = ap (λ x. if f.family == family then f.files else x) rest

-- what holds of each family holds of those
all_with_files : (P : FamilyVersion → Type 0) (fs : List FamilyVersion) → AllByRecursion P fs
    → AllByRecursion P (with_files fs)
all_with_files P [] all = tt
all_with_files P (f ∷ fs) all = here f.files (all_with_files P fs all.1)
  where
    here : (gs : List ℕ) → AllByRecursion P (with_files fs)
        → AllByRecursion P (kept_before f gs (with_files fs))
    here [] rest = rest
    here (g ∷ gs) rest = (all.0, rest)

rising-with_files : (least : ℕ) (fs : List FamilyVersion) → RiseFrom least (numbers_of fs)
    → RiseFrom least (numbers_of (with_files fs))
rising-with_files least [] rising = tt
rising-with_files least (f ∷ fs) rising = here f.files (rising-with_files (f.family + 1) fs rising.1)
  where
    here : (gs : List ℕ) → RiseFrom (f.family + 1) (numbers_of (with_files fs))
        → RiseFrom least (numbers_of (kept_before f gs (with_files fs)))
    here [] rest = rise_lower least (f.family + 1) (numbers_of (with_files fs))
        (let first = rising.0 in omega arith) rest
    here (g ∷ gs) rest = (rising.0, rest)

-- ---- the draft

-- It is a version.
pub new_log_is : (u : Version) → IsVersion u → u.next_file + 1 < 2 ^ 32 → 2 ≤ u.next_file
    → IsVersion (over_new_log u)
new_log_is u is fits two =
    let gs = with_files u.families in
    let same = row_files-with_files u.families in
    let below : AllByRecursion (λ f. f < u.next_file) (row_files gs) =
    subst (AllByRecursion (λ f. f < u.next_file)) (sym same)
    (all_back (λ f. f < u.next_file) u.segments (row_files u.families) is.below) in
    let rising : RiseFrom 0 (numbers_of gs) = rising-with_files 0 u.families is.rising in
    let families : AllByRecursion (IsFamily u.next_number) gs =
    all_with_files (IsFamily u.next_number) u.families is.families in
    record {
      next_file = fits;
      next_number = is.next_number;
      some = omega arith;
      segments = (two, tt);
      count = omega arith;
      rising = rising;
      families = families;
      families_count = omega (
        arith,
        rise_count 0 (2 ^ 32) (numbers_of gs) (omega arith) rising
            (numbers_fit u.next_number gs families),
        count_numbers gs,
      );
      below = (omega arith, all_later (row_files gs) u.next_file (u.next_file + 1) (omega arith) below);
      differ = (
        above_all (row_files gs) u.next_file below,
        subst AreDistinct (sym same)
            (distinct_back u.segments (row_files u.families) is.differ),
      );
    }

-- Its files hold what they held, and the segment no write.
pub new_log_stored : (image : Image) (u : Version) (held : Held) (parts : List (List Write))
    → Stored image u held parts → IsSegment [] (image u.next_file)
    → Stored image (over_new_log u) held ([] ∷ [])
new_log_stored image u held parts stored log = record {
  files = all_with_files (AreRowFiles image held) u.families stored.files;
  segments = (log, tt);
  writes = tt;
  rising = tt;
}

-- Its layout is the one before, where memory has no rows.
pub new_log_same : (u : Version) (held : Held) (parts : List (List Write)) → IsVersion u
    → u.next_number ≡ next_after u.next_number (all_of parts)
    → ((family : ℕ) → with_later (flushed_of u.families family) family empty (all_of parts) ≡ empty)
    → layout_of (over_new_log u) held (all_of ([] ∷ [])) ≡ layout_of u held (all_of parts)
new_log_same u held parts is top none =
    same_layouts u (over_new_log u) held held (all_of parts) [] (λ family.
    ap (joined_files held) (files_of-with_files 0 family u.families is.rising)
    ∙ sym (none_behind (joined_files held (files_of u.families family)))
    ∙ ap (joined_map join_row (joined_files held (files_of u.families family))) (sym (none family))
    ∙ sym (with_later-from (flushed_of u.families family) family
    (joined_files held (files_of u.families family)) (all_of parts))) top

-- the files that it names are the new one and row files of the draft before
pub named_new_log : (u : Version) (f : ℕ) → IsIn (files_named (over_new_log u)) f
    → IsIn (u.next_file ∷ row_files u.families) f
named_new_log u f there =
    subst (λ gs. IsIn (u.next_file ∷ gs) f) (row_files-with_files u.families) there
