-- Files that are looked for among those that a version names, and removed one by one.
use Rattle.std.proofs.Common.{◌≡◌, ◌≢◌, ◌<◌, ◌+◌, ◌==◌, ⊎_elim, inl, inr, ℕ, Bool, true, false, List, [], ◌∷◌, ◌++◌, length, take, drop, get_or, Option, refl, sym, ap, subst, ◌∙◌, eqb-true}
use Rattle.std.proofs.lemmas.List.{drop_more, take_more}
use Rattle.std.specs.Prelude.{◌||◌, ◌⊎◌}
use Rattle.std.specs.List.{list_any}
use Rattle.alt_disk.specs.Disk.{DiskState, Call, Removed}
use Rattle.alt_disk.specs.Runs.{Spans}
use Rattle.alt_disk.proofs.Runs.{quiet_spans, quiet_start, run_spans, spans_on, spans_weaker}
use Rattle.alt_layout.specs.Files.{IsOf}
use Rattle.alt_layout.proofs.FileLaws.{in_either}
use Rattle.alt_layout.proofs.MomentLaws.{removal, same_or_not}
use Rattle.alt_manifest.specs.Versions.{IsIn, row_files}
use Rattle.alt_manifest.specs.declared.version.FamilyVersion.{FamilyVersion}
use Rattle.alt_manifest.specs.declared.version.Version.{Version}
use Rattle.alt_flush.specs.Drafts.{IsLeftOver}
use Rattle.alt_manifest.proofs.Among.{in_at}

-- ---- numbers in lists

-- the row files from one family on
pub row_files_at : (fs : List FamilyVersion) (i : ℕ) (f : FamilyVersion) → i < length fs
    → f ≡ get_or fs i f → row_files (drop i fs) ≡ f.files ++ row_files (drop (i + 1) fs)
row_files_at fs i f within at = ap row_files (drop_more fs i f within)
    ∙ ap (λ (g : FamilyVersion). g.files ++ row_files (drop (i + 1) fs)) (sym at)

-- the numbers so far, with one more
pub in_more : (xs : List ℕ) (i n : ℕ) → i < length xs → IsIn (take (i + 1) xs) n
    → IsIn (take i xs) n ⊎ (n ≡ get_or xs i 0)
in_more xs i n within there = in_either (take i xs) (get_or xs i 0 ∷ []) n (λ old. inl old)
    (λ new. ⊎_elim (λ (e : n ≡ get_or xs i 0). inr e) (λ (no : ⊥). absurd no) new)
    (subst (λ ys. IsIn ys n) (take_more xs i 0 within) there)

-- a number that equals one of a list is in it
pub listed_in : (xs : List ℕ) (n : ℕ) → list_any (λ m. n == m) xs ≡ true → IsIn xs n
listed_in [] n listed = let no : false ≡ true = listed in cc no
listed_in (x ∷ xs) n listed = by (n == x) refl (listed_in xs n) listed
  where
    by : (b : Bool) → (n == x) ≡ b → (list_any (λ m. n == m) xs ≡ true → IsIn xs n)
        → (b || list_any (λ m. n == m) xs) ≡ true → IsIn (x ∷ xs) n
    by true same rest listed = inl (eqb-true n x same)
    by false other rest listed = inr (rest listed)

-- ---- removals

-- This file, where it doesn't belong to the store of the version.
abbrev pub IsThis : ℕ → Version → ℕ → Type 0
IsThis file v g = (g ≡ file) × (IsOf v g → ⊥)

-- nothing touched
pub none_removed : (s : DiskState) (touched : ℕ → Type 0) → Spans s s touched (λ t image. Unit {0})
none_removed s touched =
    quiet_spans s s touched (λ t image. Unit {0}) (quiet_start s) (λ t image fits. tt)

-- one removed
pub one_removed : (a b : DiskState) (file : ℕ) (v : Version) (ok : Bool) → Call a b ok
    → Removed a b file ok → (IsOf v file → ⊥) → Spans a b (IsThis file v) (λ t image. Unit {0})
one_removed a b file v ok call removed not_of =
    run_spans a b file (λ t left. Unit {0}) (IsThis file v) (λ t image. Unit {0})
    (removal a b file ok call removed) (refl, not_of) (λ t image here others. tt)

-- one more of several
pub more_removed : (a b c : DiskState) (files : List ℕ) (i : ℕ) (v : Version) → i < length files
    → Spans a b (IsLeftOver files v) (λ t image. Unit {0})
    → Spans b c (IsThis (get_or files i 0) v) (λ t image. Unit {0})
    → Spans a c (IsLeftOver files v) (λ t image. Unit {0})
more_removed a b c files i v within first one =
    spans_on a b c (IsLeftOver files v) (λ t image. Unit {0}) first
    (spans_weaker b c (IsThis (get_or files i 0) v) (IsLeftOver files v) (λ t image. Unit {0})
    (λ t image. Unit {0}) one
    (λ g it. (subst (IsIn files) (sym it.0) (in_at files i within), it.1))
    (λ t image any. any))

-- those so far are gone, and one more
pub more_gone : (b c : DiskState) (files : List ℕ) (i : ℕ) (v : Version) → i < length files
    → ((f : ℕ) → IsLeftOver (take i files) v f → b.file f ≡ Option.None)
    → ((g : ℕ) → b.file g ≡ Option.None → c.file g ≡ Option.None)
    → ((IsOf v (get_or files i 0) → ⊥) → c.file (get_or files i 0) ≡ Option.None) → (f : ℕ)
    → IsLeftOver (take (i + 1) files) v f → c.file f ≡ Option.None
more_gone b c files i v within gone others this f over = ⊎_elim
    (λ (old : IsIn (take i files) f). others f (gone f (old, over.1)))
    (λ (e : f ≡ get_or files i 0). subst (λ g. c.file g ≡ Option.None) (sym e)
    (this (λ of. over.1 (subst (IsOf v) (sym e) of)))) (in_more files i f within over.0)

-- a file that isn't there is not there after one is removed
pub still_gone : (b c : DiskState) (file g : ℕ) → c.file file ≡ Option.None
    → ((g : ℕ) → g ≢ file → c.file g ≡ b.file g) → b.file g ≡ Option.None
    → c.file g ≡ Option.None
still_gone b c file g gone others none = ⊎_elim
    (λ (e : g ≡ file). ap c.file e ∙ gone) (λ (other : g ≢ file). others g other ∙ none)
    (same_or_not g file)
