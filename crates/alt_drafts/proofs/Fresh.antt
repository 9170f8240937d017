-- A fresh store: that a stop leaves it, and that no file is there where the first is named.
use Rattle.std.proofs.Common.{◌≡◌, ◌≢◌, ◌<◌, ◌==◌, ◌||◌, ◌++◌, inl, inr, ℕ, zero, suc, Bool, true, false, List, [], ◌∷◌}
use Rattle.std.proofs.Common.{length, get_or, drop, Option, Some, None, is_some, refl, sym, ap, subst, ◌∙◌, arith, append_assoc}
use Rattle.std.proofs.lemmas.Bool.{false≢true}
use Rattle.std.proofs.lemmas.Bool.Decides.{nat_tests}
use Rattle.std.proofs.lemmas.List.{drop_at}
use Rattle.std.proofs.lemmas.Map.Keys.{below_from_sorted}
use Rattle.std.specs.List.{list_any}
use Rattle.alt_disk.specs.Fates.{Fates, Fits}
use Rattle.alt_disk.specs.Disk.{DiskState, IsImage, IsSettled, IsNames}
use Rattle.alt_disk.specs.Runs.{Quiet, Run, Spans}
use Rattle.alt_disk.proofs.Runs.{quiet_spans, run_spans, spans_on}
use Rattle.alt_gatelog.specs.Log.{IsLog, header, log_bytes}
use Rattle.alt_gatelog.specs.declared.form.Form.{Form}
use Rattle.alt_gatelog.specs.declared.form.Form.TheVariants.{One, Two}
use Rattle.alt_layout.specs.Layout.{no_rows}
use Rattle.alt_layout.specs.Fresh.{IsFresh, IsFreshStoreFile, versions_file, entries_file}
use Rattle.alt_layout.specs.Files.{IsLayout}
use Rattle.alt_manifest.specs.Versions.{HasVersion, version_bytes}
use Rattle.alt_manifest.specs.declared.version.Version.{Version}
use Rattle.alt_layout.proofs.FreshLaws.{fresh_layout as layout_fresh}
use Rattle.alt_drafts.specs.Making.{HasSegment, LeavesNoVersions}
use Rattle.std.specs.Prelude.{⊤}
use Rattle.alt_gatelog.proofs.Append.{length-header}

-- a log without entries is an empty log
has_none : (file : Option (List ℕ)) → file ≡ Some (log_bytes Two [] 0 []) → IsLog Two [] file
has_none file is = record { gate = 0; closed = omega arith; rest = []; is = is; lengths = tt }

-- a stop leaves no row of a fresh store, and its first version
pub fresh_layout : (s : DiskState) → IsFresh s → (image : ℕ → Option (List ℕ))
    → IsImage s s.moment image → IsLayout image no_rows
fresh_layout s fresh image is_image = layout_fresh image
    (fresh.versions_last (image versions_file) (is_image versions_file) ∙ fresh.versions)
    (fresh.entries_last (image entries_file) (is_image entries_file) ∙ fresh.entries)

-- ---- no version without its segment

-- a file that is missing has no version
no_version : (file : Option (List ℕ)) → file ≡ None → (v : Version) → HasVersion v file → ⊥
no_version file missing v version =
    let both : None ≡ Some (log_bytes One (version.before ++ version_bytes v ∷ [])
    version.log.gate version.log.rest) = sym missing ∙ version.log.is in let f : ⊥ = cc in f

-- where nothing is made no stop leaves one
pub segment_quiet : (a b : DiskState) → LeavesNoVersions a → Quiet a b → Spans a b IsFreshStoreFile HasSegment
segment_quiet a b none quiet = quiet_spans a b IsFreshStoreFile HasSegment quiet
    (λ t image fits v version. absurd (no_version (image versions_file)
    (none (image versions_file) (fits versions_file)) v version))

-- nor before the versions are made
pub segment_first : (a b c : DiskState) → LeavesNoVersions a → Quiet a b → Run b c 2 (λ _ _. ⊤)
    → Spans a c IsFreshStoreFile HasSegment
segment_first a b c none quiet run = spans_on a b c IsFreshStoreFile HasSegment
    (segment_quiet a b none quiet)
    (run_spans b c 2 (λ _ _. ⊤) IsFreshStoreFile HasSegment run (inr refl)
    (λ t image here others v version. absurd (no_version (image versions_file)
    (none (image versions_file) (subst (λ (x : Fates). Fits x (image versions_file))
    (quiet.fates b.moment versions_file quiet.later (omega arith))
    (others versions_file (omega arith)))) v version)))

-- Behind the segment, which lasts, the versions may be made.
pub segment_then : (a c d : DiskState) (f : ℕ) → f ≡ 1 → Spans a c IsFreshStoreFile HasSegment
    → IsSettled c 2 → c.file 2 ≡ Some (log_bytes Two [] 0 []) → Run c d f (λ _ _. ⊤)
    → Spans a d IsFreshStoreFile HasSegment
segment_then a c d f is_first so_far settled empty run = spans_on a c d IsFreshStoreFile HasSegment so_far
    (run_spans c d f (λ _ _. ⊤) IsFreshStoreFile HasSegment run (inl is_first)
    (λ t image here others v version. has_none (image entries_file)
    (settled (image entries_file) (others entries_file (λ same. omega (arith, same, is_first)))
    ∙ empty)))

-- what stands behind the closed gate of an empty log with nothing behind it
pub rest_none : (form : Form) (file : Option (List ℕ)) (gate : ℕ) (rest : List ℕ)
    → file ≡ Some (log_bytes form [] 0 []) → file ≡ Some (log_bytes form [] gate rest) → rest ≡ []
rest_none form file gate rest one two =
    let both : Some (log_bytes form [] gate rest) ≡ Some (log_bytes form [] 0 []) =
    sym two ∙ one in
    let bytes : log_bytes form [] gate rest ≡ log_bytes form [] 0 [] = cc both in
    ap (drop 1) (sym (behind gate rest) ∙ ap (drop 8) bytes ∙ behind 0 [])
  where
    behind : (g : ℕ) (r : List ℕ) → drop 8 (log_bytes form [] g r) ≡ g ∷ r
    behind g r =
        ap (drop 8) (append_assoc (header form) [] (g ∷ r))
        ∙ drop_at (header form) (g ∷ r) 8 (length-header form)

-- a number below all of a list isn't in it
not_listed : (f : ℕ) (xs : List ℕ) → ((k : ℕ) → k < length xs → f < get_or xs k 0)
    → list_any (λ g. f == g) xs ≡ false
not_listed f [] below = refl
not_listed f (x ∷ xs) below =
    let first : (f == x) ≡ false = (let less = below 0 (omega arith) in
    grind (arith, nat_tests, less)) in
    let others : list_any (λ g. f == g) xs ≡ false =
    not_listed f xs (λ k less. below (suc k) (omega (arith, less))) in
    λ i. first i || others i

-- a file that isn't there
pub none_there : (file : Option (List ℕ)) → is_some file ≡ false → file ≡ None
none_there None no_one = refl
none_there (Some bytes) no_one = absurd (false≢true (sym no_one))

-- one that is
some_there : (file : Option (List ℕ)) → is_some file ≡ true → file ≢ None
some_there None yes_one same = false≢true yes_one
some_there (Some bytes) yes_one same = (let f : ⊥ = cc in f)

-- the first number of a list of names is that of the first file
pub first_named : (x : ℕ) (xs : List ℕ) (file : ℕ → Option (List ℕ)) → IsNames (x ∷ xs) file
    → (file x ≢ None) × ((f : ℕ) → f < x → file f ≡ None)
first_named x xs file names = (
  some_there (file x) (sym (names.exact x) ∙ listed),
  λ f less. none_there (file f) (sym (names.exact f) ∙ not_listed f (x ∷ xs) (below f less)),
)
  where
    listed : ((x == x) || list_any (λ g. x == g) xs) ≡ true
    listed = let same : (x == x) ≡ true = grind (arith, nat_tests) in
        ap (λ (b : Bool). b || list_any (λ g. x == g) xs) same

    below : (f : ℕ) → f < x → (k : ℕ) → k < length (x ∷ xs) → f < get_or (x ∷ xs) k 0
    below f less zero within = less
    below f less (suc k) within =
        let more = below_from_sorted (x ∷ xs) 0 (suc k) 0 names.rising (omega arith) within in
        omega (arith, less, more)

-- so of a list that isn't empty
pub first_of_names : (xs : List ℕ) (file : ℕ → Option (List ℕ)) → IsNames xs file → 0 < length xs
    → (file (get_or xs 0 0) ≢ None) × ((f : ℕ) → f < get_or xs 0 0 → file f ≡ None)
first_of_names [] file names some = absurd (omega (arith, some))
first_of_names (x ∷ xs) file names some = first_named x xs file names
