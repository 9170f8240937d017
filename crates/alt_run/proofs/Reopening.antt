-- A store that is opened again: the number of the next file rises no further than it stood, since none was there from it on.
use Rattle.std.proofs.Common.{◌≡◌, ◌≤◌, ◌<◌, ◌+◌, ◌-◌, ◌^◌, ◌⊎◌, ⊎_elim, ℕ, List, [], ◌∷◌, Bool, true, false, Option, None, refl, sym, ap, subst, ◌∙◌, arith, max, min}
use Rattle.std.proofs.lemmas.Bool.Decides.{nat_tests}
use Rattle.std.specs.Prelude.{◌==◌, ◌||◌, is_some, Result, Ok, Err, OnOk}
use Rattle.std.specs.List.{list_any}
use Rattle.std.proofs.lemmas.Bool.{true≢false}
use Rattle.alt_disk.specs.Disk.{DiskState}
use Rattle.alt_layout.specs.Fresh.{versions_file}
use Rattle.alt_machine.specs.State.{State}
use Rattle.alt_manifest.specs.InHand.{file_of_manifest, ReadsVersion, version_of}
use Rattle.alt_manifest.specs.Versions.{HasVersion}
use Rattle.alt_manifest.specs.declared.manifest.Manifest.{Manifest}
use Rattle.alt_manifest.proofs.AppendLaws.{has_version}
use Rattle.alt_recovery.specs.Others.{next_past}
use Rattle.alt_tables.specs.FilesLeft.{IsFirstGiven, most_files}
use Rattle.alt_tables.specs.Stands.{Stands, bounds_of}
use Rattle.alt_tables.specs.declared.tables.Tables.{Tables}

-- the first of a list is in it
in_front : (f : ℕ) (fs : List ℕ) → list_any (λ g. f == g) (f ∷ fs) ≡ true
in_front f fs =
    let same : (f == f) ≡ true = grind (arith, nat_tests) in
    ap (λ (b : Bool). b || list_any (λ g. f == g) fs) same

-- and what is in the rest
in_back : (h f : ℕ) (fs : List ℕ) → list_any (λ g. h == g) fs ≡ true
    → list_any (λ g. h == g) (f ∷ fs) ≡ true
in_back h f fs e = by (h == f) (list_any (λ g. h == g) fs) e
  where
    by : (a b : Bool) → b ≡ true → (a || b) ≡ true
    by true b is = refl
    by false b is = is

-- a number past others that are below one isn't above it
next_past-most : (least : ℕ) (fs : List ℕ) (most : ℕ) → least ≤ most
    → ((f : ℕ) → list_any (λ g. f == g) fs ≡ true → f < most) → next_past least fs ≤ most
next_past-most least [] most low below = low
next_past-most least (f ∷ fs) most low below =
    let first = below f (in_front f fs) in
    next_past-most (max least (min (f + 1) (2 ^ 32 - 1))) fs most (omega (arith, low, first))
    (λ h there. below h (in_back h f fs there))

-- a file that is there is below those that aren't
there_below : (file : ℕ → Option (List ℕ)) (most f : ℕ) → ((g : ℕ) → most ≤ g → file g ≡ None)
    → true ≡ is_some (file f) → f < most
there_below file most f fresh there = ⊎_elim (λ (low : f < most). low)
    (λ (high : most ≤ f). absurd (true≢false (there ∙ ap is_some (fresh f high))))
    (lt_or_ge f most)
  where
    lt_or_ge : (a b : ℕ) → (a < b) ⊎ (b ≤ a)
    lt_or_ge a b = grind arith

-- the next file that an opening of these files has is none behind this one, where none is there from this one on; a segment that the first write
-- makes comes before the first file of work
version_again : (a : DiskState) (m : Manifest) (most n : ℕ) → ReadsVersion a m
    → file_of_manifest m ≡ versions_file → (version_of m).next_file ≤ most
    → ((f : ℕ) → most ≤ f → a.file f ≡ None) → IsFirstGiven a.file n → n ≤ most + 1
version_again a m most n reads first low fresh given =
    let found = given (version_of m)
    (subst (λ (f : ℕ). HasVersion (version_of m) (a.file f)) first (has_version a m reads)) in
    let next : found.next ≤ most = subst (λ (k : ℕ). k ≤ most) (sym found.is.is)
    (next_past-most (version_of m).next_file found.is.names most low
    (λ f listed. there_below a.file most f fresh (sym listed ∙ found.is.named.exact f))) in
    let near = found.most in omega (arith, next, near)

-- so it is where the tables stand
pub files_again : (a : DiskState) (t : Tables) (s : State) → Stands a t s → (n : ℕ)
    → IsFirstGiven a.file n → n ≤ (bounds_of t).file + 1
files_again a t s stands n given =
    let reads = stands.rows.is.hand.reads in
    let again = version_again a t.engine.hand.manifest t.engine.hand.next_file n reads.versions
    reads.first reads.free reads.fresh given in omega (arith, again)

-- an opening takes none but that of the first write, and a task may take some
pub fewer_files : {T E : Type 0} (result : Result T E) (new old : ℕ) (P : State → Type 0)
    → ((s : State) → P s → OnOk result (new ≤ old + 1))
    → (s : State) → P s → OnOk result (new ≤ old + most_files)
fewer_files (Ok x) new old P law s p = let le = law s p in omega (arith, le)
fewer_files (Err e) new old P law s p = tt
