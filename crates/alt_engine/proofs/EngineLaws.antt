-- An engine in hand while files stay, and while calls of the rows over files carry its merge on.
use Rattle.std.proofs.Common.{◌≡◌, ℕ, List, [], ◌∷◌, Option, Some, None, length, refl, sym, subst}
use Rattle.std.proofs.lemmas.List.{append-nil}
use Rattle.alt_disk.specs.Disk.{DiskState}
use Rattle.alt_disk.specs.Runs.{Quiet}
use Rattle.alt_layout.specs.Layout.{Layout}
use Rattle.alt_rowfile.specs.declared.rowfile.RowFile.{RowFile}
use Rattle.alt_rowfile.specs.InHand.{file_of as row_file}
use Rattle.alt_merging.specs.HandCarrying.{AreStill, CarriesFamily}
use Rattle.alt_merging.specs.HandInHand.{limits_of}
use Rattle.alt_merging.specs.HandMerging.{AreMany, HasMany, files_at}
use Rattle.alt_merging.specs.HandDeclaredHand.{Hand}
use Rattle.alt_merging.specs.HandDeclaredLimits.{Limits}
use Rattle.alt_merging.proofs.HandBesideLaws.{merging_stays}
use Rattle.alt_merging.proofs.HandHandLaws as hand
use Rattle.alt_merging.specs.Mergings.{family_of_merging}
use Rattle.alt_merging.specs.declared.merging.Merging.{Merging}
use Rattle.alt_merging.proofs.StepLaws.{carried}
use Rattle.alt_engine.specs.InHand.{IsGoing, StandsForLayout}
use Rattle.alt_engine.specs.declared.engine.Engine.{Engine}

-- files that stay
all_of_them : (a b : DiskState) (fs : List RowFile) → ((f : ℕ) → b.file f ≡ a.file f)
    → AreStill a b fs
all_of_them a b [] same = tt
all_of_them a b (f ∷ fs) same = (same (row_file f), all_of_them a b fs same)

-- carry every merge on
pub carries_still : (a b : DiskState) (e : Hand) (family : ℕ) → ((f : ℕ) → b.file f ≡ a.file f)
    → CarriesFamily a b e e family
carries_still a b e family same = record {
  more = [];
  files = sym (append-nil (files_at e family));
  still = all_of_them a b (files_at e family) same;
  merging = λ taken number file may. merging_stays a b e family taken number file
      (all_of_them a b (files_at e family) same) may;
  beside = λ taken number file may. same file;
}

-- A merge that is carried on stands.
pub going_carried : (a b : DiskState) (e f : Hand) (o : Option Merging)
    → ((j : Merging) → o ≡ Some j → CarriesFamily a b e f (family_of_merging j)) → IsGoing a e o → IsGoing b f o
going_carried a b e f None carries going = tt
going_carried a b e f (Some j) carries going =
    (going.0, carried a b e f j going.0 (carries j refl) going.1)

-- Calls that leave every file leave an engine as it stands.
pub stays_quiet : (a b : DiskState) (e : Engine) (l : Layout) → StandsForLayout a e l → Quiet a b
    → StandsForLayout b e l
stays_quiet a b e l stands quiet = record {
  hand = hand.stays_quiet a b e.hand l stands.hand quiet;
  merging = going_carried a b e.hand e.hand e.merging
      (λ j is. carries_still a b e.hand (family_of_merging j) (λ f. quiet.file f)) stands.merging;
  few = stands.few;
}

-- With the same files as many families have many.
pub few_on : (e f : Hand) → limits_of f ≡ limits_of e
    → ((family : ℕ) → files_at f family ≡ files_at e family)
    → ((family : ℕ) → HasMany e family → ⊥) → (family : ℕ) → HasMany f family → ⊥
few_on e f limits files none family many = none family
    (subst (λ (k : Limits). AreMany k.merge (length (files_at e family))) limits
    (subst (λ (fs : List RowFile). AreMany (limits_of f).merge (length fs)) (files family) many))
