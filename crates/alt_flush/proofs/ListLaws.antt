-- Families with files, one by one.
use Rattle.std.proofs.Common.{◌≡◌, ◌++◌, List, [], ◌∷◌, ℕ, refl}
use Rattle.alt_manifest.specs.declared.version.FamilyVersion.{FamilyVersion}
use Rattle.alt_flush.specs.Drafts.{kept_before, with_files}

-- the first of them before the others
pub with_files-cons : (f : FamilyVersion) (fs : List FamilyVersion)
    → with_files (f ∷ fs) ≡ with_files (f ∷ []) ++ with_files fs
with_files-cons f fs = here f.files
  where
    here : (gs : List ℕ) → kept_before f gs (with_files fs)
        ≡ kept_before f gs [] ++ with_files fs
    here [] = refl
    here (g ∷ gs) = refl
