-- What several calls in a row leave, in reads and in the images of each moment on the way.
use Rattle.std.specs.Prelude.{◌≡◌, ◌≢◌, ◌≤◌, ℕ, List, Option}
use Rattle.alt_disk.specs.Fates.{Fits}
use Rattle.alt_disk.specs.Disk.{DiskState, now, IsImage}

-- Calls that touch one file alone: the others stay at each moment, and whatever a stop at a moment on the way leaves of the file
-- has P of that moment.
pub record Run (old new : DiskState) (f : ℕ) (P : ℕ → Option (List ℕ) → Type 0) : Type 0 where
  pub later : old.moment ≤ new.moment
  pub past : (t g : ℕ) → t ≤ old.moment → new.fates t g ≡ old.fates t g
  pub file : (g : ℕ) → g ≢ f → new.file g ≡ old.file g
  pub fates : (t g : ℕ) → g ≢ f → old.moment ≤ t → t ≤ new.moment → new.fates t g ≡ now old g
  pub each : (t : ℕ) (left : Option (List ℕ)) → old.moment ≤ t → t ≤ new.moment
      → Fits (new.fates t f) left → P t left

-- The same of several files and whole images: the files that aren't touched stay at each moment, and each image on the way has P
-- of its moment.
pub record Spans (old new : DiskState) (touched : ℕ → Type 0)
    (P : ℕ → (ℕ → Option (List ℕ)) → Type 0) : Type 0 where
  pub later : old.moment ≤ new.moment
  pub past : (t g : ℕ) → t ≤ old.moment → new.fates t g ≡ old.fates t g
  pub file : (g : ℕ) → (touched g → ⊥) → new.file g ≡ old.file g
  pub fates : (t g : ℕ) → (touched g → ⊥) → old.moment ≤ t → t ≤ new.moment
      → new.fates t g ≡ now old g
  pub each : (t : ℕ) (image : ℕ → Option (List ℕ)) → old.moment ≤ t → t ≤ new.moment
      → IsImage new t image → P t image

-- Calls that leave every file, in reads and in the images of each moment.
pub record Quiet (old new : DiskState) : Type 0 where
  pub later : old.moment ≤ new.moment
  pub past : (t g : ℕ) → t ≤ old.moment → new.fates t g ≡ old.fates t g
  pub file : (g : ℕ) → new.file g ≡ old.file g
  pub fates : (t g : ℕ) → old.moment ≤ t → t ≤ new.moment → new.fates t g ≡ now old g
