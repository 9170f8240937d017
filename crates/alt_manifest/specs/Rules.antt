-- What the tests of a version tell. Private contracts alone cite these words.
use Rattle.std.specs.Prelude.{◌≤◌, ◌+◌, ℕ, Bool, true, false, List, [], ◌∷◌}
use Rattle.alt_manifest.specs.Versions.{IsFamily}
use Rattle.alt_manifest.specs.declared.version.FamilyVersion.{FamilyVersion}

-- The test is true exactly where this holds.
abbrev pub Reflects : Bool → Type 0 → Type 0
Reflects true P = P
Reflects false P = P → ⊥

-- The families are those of a version whose next write has this number, and their numbers rise from `least` on.
abbrev pub AreFamilies : ℕ → ℕ → List FamilyVersion → Type 0
AreFamilies next least [] = Unit {0}
AreFamilies next least (f ∷ fs) =
    (least ≤ f.family) × IsFamily next f × AreFamilies next (f.family + 1) fs
