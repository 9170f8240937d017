-- The files that a version doesn't name, and the number that the next file may have.
use Rattle.std.specs.Prelude.{◌+◌, ◌-◌, ◌^◌, ℕ, List, [], ◌∷◌, max, min}
use Rattle.alt_layout.specs.Files.{IsOf}
use Rattle.alt_manifest.specs.declared.version.Version.{Version}

-- The file isn't one of the version's.
abbrev pub IsOther : Version → ℕ → Type 0
IsOther v f = IsOf v f → ⊥

-- The least number that isn't below this one and is above each of these, but 2^32 - 1 at most where one of them is.
abbrev pub next_past : ℕ → List ℕ → ℕ
next_past next [] = next
next_past next (f ∷ fs) = next_past (max next (min (f + 1) (2 ^ 32 - 1))) fs
