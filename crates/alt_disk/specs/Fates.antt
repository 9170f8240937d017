-- What a stop may leave of one file, as data, and how each call changes it.
use Rattle.std.specs.Prelude.{◌≡◌, ◌⊎◌, ◌<◌, ℕ, zero, suc, Bool, true, false}
use Rattle.std.specs.Prelude.{List, [], ◌∷◌, map, Option, Some, None}
use Rattle.std.specs.List.{AllByRecursion}

-- a file as a stop may leave it: the bytes up to its end at the last sync, each known or open; behind them nothing, or, where
-- it is loose, any bytes at any length
pub record Shape : Type 0 where
  pub known : List (Option ℕ)
  pub loose : Bool

-- what a stop may leave of a file: it as last made, or else one of the others, the latest first; `None` is missing
pub record Fates : Type 0 where
  pub last : Option Shape
  pub others : List (Option Shape)

-- numbers that are bytes, each below 256
abbrev pub AreBytes : List ℕ → Type 0
AreBytes bytes = AllByRecursion (λ b. b < 256) bytes

-- a byte that may stand where this one is known, or any where none is
abbrev pub FitsByte : Option ℕ → ℕ → Type 0
FitsByte None b = b < 256
FitsByte (Some known) b = b ≡ known

-- what may stand behind the last known byte: nothing, or, at a loose end, any bytes
abbrev pub FitsBehind : Bool → List ℕ → Type 0
FitsBehind false bytes = bytes ≡ []
FitsBehind true bytes = AreBytes bytes

-- bytes that a file of this shape may have
abbrev pub FitsBytes : List (Option ℕ) → Bool → List ℕ → Type 0
FitsBytes [] loose bytes = FitsBehind loose bytes
FitsBytes (k ∷ known) loose [] = ⊥
FitsBytes (k ∷ known) loose (b ∷ bytes) = FitsByte k b × FitsBytes known loose bytes

-- it is missing where it may be, or has bytes that it may have
abbrev pub FitsShape : Option Shape → Option (List ℕ) → Type 0
FitsShape None None = Unit {0}
FitsShape None (Some bytes) = ⊥
FitsShape (Some s) None = ⊥
FitsShape (Some s) (Some bytes) = FitsBytes s.known s.loose bytes

-- one of these shapes has it
abbrev pub FitsAny : List (Option Shape) → Option (List ℕ) → Type 0
FitsAny [] file = ⊥
FitsAny (s ∷ shapes) file = FitsShape s file ⊎ FitsAny shapes file

-- a stop may leave this of the file
abbrev pub Fits : Fates → Option (List ℕ) → Type 0
Fits fates file = FitsShape fates.last file ⊎ FitsAny fates.others file

-- after a sync: these bytes and no others
abbrev pub synced : List ℕ → Fates
synced bytes = record {
  last = Some (record { known = map (λ b. Some b) bytes; loose = false });
  others = [];
}

-- a file that never was
abbrev pub missing : Fates
missing = record { last = None; others = [] }

-- the bytes of a range are open
abbrev pub opened : ℕ → ℕ → List (Option ℕ) → List (Option ℕ)
opened at n [] = []
opened zero zero (k ∷ known) = k ∷ known
opened zero (suc n) (k ∷ known) = None ∷ opened zero n known
opened (suc at) n (k ∷ known) = k ∷ opened at n known

-- a write opens a range and the end, or makes a missing file, which a stop may leave out
abbrev pub wrote_shape : ℕ → ℕ → Option Shape → List (Option Shape) → Fates
wrote_shape at n None others = record {
  last = Some (record { known = []; loose = true });
  others =
      None ∷ others;
}
wrote_shape at n (Some s) others = record {
  last =
      Some (record { known = opened at n s.known; loose = true });
  others = others;
}

-- after a write of so many bytes at a place, also one that failed
abbrev pub wrote : ℕ → ℕ → Fates → Fates
wrote at n fates = wrote_shape at n fates.last fates.others

-- a removed file may come back
abbrev pub removed : Fates → Fates
removed fates = record { last = None; others = fates.last ∷ fates.others }

-- a removal that failed may have been made
abbrev pub half_removed : Fates → Fates
half_removed fates = record { last = fates.last; others = None ∷ fates.others }
