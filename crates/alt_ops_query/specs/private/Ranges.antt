-- Parts of ranges of places.
use Rattle.std.specs.Prelude.{◌≡◌, ◌↔◌, ℕ, Bool, true, List, Option}
use Rattle.alt_keyorder.specs.Range.{IsBelow, IsBelowEnd, IsInRange}
use Rattle.alt_machine.specs.Walks.{is_beyond}

-- The second range holds those keys of the first that are beyond a place, in a direction.
abbrev pub IsBeyond : Bool → Option (List ℕ) → List ℕ → Option (List ℕ) → List ℕ → Option (List ℕ)
    → Type 0
IsBeyond forward place from to first last = (key : List ℕ)
    → IsInRange first last key ↔ (IsInRange from to key × (is_beyond forward place key ≡ true))

-- An end is the lesser of a range's end and a place: what is below both is below it.
abbrev pub IsLesser : Option (List ℕ) → List ℕ → List ℕ → Type 0
IsLesser to place end = (key : List ℕ) → IsBelow key end ↔ (IsBelowEnd key to × IsBelow key place)
