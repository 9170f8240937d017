-- What the parts of a value are, read straight from the tokens of a text, for private contracts.
use Rattle.std.specs.Prelude.{◌≡◌, ℕ, List, [], ◌∷◌, length, Some, Result, Ok, ⊤}
use Rattle.json.specs.Json.{value, items, members}
use Rattle.json.specs.Token.{Token}
use Rattle.serde_json.specs.Data.{Data, Items, no_items, item, Members, no_members}
use Rattle.serde_json.specs.Read.{of_json, of_items, of_members, converted}
use Rattle.alt_value.specs.Tree.{Pair}
use Rattle.alt_codec.specs.declared.fault.ValueFault.{ValueFault}
use Rattle.alt_codec.specs.Reading.{fields_in}

module _ {A : Type 0} (f : Data → Result A ValueFault) where
  -- The next JSON of these tokens is read as `x`, and those tokens come behind it.
  abbrev pub ReadsBy : ℕ → List Token → A → List Token → Type 0
  ReadsBy depth before x after =
      (d : Data) × (converted of_json (value depth before) ≡ Some (d, after)) × (f d ≡ Ok x)

  -- It is so at each depth, as a text or a truth value is.
  abbrev pub ReadsFlat : List Token → A → List Token → Type 0
  ReadsFlat before x after = (depth : ℕ) → ReadsBy depth before x after

  -- Each of these elements is read as what stands at its place.
  abbrev pub AreReadBy : Items → List A → Type 0
  AreReadBy no_items [] = ⊤
  AreReadBy no_items (x ∷ xs) = ⊥
  AreReadBy (item d ds) [] = ⊥
  AreReadBy (item d ds) (x ∷ xs) = (f d ≡ Ok x) × AreReadBy ds xs

  -- The elements of an array whose bracket was passed are read as these.
  abbrev pub ReadsElements : ℕ → List Token → List A → List Token → Type 0
  ReadsElements depth before xs after = (ds : Items)
      × (converted of_items (items (value depth) (length before) before) ≡ Some (ds, after))
      × AreReadBy ds xs

-- The members of an object whose brace was passed stand for these pairs.
abbrev pub ReadsFields : ℕ → ℕ → List Token → List Pair → List Token → Type 0
ReadsFields depth room before i after = (ms : Members)
    × (converted (λ os. of_members os no_members) (members (value depth) (length before) before)
    ≡ Some (ms, after)) × (fields_in room [] ms ≡ Ok i)
