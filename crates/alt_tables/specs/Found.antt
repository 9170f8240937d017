-- What was found at a place of a table.
use Rattle.std.specs.Prelude.{◌≡◌, ℕ, List, [], ◌∷◌, Option, Some, None}
use Rattle.std.specs.FinMap as map
use Rattle.alt_machine.specs.State.{State, Table}
use Rattle.alt_tables.specs.declared.finding.Found.{Found}

-- It is the item that stands at the place in the table of that name.
abbrev pub IsFoundInTable : State → List ℕ → Found → Type 0
IsFoundInTable s name found = (t : Table) → map.get s.tables name ≡ Some t
    → found.item ≡ map.get t.items found.place

-- the number that these writes take, none where there are none
abbrev pub number_taken : ℕ → List State → Option ℕ
number_taken number [] = None
number_taken number (t ∷ ts) = Some number
