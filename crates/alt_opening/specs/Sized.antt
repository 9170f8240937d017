-- How many bytes the items of tables have at most, as it is known while a store is open.
use Rattle.std.specs.Prelude.{◌≡◌, ◌≤◌, ℕ, List, Some}
use Rattle.std.specs.FinMap as map
use Rattle.alt_machine.specs.State.{Table, Texts}
use Rattle.alt_value.specs.Size.{item_size}
use Rattle.alt_value.specs.Tree.{Pair}

-- no item of these tables has more
abbrev pub AreSized : Texts Table → ℕ → Type 0
AreSized tables largest = (name place : List ℕ) (t : Table) (item : List Pair)
    → map.get tables name ≡ Some t → map.get t.items place ≡ Some item → item_size item ≤ largest
