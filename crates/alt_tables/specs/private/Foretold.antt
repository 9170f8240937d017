-- What becomes of the list of the items that are due next where a table gets another time to live; and how many bytes the items have at most
-- that are to be written.
use Rattle.std.specs.Prelude.{◌≡◌, ◌≤◌, ℕ, List, Option, Some, None, IfSome}
use Rattle.alt_due.specs.Due.{CoversNothing}
use Rattle.alt_due.specs.declared.due.Due.{Due}
use Rattle.alt_machine.specs.Ops.BatchWriteItem.{PlacedWrite}
use Rattle.alt_machine.specs.declared.TheConstants.{LARGEST_ITEM}
use Rattle.alt_tables.specs.Several.{Every}
use Rattle.alt_value.specs.Size.{item_size}
use Rattle.alt_value.specs.Tree.{Pair}

-- It is the one from before where no item of the table has a time to live, and else it covers nothing.
pub record TimeToLiveIsTold (ttl : Option (List ℕ)) (old new : Due) : Type 0 where
  pub none : ttl ≡ None → new ≡ old
  pub some : (name : List ℕ) → ttl ≡ Some name → CoversNothing new

-- an item has so many bytes at most, if it has no more than one may have
abbrev pub ItemFits : ℕ → List Pair → Type 0
ItemFits most item = item_size item ≤ LARGEST_ITEM → item_size item ≤ most

-- so has what a write leaves
abbrev pub FitsWrite : ℕ → Option (List Pair) → Type 0
FitsWrite most new = IfSome new (ItemFits most)

-- and what each of several leaves
abbrev pub FitsWrites : ℕ → List PlacedWrite → Type 0
FitsWrites most ws = Every (λ (w : PlacedWrite). FitsWrite most w.new) ws
