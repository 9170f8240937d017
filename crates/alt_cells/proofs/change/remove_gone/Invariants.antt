-- The removals so far stand behind what was there.
use Rattle.std.proofs.Common.{◌≡◌, ◌++◌, map, take}
use Rattle.std.specs.Prelude.{is_none}
use Rattle.std.specs.FinMap.{get}
use Rattle.std.specs.FinMap.Entries.{where_key}
use Rattle.alt_cells.specs.Keys.{key_cmp}
use Rattle.alt_cells.specs.Changes.{without_value}
use Rattle.alt_cells.proofs.change.remove_gone.Given as goal

abbrev pub invariant-loop-name : goal.invariant-loop-name
invariant-loop-name l = l.cells
    ≡ l.fn.cells ++ map without_value
    (where_key key_cmp (λ q. is_none (get l.new q)) (take l.name-index l.name-items))
