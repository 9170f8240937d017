-- A name more that is above the last one, and names that rise from each place to the next.
use Rattle.std.proofs.Common.{arith, add-one}
use Rattle.alt_cells.specs.Keys.{key_cmp}
use Rattle.alt_cells.proofs.CellLaws.{key_total}
use Rattle.alt_cells.proofs.Searched.{sorted_adjacent}
use Rattle.alt_cells.proofs.change.is_rising.Goals as goal

pub returns-clause-rising : goal.returns-clause-rising
returns-clause-rising c = λ _.
    sorted_adjacent key_cmp key_total c.args.given.now
    (λ k d within. rw (← add-one) (c.loop-at.invariant k d (omega arith)))
