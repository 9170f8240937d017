-- The greatest so far.
use Rattle.std.proofs.Common.{◌≡◌, drop, max}
use Rattle.std.specs.FinMap.{entries}
use Rattle.std.specs.List.{fold}
use Rattle.alt_rowblocks.specs.Summaries.{row_latest}
use Rattle.alt_rowblocks.proofs.summary.row_latest.Given as goal

abbrev pub invariant-loop-cell : goal.invariant-loop-cell
invariant-loop-cell l =
    fold (λ n e. max n e.1.at) l.latest (drop l.cell-index (entries l.row.cells)) ≡ row_latest l.row
