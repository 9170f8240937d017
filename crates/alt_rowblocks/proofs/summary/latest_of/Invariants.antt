-- The greatest so far.
use Rattle.std.proofs.Common.{◌≡◌, drop, max}
use Rattle.std.specs.List.{fold}
use Rattle.alt_rowblocks.specs.Summaries.{latest_of, row_latest}
use Rattle.alt_rowblocks.proofs.summary.latest_of.Given as goal

abbrev pub invariant-loop-entry : goal.invariant-loop-entry
invariant-loop-entry l =
    fold (λ n e. max n (row_latest e.1)) l.latest (drop l.entry-index l.rows) ≡ latest_of l.rows
