-- The key of the last row, copied.
use Rattle.std.proofs.Common.{◌∙◌, ap, List, ℕ, Some}
use Rattle.alt_rowblocks.proofs.BlockLaws.{last_at}
use Rattle.alt_rowblocks.proofs.summary.last_of.Goals as goal

pub returns-in_ok-copy-in-Some : goal.returns-in_ok-copy-in-Some
returns-in_ok-copy-in-Some c =
    ap (λ (k : List ℕ). Some k) c.in_ok-copy-in-Some.ensures.same
    ∙ last_at c.args.rows.now c.in-Some.last.now c.in-Some.ensures.value
