use Rattle.std.proofs.Common.{◌∙◌, ap}
use Rattle.std.specs.Ordering.{is_lt}
use Rattle.alt_cells.specs.Keys.{key_cmp}
use Rattle.alt_rowblocks.proofs.BlockLaws.{less_tested}
use Rattle.alt_rowblocks.proofs.blocks.is_above.Goals as goal

pub returns-in-Some : goal.returns-in-Some
returns-in-Some c =
    let t = less_tested c.is_lt.result (key_cmp c.in-Some.last c.args.key.now)
    (c.is_lt.ensures
    ∙ ap is_lt (c.cmp.ensures
    ∙ (λ i. key_cmp (c.as_slice.ensures.same i) (c.as_slice-in-Some.ensures.same i)))) in
    rw c.in-Some.is t
