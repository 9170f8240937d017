-- The keys before the value's part.
use Rattle.std.proofs.Common.{◌∙◌}
use Rattle.alt_keycond.proofs.Forms.{under_lt}
use Rattle.alt_keycond.proofs.range.below.Goals as goal

pub returns : goal.returns
returns c =
    under_lt c.args.front.now c.args.value.now c.from_vec.result c.from_vec-2.result
    (c.from_vec.ensures.same ∙ c.in_ok-from_slice.ensures.items)
    (c.from_vec-2.ensures.same ∙ c.in_ok-to.ensures)
