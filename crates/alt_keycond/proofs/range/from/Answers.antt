-- The keys from the value's part on.
use Rattle.std.proofs.Common.{◌∙◌}
use Rattle.alt_keycond.proofs.Forms.{under_ge}
use Rattle.alt_keycond.proofs.range.from.Goals as goal

pub returns : goal.returns
returns c =
    under_ge c.args.front.now c.args.value.now c.from_vec.result c.in_ok-to.to
    (c.from_vec.ensures.same ∙ c.in_ok-from.ensures) c.in_ok-to.ensures.ends
