-- The keys up to the end of those that go on with the value's part.
use Rattle.std.proofs.Common.{◌∙◌}
use Rattle.alt_keycond.proofs.Forms.{under_le}
use Rattle.alt_keycond.proofs.range.up_to.Goals as goal

pub returns : goal.returns
returns c =
    under_le c.args.front.now c.args.value.now c.as_slice.result.now
    (c.as_slice.ensures.value ∙ c.in_ok-part.ensures) c.end_of.ensures.bytes
    c.from_vec.result c.in_ok-to.to (c.from_vec.ensures.same
    ∙ c.in_ok-from_slice.ensures.items) c.in_ok-to.ensures.ends
