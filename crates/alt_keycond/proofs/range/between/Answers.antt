-- The keys from one part up to the end of those that go on with another.
use Rattle.std.proofs.Common.{◌∙◌}
use Rattle.alt_keycond.proofs.Forms.{under_between}
use Rattle.alt_keycond.proofs.range.between.Goals as goal

pub returns : goal.returns
returns c =
    under_between c.args.front.now c.args.high.now c.as_slice.result.now
    (c.as_slice.ensures.value ∙ c.in_ok-last.ensures) c.end_of.ensures.bytes
    c.args.low.now c.from_vec.result c.in_ok-to.to
    (c.from_vec.ensures.same ∙ c.in_ok-from.ensures) c.in_ok-to.ensures.ends
