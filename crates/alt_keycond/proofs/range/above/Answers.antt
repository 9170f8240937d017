-- The keys from the end of those that go on with the value's part.
use Rattle.std.proofs.Common.{◌∙◌, subst}
use Rattle.alt_keycond.proofs.Under.{Ends}
use Rattle.alt_keycond.proofs.Forms.{under_gt, under_none}
use Rattle.alt_keycond.proofs.range.above.Goals as goal

pub returns-in-Some : goal.returns-in-Some
returns-in-Some c =
    under_gt c.args.front.now c.args.value.now c.as_slice.result.now
    (c.as_slice.ensures.value ∙ c.in_ok-part.ensures) c.end_of-2.ensures.bytes
    c.in-Some.from c.in_ok-to.to
    (subst (Ends c.as_slice.result.now) c.in-Some.is c.in_ok-from.ensures.ends)
    c.in_ok-to.ensures.ends

pub returns : goal.returns
returns c =
    under_none c.args.front.now c.args.value.now c.as_slice.result.now
    (c.as_slice.ensures.value ∙ c.in_ok-part.ensures) c.end_of-2.ensures.bytes
    c.from_vec.result c.from_vec-in-None.result (c.from_vec.ensures.same ∙ c.new.ensures.items)
    (c.from_vec-in-None.ensures.same ∙ c.new-in-None.ensures.items)
    (subst (Ends c.as_slice.result.now) c.in-None.is c.in_ok-from.ensures.ends)
