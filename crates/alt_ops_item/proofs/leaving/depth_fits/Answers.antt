-- The first value that is too deep makes the item so, and each that isn't is one more.
use Rattle.std.proofs.Common.{sym, ◌∙◌, ◌<◌, length, arith}
use Rattle.alt_ops_item.proofs.Left.{flat-take, too_deep}
use Rattle.alt_ops_item.proofs.leaving.depth_fits.Goals as goal

pub returns-then-not-is_flat_at : goal.returns-then-not-is_flat_at
returns-then-not-is_flat_at c = sym (too_deep c.args.item.now c.loop-i.i
    (sym c.is_flat_at.ensures ∙ c.if-not-is_flat_at.true))

pub loop-i-preserved : goal.loop-i-preserved
loop-i-preserved c =
    let within : c.loop-i.i < length c.args.item.now =
    omega (arith, c.len-i-end.ensures.count, c.loop-i-test.true) in
    flat-take c.args.item.now c.loop-i.i within
    (sym c.is_flat_at.ensures ∙ c.if-not-is_flat_at.false) c.loop-i.invariant
