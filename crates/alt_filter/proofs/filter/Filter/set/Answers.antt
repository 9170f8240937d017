-- The bit at the place is set, and no other.
use Rattle.std.proofs.Common.{◌∙◌, sym, arith}
use Rattle.alt_filter.proofs.Bits.{set_there, set_elsewhere}
use Rattle.alt_filter.proofs.filter.Filter.set.Goals as goal

pub returns-clause-same : goal.returns-clause-same
returns-clause-same c =
    set_there c.args.self.now.bits c.args.place (omega (arith, c.args.self.now.four, c.ranges.place.fits))

pub returns-clause-other : goal.returns-clause-other
returns-clause-other c = λ other apart.
    let bits = c.args.self.now.bits in
    let kept = set_elsewhere bits c.args.place
    (omega (arith, c.args.self.now.four, c.ranges.place.fits)) other apart in
    ((λ there. sym kept ∙ there), (λ there. kept ∙ there))
