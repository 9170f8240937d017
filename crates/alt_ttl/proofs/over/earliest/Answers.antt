-- The moment lies behind 1970 or before.
use Rattle.std.proofs.Common.{◌^◌, ◌∙◌, arith}
use Rattle.alt_machine.specs.declared.TheConstants.{FIVE_YEARS}
use Rattle.alt_ttl.proofs.Times.{earlier, later}
use Rattle.alt_ttl.proofs.over.earliest.Goals as goal

pub returns-then-moment-ge-FIVE_YEARS : goal.returns-then-moment-ge-FIVE_YEARS
returns-then-moment-ge-FIVE_YEARS c = c.from_count.ensures.units
    ∙ later FIVE_YEARS c.args.moment (10 ^ 167) (omega (arith, c.if-moment-ge-FIVE_YEARS.true))

pub returns : goal.returns
returns c = c.before_zero.ensures
    ∙ earlier c.args.moment FIVE_YEARS (10 ^ 167) (omega (arith, c.if-moment-ge-FIVE_YEARS.false))
