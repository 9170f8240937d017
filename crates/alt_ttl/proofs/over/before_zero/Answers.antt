-- Such a moment fits.
use Rattle.std.proofs.Math.IntN.{◌-ℤ◌}
use Rattle.alt_decimal.specs.Number.{units_in}
use Rattle.alt_ttl.proofs.Times.{is_below, no_fault, same_ok}
use Rattle.alt_ttl.proofs.over.before_zero.Goals as goal

pub unreachable-requires : goal.unreachable-requires
unreachable-requires c = no_fault c.subtract.result (units_in 0 -ℤ units_in c.args.count) c.in-Err.field-0
    (is_below c.args.count c.from_count.result c.from_count-later.result c.subtract.result
    c.from_count.ensures.units c.from_count-later.ensures.units c.held.ensures.fits
    c.subtract.ensures) c.in-Err.is

pub returns : goal.returns
returns c = same_ok c.subtract.result c.in-Ok.time (units_in 0 -ℤ units_in c.args.count) c.in-Ok.is
    (is_below c.args.count c.from_count.result c.from_count-later.result c.subtract.result
    c.from_count.ensures.units c.from_count-later.ensures.units c.held.ensures.fits
    c.subtract.ensures)
