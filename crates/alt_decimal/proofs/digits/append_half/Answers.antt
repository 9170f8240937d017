use Rattle.std.proofs.Common.{sym}
use Rattle.alt_decimal.proofs.Values.{value_after}
use Rattle.alt_decimal.proofs.digits.append_half.Goals as goal

pub returns : goal.returns
returns c = rw (c.power.ensures, c.half_value.ensures)
    (sym (value_after c.args.c c.args.digits.now))
