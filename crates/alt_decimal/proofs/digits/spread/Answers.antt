use Rattle.std.proofs.Common.{refl}
use Rattle.alt_decimal.proofs.Padded.{spread_is}
use Rattle.alt_decimal.proofs.digits.spread.Goals as goal

pub returns : goal.returns
returns c = spread_is c.args.zero c.args.n c.put_half.new.out _ c.put_half-2.new.out refl
    c.put_half.ensures c.put_half-2.ensures
