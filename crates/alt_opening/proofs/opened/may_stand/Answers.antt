-- The tests tell it.
use Rattle.std.proofs.Common.{arith}
use Rattle.alt_opening.proofs.opened.may_stand.Goals as goal

pub returns : goal.returns
returns c = record {
  may = (
    λ e. record {
      few = let count = c.len.ensures.count in let low = c.if-len-ge-MOST_TABLES.false in
          omega (arith, count, low);
      good = c.is_good.ensures.good.0 c.if-not-is_good.false;
      new = c.is_new.ensures.new.0 c.if-not-is_new.false;
      apart = c.is_apart.ensures.apart.0 e;
    },
    λ m. c.is_apart.ensures.apart.1 m.apart,
  );
}
