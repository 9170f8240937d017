use Rattle.std.proofs.Common.{refl}
use Rattle.std.specs.FinMap.{from_sorted}
use Rattle.std.specs.Option.{option_copied}
use Rattle.alt_memtable.proofs.Ordered.{range_is}
use Rattle.alt_memtable.proofs.walk.MemWalkRowSource.seek.Goals as goal

pub returns-clause-sought : goal.returns-clause-sought
returns-clause-sought g c t rows h =
    range_is c.args.self.now.rows.now.entries c.range-self.result rows
    (option_copied c.args.from) c.args.forward c.in_ok-bounds_of.field-0.0
    c.in_ok-bounds_of.field-0.1 c.range-self.ensures.ordered h c.in_ok-bounds_of.ensures.0
    c.in_ok-bounds_of.ensures.1 (c.range-self.ensures.between tt)

pub returns-clause-given : goal.returns-clause-given
returns-clause-given g c = (
  refl,
  range_is c.args.self.now.rows.now.entries c.range-self.result
      (from_sorted c.args.self.now.rows.now.entries)
      (option_copied c.args.from) c.args.forward c.in_ok-bounds_of.field-0.0
      c.in_ok-bounds_of.field-0.1 c.range-self.ensures.ordered refl c.in_ok-bounds_of.ensures.0
      c.in_ok-bounds_of.ensures.1 (c.range-self.ensures.between tt),
)
