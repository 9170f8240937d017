-- The last of the rows in hand is the next row, and the others are those behind it.
use Rattle.std.proofs.Common.{arith}
use Rattle.alt_opening.proofs.Ahead.{taken_next, taken_ahead}
use Rattle.alt_opening.proofs.scan.next_row.Goals as goal

pub returns-in-Ok-clause-row : goal.returns-in-Ok-clause-row
returns-in-Ok-clause-row g c tells l reads had =
    taken_next l c.args.family c.args.from.now c.read_ahead.new.ahead.items c.pop.new.self.items
    (c.in-Ok.ensures.ahead tells l reads had) c.pop.result _
    (c.in-Ok.ensures.none tells l reads)
    c.pop.ensures.items c.pop.ensures.variant (omega arith)

pub returns-in-Ok-clause-ahead : goal.returns-in-Ok-clause-ahead
returns-in-Ok-clause-ahead g c tells l reads had =
    taken_ahead l c.args.family c.args.from.now c.read_ahead.new.ahead.items c.pop.new.self.items
    (c.in-Ok.ensures.ahead tells l reads had) c.pop.result c.pop.ensures.items
