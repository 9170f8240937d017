-- The larger of that number and 1 is no smaller.
use Rattle.std.proofs.Common.{◌≤◌, arith}
use Rattle.alt_tables.proofs.Sizing.{sized_up}
use Rattle.alt_tables.proofs.tables.Tables.largest.Goals as goal

pub returns-clause-sized : goal.returns-clause-sized
returns-clause-sized c disk s stands =
    let up : c.args.self.now.largest ≤ c.max.result = grind (arith, c.max.ensures) in
    sized_up s.tables c.args.self.now.largest c.max.result up stands.sized
