use Rattle.std.proofs.Common.{arith, ap, length}
use Rattle.alt_gatelog.proofs.Places.{length-gates}
use Rattle.alt_gatelog.proofs.gatelog.GateLog.entries.Goals as goal

pub returns-clause-list : goal.returns-clause-list
returns-clause-list c s entries reads =
    omega (
      arith,
      c.len.ensures,
      c.args.self.now.places.ok.0,
      ap length reads.are_at,
      length-gates 8 entries,
    )
