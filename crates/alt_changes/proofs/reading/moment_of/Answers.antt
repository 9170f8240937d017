-- Eight bytes are read, and nothing stands behind them.
use Rattle.std.proofs.Common.{rules, sym, arith}
use Rattle.alt_changes.proofs.Found.{moment_behind, moment_whole}
use Rattle.alt_changes.proofs.reading.moment_of.Goals as goal
use Rattle.alt_fields.proofs.Faults.{one_place}

pub returns-in-Ok-clause-moment : goal.returns-in-Ok-clause-moment
returns-in-Ok-clause-moment c = (
  search rules,
  moment_whole c.args.bytes.now c.in-Ok.moment c.in-Ok.end c.in-Ok.ensures.ok.0
      c.in-Ok.ensures.ok.1 (omega (arith, c.if-end-bytes.true)),
)

pub returns-in-Ok-2-clause-bad : goal.returns-in-Ok-2-clause-bad
returns-in-Ok-2-clause-bad c at bad = moment_behind c.args.bytes.now c.in-Ok.moment c.in-Ok.end at
    c.in-Ok.ensures.ok.0 c.in-Ok.ensures.ok.1
    (λ e. omega (arith, e, c.if-end-bytes.false)) (sym (one_place c.in-Ok.end at bad))
