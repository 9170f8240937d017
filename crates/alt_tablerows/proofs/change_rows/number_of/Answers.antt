-- Eight bytes are read, and nothing stands behind them.
use Rattle.std.proofs.Common.{◌∙◌, Some, sym, ap, rules, arith}
use Rattle.alt_changes.proofs.Found.{moment_whole}
use Rattle.alt_tablerows.proofs.NumberKeys.{key_one}
use Rattle.alt_tablerows.proofs.change_rows.number_of.Goals as goal

pub returns-in-Ok-clause-number : goal.returns-in-Ok-clause-number
returns-in-Ok-clause-number c = (
  search rules,
  moment_whole c.args.key.now c.in-Ok.number c.in-Ok.end c.in-Ok.ensures.ok.0
      c.in-Ok.ensures.ok.1 (omega (arith, c.if-end-key.true)),
)

pub returns-in-Ok-clause-none : goal.returns-in-Ok-clause-none
returns-in-Ok-clause-none c n small is =
    let read = moment_whole c.args.key.now c.in-Ok.number c.in-Ok.end c.in-Ok.ensures.ok.0
    c.in-Ok.ensures.ok.1 (omega (arith, c.if-end-key.true)) in
    ap Some (key_one c.in-Ok.number n (search rules) small (sym read ∙ is))
