-- More than 8 bytes tell no number.
use Rattle.std.proofs.Common.{arith}
use Rattle.alt_tablerows.proofs.TrimmedRow.{not_told}
use Rattle.alt_tablerows.proofs.trimmed_row.number_told.Goals as goal

pub returns-in_default : goal.returns-in_default
returns-in_default c = not_told c.args.bytes.now
    (λ e. omega (arith, e, c.in-Ok.ensures.ok.1, c.if-end-bytes.false))
