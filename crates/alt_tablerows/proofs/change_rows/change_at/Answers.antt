-- A row that is none of a change.
use Rattle.std.proofs.Common.{Err, ap}
use Rattle.alt_tablerows.proofs.change_rows.change_at.Goals as goal

pub returns-in-Err-Bad-clause-none : goal.returns-in-Err-Bad-clause-none
returns-in-Err-Bad-clause-none c bad other is =
    c.in-Err-Bad.ensures.none c.in-Err-Bad.field-0-0 (ap (λ f. Err f) c.in-Err-Bad.field-0-is)
    other is.read is.row
