-- The row has the bytes alone, or both.
use Rattle.std.proofs.Common.{◌∙◌}
use Rattle.alt_tablerows.proofs.TableRow.{none_told, one_described}
use Rattle.alt_tablerows.proofs.catalog_row.cells_of.Goals as goal

pub returns-in-Some-clause-cells : goal.returns-in-Some-clause-cells
returns-in-Some-clause-cells c = c.in-Some.ensures.value ∙ one_described c.in-Some.bytes.now

pub returns-in-None-clause-none : goal.returns-in-None-clause-none
returns-in-None-clause-none c time bytes same = none_told c.args.row.now time bytes
    c.in_default.ensures.none c.in-None.ensures.none same
