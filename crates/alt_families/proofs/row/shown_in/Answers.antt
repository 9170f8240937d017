-- What is found in files, beside the row in memory.
use Rattle.std.proofs.Common.{sym, ap, ◌∙◌}
use Rattle.std.specs.Prelude.{option_and_then}
use Rattle.std.specs.FinMap.{get}
use Rattle.alt_cells.specs.Joined.{either}
use Rattle.alt_cells.specs.Rows.{join_row}
use Rattle.alt_cells.specs.Shown.{row_shown}
use Rattle.alt_families.proofs.OpenLaws.{row_joined}
use Rattle.alt_families.proofs.row.shown_in.Goals as goal

pub returns-in_ok-shown_over-in-Ok-clause-row : goal.returns-in_ok-shown_over-in-Ok-clause-row
returns-in_ok-shown_over-in-Ok-clause-row g c told rows reads =
    c.in_ok-shown_over-in-Ok.ensures
    ∙ ap (λ o. option_and_then row_shown (either join_row (get c.args.family.now.table.0 c.args.key.now) o))
    (c.in-Ok.ensures.row told reads.maps reads.each)
    ∙ sym (ap (option_and_then row_shown)
    (row_joined (g.D.Disk.state c.args.disk.now) c.args.family.now c.args.key.now rows reads))
