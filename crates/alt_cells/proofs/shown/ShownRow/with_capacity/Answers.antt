-- No entries are the empty map.
use Rattle.std.proofs.Common.{[], ap, ◌∙◌}
use Rattle.std.specs.FinMap.{from_sorted, entries, entries-from_sorted}
use Rattle.alt_cells.specs.Keys.{key_cmp}
use Rattle.alt_cells.proofs.RowLaws.{from_sorted-nil}
use Rattle.alt_cells.proofs.shown.ShownRow.with_capacity.Goals as goal

pub returns-clause-empty : goal.returns-clause-empty
returns-clause-empty c =
    ap (from_sorted {R = key_cmp}) c.in_ok-entries.ensures.items ∙ from_sorted-nil

pub returns-clause-none : goal.returns-clause-none
returns-clause-none c =
    ap (λ es. entries (from_sorted {R = key_cmp} es)) c.in_ok-entries.ensures.items
    ∙ entries-from_sorted key_cmp [] tt
