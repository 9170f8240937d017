-- No entries are no rows.
use Rattle.std.proofs.Common.{ap, ◌∙◌}
use Rattle.std.specs.FinMap.{from_sorted}
use Rattle.alt_cells.specs.Keys.{key_cmp}
use Rattle.alt_cells.proofs.RowLaws.{from_sorted-nil}
use Rattle.alt_memtable.proofs.table.Memtable.clear.Goals as goal

pub returns-clause-rows : goal.returns-clause-rows
returns-clause-rows c = ap (from_sorted {R = key_cmp}) c.new.ensures.empty ∙ from_sorted-nil
