-- The bytes of one cell more.
use Rattle.std.proofs.Common.{length, ap, ◌∙◌, arith}
use Rattle.std.proofs.lemmas.List.{take_all}
use Rattle.std.specs.List.{flat_map}
use Rattle.alt_cells.specs.Format.{cell_bytes}
use Rattle.alt_memtable.specs.Rows.{more_bytes}
use Rattle.alt_memtable.proofs.Sizes.{cells_more}
use Rattle.alt_memtable.proofs.size.with_cells.Goals as goal

pub loop-entry-preserved : goal.loop-entry-preserved
loop-entry-preserved c =
    let more = cells_more c.args.cells.now c.loop-entry.entry-index c.entry-item.result
    c.loop-entry-test.true c.entry-item.is in record {
      within = omega (arith, c.with_cell-count.ensures);
      counted = omega (arith, c.with_cell-count.ensures, c.loop-entry.invariant.counted, more);
    }

pub returns : goal.returns
returns c =
    c.loop-entry.invariant.counted
    ∙ ap (λ l. more_bytes c.args.count (length (flat_map cell_bytes l)))
    (take_all c.loop-entry.entry-index c.args.cells.now (omega arith))
