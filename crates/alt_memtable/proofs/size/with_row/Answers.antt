-- The tombstone, the count, and then the cells.
use Rattle.std.proofs.Common.{◌≡◌, length, sym, ap, ◌∙◌, arith}
use Rattle.std.specs.Prelude.{if◌then◌else◌}
use Rattle.std.specs.List.{flat_map}
use Rattle.alt_cells.specs.Format.{cell_bytes}
use Rattle.alt_memtable.proofs.Sizes.{row_counted}
use Rattle.alt_memtable.proofs.size.with_row.Goals as goal
use Rattle.alt_memtable.proofs.size.with_row.Goals.{then-is_some, else-is_some}

pub returns : goal.returns
returns c =
    let head : c.if-is_some.head ≡ (if c.is_some.result then 17 else 9) = elim c.if-is_some.branch [
      | then-is_some w ↦ w.head-is ∙ ap (λ b. if b then 17 else 9) (sym w.if-is_some.true)
      | else-is_some w ↦ w.head-is ∙ ap (λ b. if b then 17 else 9) (sym w.if-is_some.false)
    ] in
    let whole = row_counted c.args.row.now c.is_some.result c.if-is_some.head c.is_some.ensures head
    in
    let cells = ap (λ es. length (flat_map cell_bytes es)) c.as_slice-cells.ensures.entries in
    omega (arith, whole, cells, c.with_more.ensures, c.with_cells.ensures)
