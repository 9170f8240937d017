-- A change with a cell is made.
use Rattle.std.proofs.Common.{◌≡◌, false, length}
use Rattle.std.specs.Prelude.{◌==◌}
use Rattle.alt_views.proofs.Moved.{said_new}
use Rattle.alt_views.proofs.changes.change_columns.Goals as goal

pub add-requires : goal.add-requires
add-requires c =
    let some : (length c.in_ok-change.change.cells == 0) ≡ false = cc in
    said_new c.args.batch.now c.in_ok-change.change _ c.in_ok-change.ensures some c.requires.new
