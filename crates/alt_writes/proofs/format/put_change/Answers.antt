-- The five parts of a change, one behind another.
use Rattle.std.proofs.lemmas.Result.{on_ok_weaker}
use Rattle.alt_writes.proofs.FormatLaws.{change_bytes_put}
use Rattle.alt_writes.proofs.format.put_change.Goals as goal

pub returns-clause-appended : goal.returns-clause-appended
returns-clause-appended c =
    on_ok_weaker c.put_cells.result
    (change_bytes_put c.args.change.now c.as_slice.result.now c.as_slice-cells.result.now
    c.clear_byte.result c.args.out.now.items _ _ _ _ _
    c.as_slice.ensures.same c.as_slice-cells.ensures c.clear_byte.ensures
    c.in_ok-put_u32.ensures.ok c.in_ok-put_field.ensures.appended c.in_ok-push.ensures.items
    c.in_ok-put_u64.ensures.ok)
    c.put_cells.ensures.appended
