-- The three parts of a write, one behind another.
use Rattle.std.proofs.lemmas.Result.{on_ok_weaker}
use Rattle.alt_writes.proofs.FormatLaws.{write_bytes_put}
use Rattle.alt_writes.proofs.format.put_write.Goals as goal

pub returns-clause-appended : goal.returns-clause-appended
returns-clause-appended c =
    on_ok_weaker c.put_changes.result
    (write_bytes_put (record { number = c.args.number; changes = c.args.changes.now })
    c.args.out.now.items _ _ _ c.in_ok-put_u64.ensures.ok c.in_ok-put_u64-2.ensures.ok)
    c.put_changes.ensures.appended
