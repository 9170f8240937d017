-- The bytes so far, and those to come.
use Rattle.std.proofs.Common.{◌≡◌, ◌++◌, drop}
use Rattle.std.specs.List.{flat_map}
use Rattle.alt_rowblocks.specs.Format.{mark_bytes}
use Rattle.alt_rowblocks.proofs.tail.put_marks.Given as goal

abbrev pub invariant-loop-mark : goal.invariant-loop-mark
invariant-loop-mark l =
    l.out.items ++ flat_map mark_bytes (drop l.mark-index l.marks) ≡ l.fn.out.items
    ++ flat_map mark_bytes l.marks
