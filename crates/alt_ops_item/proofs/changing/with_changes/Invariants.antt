-- The changes so far are made.
use Rattle.std.proofs.Common.{◌≡◌}
use Rattle.alt_ops_item.specs.private.Updates.{with_changes}
use Rattle.alt_ops_item.proofs.changing.with_changes.Given as goal

abbrev pub invariant-loop-change : goal.invariant-loop-change
invariant-loop-change l = l.item ≡ with_changes l.yielded l.fn.item
