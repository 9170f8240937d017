-- As many act as were counted and are to come.
use Rattle.std.proofs.Common.{◌≡◌, ◌≤◌, ◌+◌, length}
use Rattle.std.specs.List.{filter}
use Rattle.alt_backfill.proofs.Walks.{changes_from}
use Rattle.alt_backfill.proofs.changes.acting.Given as goal
use Rattle.alt_machine.specs.Ops.UpdateTable.{acts}

abbrev pub invariant-loop-change : goal.invariant-loop-change
invariant-loop-change l = (l.count ≤ l.change-index)
    × (l.count + length (filter acts (changes_from l.change-index l.list))
    ≡ length (filter acts (changes_from 0 l.list)))
