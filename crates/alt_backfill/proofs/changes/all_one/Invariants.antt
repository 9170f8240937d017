-- Those so far are each one of the three.
use Rattle.std.proofs.Common.{◌≡◌}
use Rattle.std.specs.List.{list_all}
use Rattle.alt_backfill.proofs.Walks.{changes_from}
use Rattle.alt_backfill.proofs.changes.all_one.Given as goal
use Rattle.alt_machine.specs.Ops.UpdateTable.{is_one}

abbrev pub invariant-loop-change : goal.invariant-loop-change
invariant-loop-change l = list_all is_one (changes_from l.change-index l.list)
    ≡ list_all is_one (changes_from 0 l.list)
