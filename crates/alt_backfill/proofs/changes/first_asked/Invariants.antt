-- What is asked first is asked from here on.
use Rattle.std.proofs.Common.{◌≡◌}
use Rattle.std.specs.List.{flat_map}
use Rattle.serde_json.specs.View.{members_view}
use Rattle.alt_backfill.specs.private.Asked.{first_asked, first_of}
use Rattle.alt_backfill.proofs.Walks.{changes_from}
use Rattle.alt_backfill.proofs.changes.first_asked.Given as goal
use Rattle.alt_machine.specs.Ops.UpdateTable.{asked_in}

abbrev pub invariant-loop-change : goal.invariant-loop-change
invariant-loop-change l =
    first_of (flat_map (asked_in l.name) (changes_from l.change-index l.change-items))
    ≡ first_asked l.name (members_view l.body.entries)
