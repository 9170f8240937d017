use Rattle.std.proofs.Common.{◌≡◌, ◌-◌, ◌^◌, false}
use Rattle.alt_lines.specs.Reader.{unread}
use Rattle.alt_machine.specs.State.{State}
use Rattle.alt_tables.specs.Stands.{Stands, bounds_of, limits_of_tables}
use Rattle.alt_run.specs.private.Brought.{BringsSome}
use Rattle.alt_talks.specs.Runs.{Passes, Leads}
use Rattle.alt_run.specs.private.Rungs.{ServesInput}
use Rattle.alt_run.proofs.Pulling.{fresh}
use Rattle.alt_run.proofs.running.pulls.Given as goal

abbrev pub invariant-pulls : goal.invariant-pulls
invariant-pulls g l =
    let state = g.S.Disk.state in
    ((s : State) → Stands (state l.initial.shell) l.initial.tables s
    → Leads (state l.initial.shell) (state l.shell) l.tables
    (λ t. ServesInput (bounds_of l.initial.tables).file s fresh (bounds_of l.tables).file t
    (unread l.lines)))
    × Passes (state l.initial.shell) (state l.shell)
    × ((unread l.lines).ended ≡ false)
    × BringsSome l.limits.flush fresh (unread l.lines) (state l.initial.shell) (state l.shell)
    × (limits_of_tables l.tables ≡ l.limits)

abbrev pub decreases-pulls : goal.decreases-pulls
decreases-pulls g l = 2 ^ 64 - 1 - (g.S.Disk.state l.shell).moment
