use Rattle.std.proofs.Common.{◌≡◌, length}
use Rattle.alt_lines.specs.Reader.{unread}
use Rattle.alt_lines.specs.Unread.{lines_now}
use Rattle.alt_tables.specs.Stands.{limits_of_tables}
use Rattle.alt_talks.specs.Runs.{Passes}
use Rattle.alt_run.proofs.Hands.{Hands}
use Rattle.alt_run.proofs.serve.at_hand.Given as goal

abbrev pub invariant-lines : goal.invariant-lines
invariant-lines g l =
    let state = g.S.Disk.state in
    Hands l.limits.flush (state l.initial.shell) l.initial.tables (state l.shell) l.tables (unread l.initial.lines)
    (unread l.lines)
    × Passes (state l.initial.shell) (state l.shell)
    × (limits_of_tables l.tables ≡ l.limits)

abbrev pub decreases-lines : goal.decreases-lines
decreases-lines g l = length (lines_now (unread l.lines))
