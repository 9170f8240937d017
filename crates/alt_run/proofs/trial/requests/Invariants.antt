use Rattle.std.proofs.Common.{◌≡◌, ◌≤◌, ◌<◌, ◌-◌}
use Rattle.alt_disk.specs.Disk.{Goes}
use Rattle.alt_lines.specs.Trial.{generator, next_lines, trial_lines}
use Rattle.alt_tables.specs.Stands.{limits_of_tables}
use Rattle.alt_talks.specs.Works.{HasFewEntries}
use Rattle.alt_run.proofs.Trying.{Trying}
use Rattle.alt_run.proofs.trial.requests.Given as goal

abbrev pub invariant-requests : goal.invariant-requests
invariant-requests g l =
    let state = g.D.Disk.state in
    Trying (state l.initial.disk) l.initial.tables (state l.disk) l.tables l.tally
    (trial_lines l.seed l.count) (next_lines (l.count - l.counter) (generator l.trial))
    × (l.tally.good ≤ l.counter) × (l.tally.bad ≤ l.counter)
    × Goes (state l.initial.disk) (state l.disk)
    × (limits_of_tables l.tables ≡ limits_of_tables l.initial.tables)
    × (0 < l.counter → HasFewEntries (limits_of_tables l.initial.tables).flush (state l.disk))
