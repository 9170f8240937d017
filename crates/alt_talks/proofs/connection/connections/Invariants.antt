use Rattle.std.proofs.Common.{◌≤◌, ◌-◌, None}
use Rattle.alt_machine.specs.State.{State}
use Rattle.alt_tables.specs.Stands.{Stands, bounds_of}
use Rattle.alt_talks.specs.Arrivals.{Came}
use Rattle.alt_talks.specs.Runs.{LeadsOn, Passes}
use Rattle.alt_talks.specs.private.Rungs.{KnowsLastMoment}
use Rattle.alt_talks.specs.TalkRules.{talk_rules}
use Rattle.alt_talks.proofs.TalkAmong.{SofarOn}
use Rattle.alt_talks.proofs.connection.connections.Given as goal

abbrev pub invariant-loop-served : goal.invariant-loop-served
invariant-loop-served g l =
    let state = g.S.Disk.state in
    let old = state l.initial.shell in
    let new = state l.shell in
    ((s : State) → Stands old l.initial.tables s
    → LeadsOn (bounds_of l.initial.tables).file old new l.tables
    (λ t. KnowsLastMoment None l.last (SofarOn talk_rules l.per l.served s t)))
    × Passes old new
    × (l.served ≤ l.count)
    × Came l.served old new

abbrev pub decreases-loop-served : goal.decreases-loop-served
decreases-loop-served g l = l.count - l.served
