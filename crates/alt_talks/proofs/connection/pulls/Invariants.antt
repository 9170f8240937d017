use Rattle.std.proofs.Common.{◌≡◌, ◌-◌, ◌^◌, true, false}
use Rattle.alt_machine.specs.State.{State}
use Rattle.alt_shell.specs.Log.{takes_missed, says_missed}
use Rattle.alt_tables.specs.Stands.{Stands, bounds_of}
use Rattle.alt_talks.specs.Arrivals.{Came}
use Rattle.alt_talks.specs.Runs.{LeadsOn, Passes}
use Rattle.alt_talks.specs.private.Rungs.{KnowsLastMoment, AtRest}
use Rattle.alt_talks.specs.private.RungStops.{GoesOn}
use Rattle.alt_talks.specs.TalkRules.{talk_rules}
use Rattle.alt_talks.specs.private.InHand.{place_of_talk}
use Rattle.alt_talks.proofs.connection.pulls.Given as goal

abbrev pub invariant-pulls : goal.invariant-pulls
invariant-pulls g l =
    let state = g.S.Disk.state in
    let old = state l.initial.shell in
    let new = state l.shell in
    ((s : State) → Stands old l.initial.tables s → AtRest talk_rules (place_of_talk l.initial.talk)
    → LeadsOn (bounds_of l.initial.tables).file old new l.tables
    (λ t. KnowsLastMoment l.initial.talk.last l.talk.last
    (GoesOn talk_rules true (place_of_talk l.initial.talk) s l.initial.talk.mute
    (place_of_talk l.talk) t l.talk.mute)))
    × Passes old new
    × (l.talk.mute ≡ false → says_missed new.beside ≡ false)
    × (takes_missed new.beside ≡ false)
    × Came 0 old new

abbrev pub decreases-pulls : goal.decreases-pulls
decreases-pulls g l = 2 ^ 64 - 1 - (g.S.Disk.state l.shell).moment
