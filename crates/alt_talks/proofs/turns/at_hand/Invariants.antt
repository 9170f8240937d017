use Rattle.std.proofs.Common.{◌≡◌, false}
use Rattle.alt_machine.specs.State.{State}
use Rattle.alt_shell.specs.Log.{takes_missed, says_missed}
use Rattle.alt_tables.specs.Stands.{Stands, bounds_of}
use Rattle.alt_talks.specs.Arrivals.{Came}
use Rattle.alt_talks.specs.Runs.{LeadsOn, Passes}
use Rattle.alt_talks.specs.private.Rungs.{KnowsLastMoment}
use Rattle.alt_talks.specs.private.RungStops.{MovesOn}
use Rattle.alt_talks.specs.TalkRules.{talk_rules}
use Rattle.alt_talks.specs.private.InHand.{place_of_talk}
use Rattle.alt_talks.proofs.turns.at_hand.Given as goal

abbrev pub invariant-loop-talk : goal.invariant-loop-talk
invariant-loop-talk g l =
    let state = g.S.Disk.state in
    let old = state l.initial.shell in
    let new = state l.shell in
    ((s : State) → Stands old l.initial.tables s → LeadsOn (bounds_of l.initial.tables).file old new l.tables
    (λ t. KnowsLastMoment l.initial.talk.last l.talk.last
    (MovesOn talk_rules (place_of_talk l.initial.talk) s l.initial.talk.mute
    (place_of_talk l.talk) t l.talk.mute)))
    × Passes old new
    × (l.talk.mute ≡ false → says_missed new.beside ≡ false)
    × (takes_missed new.beside ≡ takes_missed old.beside)
    × Came 0 old new

abbrev pub decreases-loop-talk : goal.decreases-loop-talk
decreases-loop-talk g l = l.talk.left
