use Rattle.std.proofs.Common.{List, ℕ, [], refl, sym, subst}
use Rattle.alt_shell.specs.Log.{Log}
use Rattle.alt_talks.specs.Runs.{Stretch}
use Rattle.alt_talks.specs.private.Rungs.{KnowsLastMoment, Utters}
use Rattle.alt_talks.specs.Stops.{AreWithin, AtEach}
use Rattle.alt_talks.specs.TalkRules.{talk_rules}
use Rattle.alt_talks.specs.TalkStops.{LeftOn}
use Rattle.alt_talks.specs.private.RungStops.{AnswersOn}
use Rattle.alt_talks.specs.Talks.{greets, Turn}
use Rattle.alt_talks.proofs.Stretching.{stretch_none, stretch_as}
use Rattle.alt_talks.proofs.Stepping.{answers_nothing, greets_off, greets_done}
use Rattle.alt_talks.proofs.TalkLaws.{lawful, rules-greeting}
use Rattle.alt_talks.proofs.AnswerLeaving.{greets_on, none_on}
use Rattle.alt_talks.proofs.Timing.{told_none}
use Rattle.alt_talks.proofs.Arriving.{came_none}
use Rattle.alt_talks.proofs.saying.hello.Goals as goal

pub returns-then-not-expect-clause-greeted : goal.returns-then-not-expect-clause-greeted
returns-then-not-expect-clause-greeted g c = λ s last here.
    let a = g.S.Disk.state c.args.shell.now in
    let m = c.args.mute.now in
    let none = greets_off c.args.greeted c.args.expect c.if-not-expect.true in
    stretch_none a {P = KnowsLastMoment last last (AnswersOn talk_rules s m (greets c.args.greeted c.args.expect) s m)} (
      (
        answers_nothing talk_rules s m _ none,
        subst (λ (ts : List Turn). AtEach a a (LeftOn talk_rules s ts [] [])) (sym none)
            (none_on talk_rules a s here),
      ),
      refl,
    )

pub returns-then-greeted-clause-greeted : goal.returns-then-greeted-clause-greeted
returns-then-greeted-clause-greeted g c = λ s last here.
    let a = g.S.Disk.state c.args.shell.now in
    let m = c.args.mute.now in
    let none = greets_done c.args.greeted c.args.expect c.if-greeted.true in
    stretch_none a {P = KnowsLastMoment last last (AnswersOn talk_rules s m (greets c.args.greeted c.args.expect) s m)} (
      (
        answers_nothing talk_rules s m _ none,
        subst (λ (ts : List Turn). AtEach a a (LeftOn talk_rules s ts [] [])) (sym none)
            (none_on talk_rules a s here),
      ),
      refl,
    )

pub returns-clause-greeted : goal.returns-clause-greeted
returns-clause-greeted g c = λ s last here.
    let state = g.S.Disk.state in
    let a = state c.args.shell.now in
    let b = state c.utter.new.shell in
    let m = c.args.mute.now in
    let n = c.utter.new.mute in
    stretch_as a b {P = λ _ _. Utters m talk_rules.greeting n}
    {Q = KnowsLastMoment last last (AnswersOn talk_rules s m (greets c.args.greeted c.args.expect) s n)}
    (λ (es : Log) (ms : List ℕ) (within : AreWithin a.moment b.moment es) u. (
      greets_on talk_rules lawful a b s m n c.args.greeted c.args.expect c.if-not-expect.false
          c.if-greeted.false es ms within here c.utter.ensures.keeps u,
      told_none last ms u.timeless,
    ))
    (subst (λ (bs : List ℕ). Stretch a b (λ _ _. Utters m bs n)) (sym rules-greeting)
    c.utter.ensures.said)

pub returns-then-not-expect-clause-none : goal.returns-then-not-expect-clause-none
returns-then-not-expect-clause-none g c =
    came_none (g.S.Disk.state c.args.shell.now)

pub returns-then-greeted-clause-none : goal.returns-then-greeted-clause-none
returns-then-greeted-clause-none g c =
    came_none (g.S.Disk.state c.args.shell.now)

pub returns-clause-none : goal.returns-clause-none
returns-clause-none g c =
    c.utter.ensures.none
