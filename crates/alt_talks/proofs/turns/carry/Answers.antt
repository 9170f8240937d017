use Rattle.std.proofs.Common.{ℕ, List, [], ◌∷◌, false, subst}
use Rattle.alt_machine.specs.State.{State}
use Rattle.alt_shell.specs.Log.{Log}
use Rattle.alt_tables.specs.Stands.{bounds_of}
use Rattle.alt_talks.specs.Runs.{Stretch}
use Rattle.alt_talks.specs.private.Rungs.{KnowsLastMoment}
use Rattle.alt_talks.specs.TalkRules.{talk_rules}
use Rattle.alt_talks.specs.private.RungStops.{AnswersOn, AnswersSomeOn, CarriesOn}
use Rattle.alt_talks.specs.private.InHand.{place_of_talk, head_in, asking}
use Rattle.alt_talks.specs.Talks.{asked, at, Request}
use Rattle.alt_talks.proofs.Stepping.{asking_same, left_at}
use Rattle.alt_talks.proofs.TalkReach.{reach_as}
use Rattle.alt_talks.proofs.turns.carry.Goals as goal

pub returns-clause-carried : goal.returns-clause-carried
returns-clause-carried g c = λ s stands.
    let state = g.S.Disk.state in
    let a = state c.args.shell.now in
    let d = state c.respond.new.shell in
    let p = place_of_talk c.args.talk.now in
    let h = head_in c.args.head.now in
    let m = c.args.talk.now.mute in
    let n = c.respond.new.mute in
    let q = at c.left_after-talk.result false c.pass.new.self in
    let body = c.body_in.result.now in
    let last = c.is_last-last.result in
    let before = c.args.talk.now.last in
    let behind = c.respond.new.last in
    let same = asking_same h p.bytes c.as_slice.result.now body p.left last
    c.as_slice.ensures.same c.body_in.ensures c.is_last-last.ensures in
    reach_as a d (bounds_of c.args.tables.now).file c.respond.new.tables
    (λ t. KnowsLastMoment before behind (AnswersOn talk_rules s m (asked (asking h.target body last) ∷ []) t n))
    (λ t. KnowsLastMoment before behind (CarriesOn talk_rules h p s m q t n))
    (λ (t : State) (es : Log) (ms : List ℕ) x.
    let y = subst (λ (r : Request). AnswersOn talk_rules s m (asked r ∷ []) t n a d es ms) same x.0 in (
      (
        record {
          answers = y.0;
          place = left_at h p c.left_after-talk.result c.pass.new.self
              c.left_after-talk.ensures.left c.pass.ensures;
        },
        y.1,
      ),
      x.1,
    ))
    (c.in-Ok.ensures.answered s stands)

pub returns-in-Err-clause-carried : goal.returns-in-Err-clause-carried
returns-in-Err-clause-carried g c = λ s stands.
    let state = g.S.Disk.state in
    let a = state c.args.shell.now in
    let d = state c.respond.new.shell in
    let p = place_of_talk c.args.talk.now in
    let h = head_in c.args.head.now in
    let m = c.args.talk.now.mute in
    let body = c.body_in.result.now in
    let last = c.is_last-last.result in
    let fault = c.in-Err.fault in
    let next = (bounds_of c.args.tables.now).file in
    let same = asking_same h p.bytes c.as_slice.result.now body p.left last
    c.as_slice.ensures.same c.body_in.ensures c.is_last-last.ensures in
    subst (λ (r : Request). Stretch a d (AnswersSomeOn talk_rules fault next s m (asked r ∷ [])))
    same (c.in-Err.ensures.answered s stands)

pub returns-clause-none : goal.returns-clause-none
returns-clause-none g c =
    c.in-Ok.ensures.none

pub returns-in-Err-clause-none : goal.returns-in-Err-clause-none
returns-in-Err-clause-none g c =
    c.in-Err.ensures.none
