use Rattle.std.proofs.Common.{◌∙◌, ◌≤◌, ◌+◌, List, [], ◌∷◌, not, Some, sym, subst}
use Rattle.alt_disk.proofs.Runs.{trusted_back}
use Rattle.alt_machine.specs.Outcomes.{last_state}
use Rattle.alt_machine.specs.State.{State}
use Rattle.alt_tables.proofs.Left.{stands_left}
use Rattle.alt_tables.specs.EngineInHand.{Bounds}
use Rattle.alt_tables.specs.Images.{StandsFor}
use Rattle.alt_tables.specs.FilesLeft.{most_files}
use Rattle.alt_tables.specs.Stands.{Stands, bounds_of}
use Rattle.alt_talks.specs.Own.{FollowsNot, own_behind}
use Rattle.alt_talks.specs.Runs.{Counting}
use Rattle.alt_talks.specs.private.Rungs.{KnowsLastMoment}
use Rattle.alt_talks.specs.Stops.{AtEach, IsUncut}
use Rattle.alt_talks.specs.TalkRules.{talk_rules, left_by, outcome_of}
use Rattle.alt_talks.specs.private.RungStops.{AnswersOn}
use Rattle.alt_talks.specs.private.InHand.{asking}
use Rattle.alt_talks.specs.Talks.{asked}
use Rattle.alt_talks.proofs.Owning.{enough_both}
use Rattle.alt_talks.proofs.Responding.{asked_fault, asked_reach, follow_made, follow_broke, own_follows}
use Rattle.alt_talks.proofs.Stopping.{ready_kept, stands_kept}
use Rattle.alt_talks.proofs.Stretching.{stretch_as}
use Rattle.alt_talks.proofs.TalkLaws.{lawful, rules-atoms, rules-left, rules-next, rules-reply, rules-wants}
use Rattle.alt_talks.proofs.AnswerLeaving.{Asked, asked_of, asked_some_on}
use Rattle.alt_talks.proofs.Arriving.{came_goes, came_silent, came_then}
use Rattle.alt_talks.proofs.saying.respond.Goals as goal

pub response-requires-clause-ready : goal.response-requires-clause-ready
response-requires-clause-ready g c =
    let state = g.S.Disk.state in
    ready_kept (state c.args.shell.now) (state c.now-moment.new.self) c.args.tables.now
    c.now-moment.ensures.call.keeps c.requires.ready

pub follow-requires : goal.follow-requires
follow-requires g c =
    let state = g.S.Disk.state in
    let old = state c.args.shell.now in
    let mid = state c.now-moment.new.self in
    let done = state c.response.new.disk in
    record {
      ready = ready_kept done (state c.utter.new.shell) c.response.new.tables c.utter.ensures.keeps
          (λ trusted.
          let first = ready_kept old mid c.args.tables.now c.now-moment.ensures.call.keeps
          c.requires.ready (trusted_back mid done c.in-Ok.ensures.goes trusted) in (
            last_state first.0 (outcome_of first.0
                (asking c.args.target.now c.args.body.now c.args.close) c.now-moment.result).atoms,
            c.in-Ok.ensures.state first.0 first.1,
          ));
    }

pub returns-in-Ok-follow-clause-answered : goal.returns-in-Ok-follow-clause-answered
returns-in-Ok-follow-clause-answered g c = λ s stands.
    let state = g.S.Disk.state in
    let old = state c.args.shell.now in
    let mid = state c.now-moment.new.self in
    let done = state c.response.new.disk in
    let new = state c.utter.new.shell in
    let last = state c.follow.new.disk in
    let at = c.now-moment.result in
    let q = asking c.args.target.now c.args.body.now c.args.close in
    let here = stands_kept old mid c.now-moment.ensures.call.keeps c.args.tables.now s stands in
    let left = left_by s q at in
    let after = c.in-Ok.ensures.state s here in
    let there = stands_kept done new c.utter.ensures.keeps c.response.new.tables left after in
    let t = talk_rules.next s q at in
    let m = c.args.mute.now in
    let n = c.utter.new.mute in
    let before = c.args.last.now in
    let next = (bounds_of c.args.tables.now).file in
    let k = (bounds_of c.follow.new.tables).file in
    record {
      to = t;
      stands = subst (λ (u : State). Stands last c.follow.new.tables u) (sym (rules-next s q at))
          (c.in-Ok-follow.ensures.stands left there);
      calls = stretch_as old last {P = KnowsLastMoment before (Some at) (AnswersOn talk_rules s m (asked q ∷ []) t n)}
          {Q = Counting next k (KnowsLastMoment before (Some at) (AnswersOn talk_rules s m (asked q ∷ []) t n))}
          (λ es ms within x. (
            x,
            asked_reach talk_rules s t m n q es ms next k x.0.0.does
                (subst (λ (b : Bounds). k ≤ b.file + most_files) c.in-Ok.ensures.limits
                (c.in-Ok-follow.ensures.files left there)),
          ))
          (follow_made talk_rules lawful old done new last s m n q at
          c.deref.result.now
          (asked_of talk_rules old mid done s q at c.now-moment.ensures.call c.now-moment.ensures.log
          c.now-moment.ensures.told c.in-Ok.ensures.goes
          (subst (λ (atoms : List State). AtEach mid done (λ _ image. IsUncut image s atoms))
          (sym (rules-atoms s q at)) (c.in-Ok.ensures.leaves s here)))
          (λ trusted image is. subst (StandsFor image) (sym (rules-left s q at))
          (stands_left done c.response.new.tables left after image is))
          c.utter.ensures.keeps
          (c.deref.ensures.value ∙ c.in-Ok.ensures.text s here ∙ sym (rules-reply s q at))
          c.utter.ensures.said
          (own_follows new last s q at (c.in-Ok-follow.ensures.follows left there))
          before (rules-wants s q at ∙ enough_both _ _ (c.in-Ok.ensures.enough s here)
          (c.in-Ok-follow.ensures.enough left there)));
    }

pub returns-clause-answered : goal.returns-clause-answered
returns-clause-answered g c = λ s stands.
    let state = g.S.Disk.state in
    let old = state c.args.shell.now in
    let mid = state c.now-moment.new.self in
    let done = state c.response.new.disk in
    let new = state c.utter.new.shell in
    let last = state c.follow.new.disk in
    let at = c.now-moment.result in
    let q = asking c.args.target.now c.args.body.now c.args.close in
    let here = stands_kept old mid c.now-moment.ensures.call.keeps c.args.tables.now s stands in
    let left = left_by s q at in
    let after = c.in-Ok.ensures.state s here in
    let there = stands_kept done new c.utter.ensures.keeps c.response.new.tables left after in
    follow_broke old done new last s c.args.mute.now c.utter.new.mute q at
    c.deref.result.now
    (asked_of talk_rules old mid done s q at c.now-moment.ensures.call c.now-moment.ensures.log
    c.now-moment.ensures.told c.in-Ok.ensures.goes
    (subst (λ (atoms : List State). AtEach mid done (λ _ image. IsUncut image s atoms))
    (sym (rules-atoms s q at)) (c.in-Ok.ensures.leaves s here)))
    (λ trusted image is. subst (StandsFor image) (sym (rules-left s q at))
    (stands_left done c.response.new.tables left after image is))
    c.utter.ensures.keeps
    (c.deref.ensures.value ∙ c.in-Ok.ensures.text s here ∙ sym (rules-reply s q at))
    c.utter.ensures.said (c.in-Err-follow.ensures.follows left there) c.in-Err-follow.fault
    (bounds_of c.args.tables.now).file (c.in-Ok.ensures.enough s here)
    (subst (λ (b : Bounds). FollowsNot (not c.utter.new.mute) b.file (own_behind left)
    c.in-Err-follow.fault) c.in-Ok.ensures.limits
    (c.in-Err-follow.ensures.fault left there))

pub returns-in-Err-clause-answered : goal.returns-in-Err-clause-answered
returns-in-Err-clause-answered g c = λ s stands.
    let state = g.S.Disk.state in
    let old = state c.args.shell.now in
    let mid = state c.now-moment.new.self in
    let done = state c.response.new.disk in
    let m = c.args.mute.now in
    let at = c.now-moment.result in
    let q = asking c.args.target.now c.args.body.now c.args.close in
    let aside = c.now-moment.ensures.call in
    let here = stands_kept old mid aside.keeps c.args.tables.now s stands in
    let front : Asked talk_rules old done s q at = asked_of talk_rules old mid done s q at
    aside c.now-moment.ensures.log c.now-moment.ensures.told c.in-Err.ensures.goes
    (subst (λ (atoms : List State). AtEach mid done (λ _ image. IsUncut image s atoms))
    (sym (rules-atoms s q at)) (c.in-Err.ensures.leaves s here)) in
    asked_some_on talk_rules lawful old done s m q at c.in-Err.fault
    (bounds_of c.args.tables.now).file front
    (asked_fault s q at (bounds_of c.args.tables.now).file c.in-Err.fault
    (c.in-Err.ensures.cause s here))

pub returns-in-Ok-follow-clause-none : goal.returns-in-Ok-follow-clause-none
returns-in-Ok-follow-clause-none g c =
    let state = g.S.Disk.state in
    let old = state c.args.shell.now in
    let mid = state c.now-moment.new.self in
    let done = state c.response.new.disk in
    let new = state c.utter.new.shell in
    let last = state c.follow.new.disk in
    came_then old new last 0 0
    (came_then old done new 0 0
    (came_then old mid done 0 0 (came_silent old mid c.now-moment.ensures.log)
    (came_goes mid done c.in-Ok.ensures.goes)) c.utter.ensures.none)
    (came_goes new last c.in-Ok-follow.ensures.goes)

pub returns-clause-none : goal.returns-clause-none
returns-clause-none g c =
    let state = g.S.Disk.state in
    let old = state c.args.shell.now in
    let mid = state c.now-moment.new.self in
    let done = state c.response.new.disk in
    let new = state c.utter.new.shell in
    let last = state c.follow.new.disk in
    came_then old new last 0 0
    (came_then old done new 0 0
    (came_then old mid done 0 0 (came_silent old mid c.now-moment.ensures.log)
    (came_goes mid done c.in-Ok.ensures.goes)) c.utter.ensures.none)
    (came_goes new last c.in-Err-follow.ensures.goes)

pub returns-in-Err-clause-none : goal.returns-in-Err-clause-none
returns-in-Err-clause-none g c =
    let state = g.S.Disk.state in
    let old = state c.args.shell.now in
    let mid = state c.now-moment.new.self in
    let done = state c.response.new.disk in
    came_then old mid done 0 0 (came_silent old mid c.now-moment.ensures.log)
    (came_goes mid done c.in-Err.ensures.goes)
