use Rattle.std.proofs.Common.{◌≡◌, ◌<◌, ◌++◌, inl, inr, ℕ, List, Bool, true, refl, subst, arith}
use Rattle.alt_machine.specs.State.{State}
use Rattle.alt_shell.specs.Log.{Log}
use Rattle.alt_tables.specs.Stands.{bounds_of}
use Rattle.alt_talks.specs.private.Rungs.{KnowsLastMoment}
use Rattle.alt_talks.specs.private.RungStops.{GoesOn, GoesSomeOn, EndsOn}
use Rattle.alt_talks.specs.TalkRules.{talk_rules}
use Rattle.alt_talks.specs.private.InHand.{place_of_talk}
use Rattle.alt_talks.proofs.Passing.{passes_none, passes_then, passes_back}
use Rattle.alt_talks.proofs.TalkLaws.{lawful}
use Rattle.alt_tables.proofs.Left.{stands_left}
use Rattle.alt_talks.proofs.TalkLeaving.{goes_start_on, goes_then_on, goes_break_on}
use Rattle.alt_talks.proofs.TalkPulls.{goes_rests}
use Rattle.alt_talks.proofs.TalkReach.{reach_none, reach_as, reach_then, reach_break}
use Rattle.alt_talks.proofs.Timing.{told_both}
use Rattle.alt_talks.proofs.Arriving.{came_none, came_then}
use Rattle.alt_talks.proofs.TalkWider.{goes_wider}
use Rattle.alt_talks.proofs.connection.pulls.Goals as goal

pub pulls-init : goal.pulls-init
pulls-init g c =
    let old = g.S.Disk.state c.args.shell.now in
    let p = place_of_talk c.args.talk.now in
    let m = c.args.talk.now.mute in (
      λ s stands rest. reach_none old c.args.tables.now s
          (λ t. KnowsLastMoment c.args.talk.now.last c.args.talk.now.last (GoesOn talk_rules true p s m p t m)) stands (
            goes_start_on talk_rules lawful old p s m rest
                (λ trusted image is. stands_left old c.args.tables.now s stands image is),
            refl,
          ),
      passes_none old,
      λ _. c.requires.hears,
      c.requires.taking,
      came_none old,
    )

pub pulls-preserved : goal.pulls-preserved
pulls-preserved g c =
    let state = g.S.Disk.state in
    let a = state c.args.shell.now in
    let b = state c.pulls.shell in
    let d = state c.pull.new.shell in
    let p = place_of_talk c.args.talk.now in
    let q = place_of_talk c.pulls.talk in
    let v = place_of_talk c.pull.new.talk in
    let m = c.args.talk.now.mute in
    let n = c.pulls.talk.mute in
    let o = c.pull.new.talk.mute in
    let first = c.args.talk.now.last in
    let next = c.pulls.talk.last in
    let last = c.pull.new.talk.last in
    let x = c.in-Ok-true.field-0 in
    let going : 0 < c.pulls.talk.left = grind arith in
    let inv = c.pulls.invariant in (
      λ s stands rest.
          let front = inv.0 s stands rest in
          let here = goes_rests talk_rules lawful true p q s front.to m n front.calls.entries
          front.calls.told front.calls.holds.0.0.0 in
          reach_then a b d (bounds_of c.args.tables.now).file c.pulls.tables c.pull.new.tables
          (λ t. KnowsLastMoment first next (GoesOn talk_rules true p s m q t n))
          (λ t u. KnowsLastMoment next last (GoesOn talk_rules x q t n v u o))
          (λ u. KnowsLastMoment first last (GoesOn talk_rules true p s m v u o))
          (λ (t u : State) (es fs : Log) (ms ns : List ℕ) meet k l. (
            subst (λ (y : Bool). GoesOn talk_rules y p s m v u o a d (es ++ fs) (ms ++ ns))
                c.in-Ok-true.field-0-test
                (goes_then_on talk_rules lawful a b d x p q v s t u m n o es fs ms ns meet going k.0 l.0),
            told_both first next last ms ns k.1 l.1,
          ))
          front (λ t there. c.in-Ok-true.ensures.turned t there here),
      passes_then a b d inv.1 c.pull.ensures.passes,
      c.pull.ensures.hears,
      c.in-Ok-true.ensures.taking c.in-Ok-true.field-0-test,
      came_then a b d 0 0 inv.4 c.pull.ensures.none,
    )

pub returns-in-Ok-false-clause-ended : goal.returns-in-Ok-false-clause-ended
returns-in-Ok-false-clause-ended g c = λ s stands.
    let rest = c.requires.rest in
    let state = g.S.Disk.state in
    let a = state c.args.shell.now in
    let b = state c.pulls.shell in
    let d = state c.pull.new.shell in
    let p = place_of_talk c.args.talk.now in
    let q = place_of_talk c.pulls.talk in
    let v = place_of_talk c.pull.new.talk in
    let m = c.args.talk.now.mute in
    let n = c.pulls.talk.mute in
    let o = c.pull.new.talk.mute in
    let first = c.args.talk.now.last in
    let next = c.pulls.talk.last in
    let last = c.pull.new.talk.last in
    let x = c.in-Ok-false.field-0 in
    let going : 0 < c.pulls.talk.left = grind arith in
    let front = c.pulls.invariant.0 s stands rest in
    let here = goes_rests talk_rules lawful true p q s front.to m n front.calls.entries
    front.calls.told front.calls.holds.0.0.0 in
    reach_then a b d (bounds_of c.args.tables.now).file c.pulls.tables c.pull.new.tables
    (λ t. KnowsLastMoment first next (GoesOn talk_rules true p s m q t n))
    (λ t u. KnowsLastMoment next last (GoesOn talk_rules x q t n v u o))
    (λ u. KnowsLastMoment first last (EndsOn talk_rules p s m v u o))
    (λ (t u : State) (es fs : Log) (ms ns : List ℕ) meet k l.
    let went = goes_then_on talk_rules lawful a b d x p q v s t u m n o es fs ms ns meet going k.0 l.0 in (
      (record { more = x; goes = went.0; cause = inl c.in-Ok-false.field-0-test }, went.1),
      told_both first next last ms ns k.1 l.1,
    ))
    front (λ t there. c.in-Ok-false.ensures.turned t there here)

pub returns-in-Err-clause-ended : goal.returns-in-Err-clause-ended
returns-in-Err-clause-ended g c = λ s stands.
    let rest = c.requires.rest in
    let state = g.S.Disk.state in
    let a = state c.args.shell.now in
    let b = state c.pulls.shell in
    let d = state c.pull.new.shell in
    let p = place_of_talk c.args.talk.now in
    let q = place_of_talk c.pulls.talk in
    let m = c.args.talk.now.mute in
    let n = c.pulls.talk.mute in
    let fault = c.in-Err.fault in
    let next = (bounds_of c.args.tables.now).file in
    let going : 0 < c.pulls.talk.left = grind arith in
    let front = c.pulls.invariant.0 s stands rest in
    let here = goes_rests talk_rules lawful true p q s front.to m n front.calls.entries
    front.calls.told front.calls.holds.0.0.0 in
    reach_break a b d next c.pulls.tables
    (λ t. KnowsLastMoment c.args.talk.now.last c.pulls.talk.last (GoesOn talk_rules true p s m q t n))
    (λ k t. GoesSomeOn talk_rules fault k q t n)
    (GoesSomeOn talk_rules fault next p s m)
    (λ k l t es ms le x. goes_wider talk_rules fault b d k l t es ms le q n x)
    (λ (t : State) (es fs : Log) (ms ns : List ℕ) meet k l.
    goes_break_on talk_rules lawful a b d fault next p q s t m n es fs ms ns meet going k.0 l)
    front (λ t there. c.in-Err.ensures.turned t there here)

pub returns-then-talk-eq0-clause-ended : goal.returns-then-talk-eq0-clause-ended
returns-then-talk-eq0-clause-ended g c = λ s stands.
    let rest = c.requires.rest in
    let state = g.S.Disk.state in
    let p = place_of_talk c.args.talk.now in
    let q = place_of_talk c.pulls.talk in
    let m = c.args.talk.now.mute in
    let n = c.pulls.talk.mute in
    let first = c.args.talk.now.last in
    let next = c.pulls.talk.last in
    let none : c.pulls.talk.left ≡ 0 = grind arith in
    reach_as (state c.args.shell.now) (state c.pulls.shell) (bounds_of c.args.tables.now).file c.pulls.tables
    (λ t. KnowsLastMoment first next (GoesOn talk_rules true p s m q t n))
    (λ t. KnowsLastMoment first next (EndsOn talk_rules p s m q t n))
    (λ (t : State) (es : Log) (ms : List ℕ) x.
    ((record { more = true; goes = x.0.0; cause = inr (inr none) }, x.0.1), x.1))
    (c.pulls.invariant.0 s stands rest)

pub returns-then-talk-clause-ended : goal.returns-then-talk-clause-ended
returns-then-talk-clause-ended g c = λ s stands.
    let rest = c.requires.rest in
    let state = g.S.Disk.state in
    let p = place_of_talk c.args.talk.now in
    let q = place_of_talk c.pulls.talk in
    let m = c.args.talk.now.mute in
    let n = c.pulls.talk.mute in
    let first = c.args.talk.now.last in
    let next = c.pulls.talk.last in
    reach_as (state c.args.shell.now) (state c.pulls.shell) (bounds_of c.args.tables.now).file c.pulls.tables
    (λ t. KnowsLastMoment first next (GoesOn talk_rules true p s m q t n))
    (λ t. KnowsLastMoment first next (EndsOn talk_rules p s m q t n))
    (λ (t : State) (es : Log) (ms : List ℕ) x.
    ((record { more = true; goes = x.0.0; cause = inr (inl c.if-talk.true) }, x.0.1), x.1))
    (c.pulls.invariant.0 s stands rest)

pub pull-requires-clause-ready : goal.pull-requires-clause-ready
pull-requires-clause-ready g c = λ trusted.
    let state = g.S.Disk.state in
    let inv = c.pulls.invariant in
    let first = c.requires.ready (passes_back (state c.args.shell.now) (state c.pulls.shell)
    inv.1 trusted) in
    let r = inv.0 first.0 first.1 c.requires.rest in
    (r.to, r.stands)

pub returns-in-Ok-false-clause-none : goal.returns-in-Ok-false-clause-none
returns-in-Ok-false-clause-none g c =
    let state = g.S.Disk.state in
    came_then (state c.args.shell.now) (state c.pulls.shell) (state c.pull.new.shell) 0 0
    c.pulls.invariant.4 c.in-Ok-false.ensures.none

pub returns-in-Err-clause-none : goal.returns-in-Err-clause-none
returns-in-Err-clause-none g c =
    let state = g.S.Disk.state in
    came_then (state c.args.shell.now) (state c.pulls.shell) (state c.pull.new.shell) 0 0
    c.pulls.invariant.4 c.in-Err.ensures.none

pub returns-then-talk-eq0-clause-none : goal.returns-then-talk-eq0-clause-none
returns-then-talk-eq0-clause-none g c =
    c.pulls.invariant.4

pub returns-then-talk-clause-none : goal.returns-then-talk-clause-none
returns-then-talk-clause-none g c =
    c.pulls.invariant.4
