use Rattle.std.proofs.Common.{◌≡◌, ◌<◌, ◌++◌, ℕ, List, arith, ◌∙◌, refl}
use Rattle.alt_machine.specs.State.{State}
use Rattle.alt_shell.specs.Log.{Log}
use Rattle.alt_tables.specs.Stands.{bounds_of}
use Rattle.alt_talks.specs.private.Rungs.{KnowsLastMoment}
use Rattle.alt_talks.specs.private.RungStops.{MovesOn, MovesAllOn, MovesSomeOn, StepsOn}
use Rattle.alt_talks.specs.TalkRules.{talk_rules}
use Rattle.alt_talks.specs.private.InHand.{place_of_talk}
use Rattle.alt_talks.proofs.Passing.{passes_none, passes_then, passes_back}
use Rattle.alt_talks.proofs.TalkReach.{reach_none, reach_as, reach_then, reach_break}
use Rattle.alt_talks.proofs.TalkWider.{moves_wider}
use Rattle.alt_talks.proofs.Uttering.{rests_at_end}
use Rattle.alt_talks.proofs.TalkLaws.{lawful}
use Rattle.alt_talks.proofs.TurnLeaving.{moves_none_on, moves_then_on, moves_all_on, moves_break_on}
use Rattle.alt_tables.proofs.Left.{stands_left}
use Rattle.alt_talks.proofs.Timing.{told_both}
use Rattle.alt_talks.proofs.Arriving.{came_none, came_then}
use Rattle.alt_talks.proofs.turns.at_hand.Goals as goal

pub loop-talk-init : goal.loop-talk-init
loop-talk-init g c =
    let old = g.S.Disk.state c.args.shell.now in
    let p = place_of_talk c.args.talk.now in
    let l = c.args.talk.now.last in
    let m = c.args.talk.now.mute in (
      λ s stands. reach_none old c.args.tables.now s (λ t. KnowsLastMoment l l (MovesOn talk_rules p s m p t m)) stands (
        moves_none_on talk_rules old p s m
            (λ trusted image is. stands_left old c.args.tables.now s stands image is),
        refl,
      ),
      passes_none old,
      c.requires.hears,
      refl,
      came_none old,
    )

pub loop-talk-preserved : goal.loop-talk-preserved
loop-talk-preserved g c =
    let state = g.S.Disk.state in
    let a = state c.args.shell.now in
    let b = state c.loop-talk.shell in
    let d = state c.one.new.shell in
    let p = place_of_talk c.args.talk.now in
    let q = place_of_talk c.loop-talk.talk in
    let v = place_of_talk c.one.new.talk in
    let m = c.args.talk.now.mute in
    let n = c.loop-talk.talk.mute in
    let o = c.one.new.talk.mute in
    let l = c.args.talk.now.last in
    let k = c.loop-talk.talk.last in
    let h = c.one.new.talk.last in
    let going : 0 < c.loop-talk.talk.left = grind arith in
    let inv = c.loop-talk.invariant in (
      λ s stands. reach_then a b d (bounds_of c.args.tables.now).file c.loop-talk.tables c.one.new.tables
          (λ t. KnowsLastMoment l k (MovesOn talk_rules p s m q t n))
          (λ t u. KnowsLastMoment k h (StepsOn talk_rules c.in-Ok-true.field-0 q t n v u o))
          (λ u. KnowsLastMoment l h (MovesOn talk_rules p s m v u o))
          (λ (t u : State) (es fs : Log) (ms ns : List ℕ) meet x y. (
            moves_then_on talk_rules lawful a b d p q v s t u m n o es fs ms ns meet going x.0
                (y.0.0.moves, y.0.1),
            told_both l k h ms ns x.1 y.1,
          ))
          (inv.0 s stands) c.in-Ok-true.ensures.stepped,
      passes_then a b d inv.1 c.one.ensures.passes,
      c.one.ensures.hears,
      c.one.ensures.takes ∙ inv.3,
      came_then a b d 0 0 inv.4 c.one.ensures.none,
    )

pub returns-in-Ok-false-clause-moved : goal.returns-in-Ok-false-clause-moved
returns-in-Ok-false-clause-moved g c = λ s stands.
    let state = g.S.Disk.state in
    let a = state c.args.shell.now in
    let b = state c.loop-talk.shell in
    let d = state c.one.new.shell in
    let p = place_of_talk c.args.talk.now in
    let q = place_of_talk c.loop-talk.talk in
    let v = place_of_talk c.one.new.talk in
    let m = c.args.talk.now.mute in
    let n = c.loop-talk.talk.mute in
    let o = c.one.new.talk.mute in
    let l = c.args.talk.now.last in
    let k = c.loop-talk.talk.last in
    let h = c.one.new.talk.last in
    let going : 0 < c.loop-talk.talk.left = grind arith in
    reach_then a b d (bounds_of c.args.tables.now).file c.loop-talk.tables c.one.new.tables
    (λ t. KnowsLastMoment l k (MovesOn talk_rules p s m q t n))
    (λ t u. KnowsLastMoment k h (StepsOn talk_rules c.in-Ok-false.field-0 q t n v u o))
    (λ u. KnowsLastMoment l h (MovesAllOn talk_rules p s m v u o))
    (λ (t u : State) (es fs : Log) (ms ns : List ℕ) meet x y.
    let rest = y.0.0.rests c.in-Ok-false.field-0-test in (
      moves_all_on talk_rules lawful a d p v s u m o (es ++ fs) (ms ++ ns) rest.0 rest.1
          (moves_then_on talk_rules lawful a b d p q v s t u m n o es fs ms ns meet going x.0
          (y.0.0.moves, y.0.1)),
      told_both l k h ms ns x.1 y.1,
    ))
    (c.loop-talk.invariant.0 s stands) c.in-Ok-false.ensures.stepped

pub returns-in-Err-clause-moved : goal.returns-in-Err-clause-moved
returns-in-Err-clause-moved g c = λ s stands.
    let state = g.S.Disk.state in
    let a = state c.args.shell.now in
    let b = state c.loop-talk.shell in
    let d = state c.one.new.shell in
    let p = place_of_talk c.args.talk.now in
    let q = place_of_talk c.loop-talk.talk in
    let m = c.args.talk.now.mute in
    let n = c.loop-talk.talk.mute in
    let fault = c.in-Err.fault in
    let next = (bounds_of c.args.tables.now).file in
    let going : 0 < c.loop-talk.talk.left = grind arith in
    reach_break a b d next c.loop-talk.tables
    (λ t. KnowsLastMoment c.args.talk.now.last c.loop-talk.talk.last (MovesOn talk_rules p s m q t n))
    (λ k t. MovesSomeOn talk_rules fault k q t n)
    (MovesSomeOn talk_rules fault next p s m)
    (λ k l t es ms le x. moves_wider talk_rules fault b d k l t es ms le q n x)
    (λ (t : State) (es fs : Log) (ms ns : List ℕ) meet x y.
    moves_break_on talk_rules lawful a b d fault next p q s t m n es fs ms ns meet going x.0 y)
    (c.loop-talk.invariant.0 s stands) c.in-Err.ensures.stepped

pub returns-clause-moved : goal.returns-clause-moved
returns-clause-moved g c = λ s stands.
    let state = g.S.Disk.state in
    let a = state c.args.shell.now in
    let b = state c.loop-talk.shell in
    let p = place_of_talk c.args.talk.now in
    let q = place_of_talk c.loop-talk.talk in
    let m = c.args.talk.now.mute in
    let n = c.loop-talk.talk.mute in
    let none : c.loop-talk.talk.left ≡ 0 = grind arith in
    let rest = rests_at_end talk_rules q none in
    let l = c.args.talk.now.last in
    let k = c.loop-talk.talk.last in
    reach_as a b (bounds_of c.args.tables.now).file c.loop-talk.tables (λ t. KnowsLastMoment l k (MovesOn talk_rules p s m q t n))
    (λ t. KnowsLastMoment l k (MovesAllOn talk_rules p s m q t n))
    (λ (t : State) (es : Log) (ms : List ℕ) x.
    (moves_all_on talk_rules lawful a b p q s t m n es ms rest.0 rest.1 x.0, x.1))
    (c.loop-talk.invariant.0 s stands)

pub one-requires-clause-ready : goal.one-requires-clause-ready
one-requires-clause-ready g c = λ trusted.
    let state = g.S.Disk.state in
    let inv = c.loop-talk.invariant in
    let first = c.requires.ready (passes_back (state c.args.shell.now) (state c.loop-talk.shell)
    inv.1 trusted) in
    let r = inv.0 first.0 first.1 in
    (r.to, r.stands)

pub returns-in-Ok-false-clause-none : goal.returns-in-Ok-false-clause-none
returns-in-Ok-false-clause-none g c =
    let state = g.S.Disk.state in
    came_then (state c.args.shell.now) (state c.loop-talk.shell) (state c.one.new.shell) 0 0
    c.loop-talk.invariant.4 c.in-Ok-false.ensures.none

pub returns-in-Err-clause-none : goal.returns-in-Err-clause-none
returns-in-Err-clause-none g c =
    let state = g.S.Disk.state in
    came_then (state c.args.shell.now) (state c.loop-talk.shell) (state c.one.new.shell) 0 0
    c.loop-talk.invariant.4 c.in-Err.ensures.none

pub returns-clause-none : goal.returns-clause-none
returns-clause-none g c =
    c.loop-talk.invariant.4
