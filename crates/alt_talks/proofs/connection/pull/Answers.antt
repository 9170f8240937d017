use Rattle.std.proofs.Common.{◌≡◌, ◌<◌, ◌++◌, ◌∷◌, [], ℕ, List, length, take, arith, length-take, refl, subst, true, false}
use Rattle.alt_shell.specs.Log.{Log, Grows, entry, took, told_count}
use Rattle.alt_tables.proofs.Left.{stands_left}
use Rattle.alt_tables.specs.Stands.{bounds_of}
use Rattle.alt_talks.specs.Runs.{Counting, LeadsOn, Stretch}
use Rattle.alt_talks.specs.private.Rungs.{KnowsLastMoment}
use Rattle.alt_talks.specs.Stops.{AreWithin}
use Rattle.alt_talks.specs.TalkRules.{talk_rules}
use Rattle.alt_talks.specs.private.RungStops.{MovesAllOn, MovesSomeOn, GoesOn, GoesSomeOn}
use Rattle.alt_talks.specs.private.InHand.{place_of_talk}
use Rattle.alt_talks.specs.Talks.{at}
use Rattle.alt_talks.specs.declared.fault.RunFault.TheVariants.{NoMemory}
use Rattle.alt_talks.proofs.Stopping.{ready_kept, stands_kept}
use Rattle.alt_talks.proofs.FileFaults.{reach_least}
use Rattle.alt_talks.proofs.Stretching.{stretch_as}
use Rattle.alt_talks.proofs.TalkIdle.{idle_start}
use Rattle.alt_talks.proofs.TalkLaws.{lawful}
use Rattle.alt_talks.proofs.TalkLeaving.{goes_taken_on, goes_some_taken_on, goes_missed_on, left_silent}
use Rattle.alt_talks.proofs.TalkLogs.{stretch_one, took_then}
use Rattle.alt_talks.proofs.TalkPulls.{goes_some_none, goes_end}
use Rattle.alt_talks.proofs.Arriving.{came_event, came_take_failed, came_then}
use Rattle.alt_talks.proofs.connection.pull.Goals as goal

pub returns-in-Ok-at_hand-clause-turned : goal.returns-in-Ok-at_hand-clause-turned
returns-in-Ok-at_hand-clause-turned g c = λ s stands rest.
    let state = g.S.Disk.state in
    let a = state c.args.shell.now in
    let b = state c.take.new.self in
    let d = state c.at_hand.new.shell in
    let p = place_of_talk c.args.talk.now in
    let q = place_of_talk c.at_hand.new.talk in
    let m = c.args.talk.now.mute in
    let n = c.at_hand.new.talk.mute in
    let bytes = take c.in-Ok.count c.take.new.buf in
    let clocked = told_count a.beside in
    let keeps = c.in-Ok.ensures.call.keeps in
    let some : 0 < length bytes = let l = length-take c.in-Ok.count c.take.new.buf in
    let held = c.in-Ok.ensures.count in grind arith in
    let before = c.args.talk.now.last in
    let last = c.at_hand.new.talk.last in
    let next = (bounds_of c.args.tables.now).file in
    let k = (bounds_of c.at_hand.new.tables).file in
    let went = subst (λ (bs : List ℕ). LeadsOn next b d c.at_hand.new.tables
    (λ t. KnowsLastMoment before last (MovesAllOn talk_rules (at p.left p.greeted bs) s m q t n)))
    c.in-Ok-extend.ensures.more
    (c.in-Ok-at_hand.ensures.moved s (stands_kept a b keeps c.args.tables.now s stands)) in
    record {
      to = went.to;
      stands = went.stands;
      calls = took_then a b d (entry b.moment clocked (took bytes))
          (Counting next k (KnowsLastMoment before last
          (MovesAllOn talk_rules (at p.left p.greeted (p.bytes ++ bytes)) s m q went.to n)))
          (Counting next k (KnowsLastMoment before last (GoesOn talk_rules true p s m q went.to n)))
          c.in-Ok.ensures.taken c.in-Ok.ensures.moments keeps.later (omega arith) keeps
          (λ (es : Log) (ms : List ℕ) (within : AreWithin b.moment d.moment es) x. (
            (
              goes_taken_on talk_rules p s a b d bytes clocked keeps
                  (λ trusted image is. stands_left a c.args.tables.now s stands image is)
                  lawful m (idle_start talk_rules p s m rest c.requires.going c.requires.heard) q went.to n es
                  ms within some x.0.0,
              x.0.1,
            ),
            x.1,
          ))
          went.calls;
    }

pub returns-in-Err-at_hand-clause-turned : goal.returns-in-Err-at_hand-clause-turned
returns-in-Err-at_hand-clause-turned g c = λ s stands rest.
    let state = g.S.Disk.state in
    let a = state c.args.shell.now in
    let b = state c.take.new.self in
    let d = state c.at_hand.new.shell in
    let p = place_of_talk c.args.talk.now in
    let m = c.args.talk.now.mute in
    let fault = c.in-Err-at_hand.fault in
    let bytes = take c.in-Ok.count c.take.new.buf in
    let clocked = told_count a.beside in
    let keeps = c.in-Ok.ensures.call.keeps in
    let next = (bounds_of c.args.tables.now).file in
    let went = subst (λ (bs : List ℕ). Stretch b d
    (MovesSomeOn talk_rules fault next (at p.left p.greeted bs) s m))
    c.in-Ok-extend.ensures.more
    (c.in-Err-at_hand.ensures.moved s (stands_kept a b keeps c.args.tables.now s stands)) in
    took_then a b d (entry b.moment clocked (took bytes))
    (MovesSomeOn talk_rules fault next (at p.left p.greeted (p.bytes ++ bytes)) s m)
    (GoesSomeOn talk_rules fault next p s m)
    c.in-Ok.ensures.taken c.in-Ok.ensures.moments keeps.later (omega arith) keeps
    (λ (es : Log) (ms : List ℕ) (within : AreWithin b.moment d.moment es) x.
    goes_some_taken_on talk_rules p s a b d bytes clocked keeps
    (λ trusted image is. stands_left a c.args.tables.now s stands image is)
    lawful m (idle_start talk_rules p s m rest c.requires.going c.requires.heard) fault next es ms within x)
    went

pub returns-in-Err-clause-turned : goal.returns-in-Err-clause-turned
returns-in-Err-clause-turned g c = λ s stands rest.
    let state = g.S.Disk.state in
    let a = state c.args.shell.now in
    let b = state c.take.new.self in
    let p = place_of_talk c.args.talk.now in
    let m = c.args.talk.now.mute in
    let keeps = c.in-Err.ensures.call.keeps in
    let l = c.args.talk.now.last in
    let next = (bounds_of c.args.tables.now).file in
    record {
      to = s;
      stands = stands_kept a b keeps c.args.tables.now s stands;
      calls = stretch_as a b {P = KnowsLastMoment l l (GoesOn talk_rules false p s m p s m)}
          {Q = Counting next next (KnowsLastMoment l l (GoesOn talk_rules false p s m p s m))}
          (λ es ms within x. (x, reach_least next ms))
          (goes_missed_on l talk_rules lawful p s m rest
          (idle_start talk_rules p s m rest c.requires.going c.requires.heard) a b c.requires.talking c.requires.taking
          c.in-Err.ensures.taken c.in-Err.ensures.moments keeps
          (λ trusted image is. stands_left a c.args.tables.now s stands image is));
    }

pub returns-then-count-eq0-clause-turned : goal.returns-then-count-eq0-clause-turned
returns-then-count-eq0-clause-turned g c = λ s stands rest.
    let state = g.S.Disk.state in
    let a = state c.args.shell.now in
    let b = state c.take.new.self in
    let p = place_of_talk c.args.talk.now in
    let m = c.args.talk.now.mute in
    let keeps = c.in-Ok.ensures.call.keeps in
    let l = c.args.talk.now.last in
    let none : take c.in-Ok.count c.take.new.buf ≡ [] = grind arith in
    let next = (bounds_of c.args.tables.now).file in
    record {
      to = s;
      stands = stands_kept a b keeps c.args.tables.now s stands;
      calls = stretch_one a b (Counting next next (KnowsLastMoment l l (GoesOn talk_rules false p s m p s m)))
          (entry b.moment (told_count a.beside) (took []) ∷ [])
          (subst (λ (bs : List ℕ). Grows a.beside b.beside
          (entry b.moment (told_count a.beside) (took bs) ∷ [])) none c.in-Ok.ensures.taken)
          c.in-Ok.ensures.moments (keeps.later, omega arith, tt) keeps (
            (
              (
                goes_end talk_rules p s m rest b.moment (told_count a.beside)
                    (idle_start talk_rules p s m rest c.requires.going c.requires.heard),
                left_silent talk_rules lawful p s a b
                    (entry b.moment (told_count a.beside) (took []) ∷ []) [] keeps refl
                    (λ trusted image is. stands_left a c.args.tables.now s stands image is),
              ),
              refl,
            ),
            reach_least next [],
          );
    }

pub returns-in-Err-extend-clause-turned : goal.returns-in-Err-extend-clause-turned
returns-in-Err-extend-clause-turned g c = λ s stands rest.
    let state = g.S.Disk.state in
    let a = state c.args.shell.now in
    let b = state c.take.new.self in
    let p = place_of_talk c.args.talk.now in
    let m = c.args.talk.now.mute in
    let keeps = c.in-Ok.ensures.call.keeps in
    let bytes = take c.in-Ok.count c.take.new.buf in
    let next = (bounds_of c.args.tables.now).file in
    stretch_one a b (GoesSomeOn talk_rules NoMemory next p s m)
    (entry b.moment (told_count a.beside) (took bytes) ∷ [])
    c.in-Ok.ensures.taken c.in-Ok.ensures.moments (keeps.later, omega arith, tt) keeps (
      goes_some_none talk_rules p s m bytes b.moment (told_count a.beside)
          (idle_start talk_rules p s m rest c.requires.going c.requires.heard) next,
      left_silent talk_rules lawful p s a b (entry b.moment (told_count a.beside) (took bytes) ∷ []) []
          keeps refl
          (λ trusted image is. stands_left a c.args.tables.now s stands image is),
    )

pub at_hand-requires-clause-ready : goal.at_hand-requires-clause-ready
at_hand-requires-clause-ready g c =
    let state = g.S.Disk.state in
    ready_kept (state c.args.shell.now) (state c.take.new.self) c.args.tables.now
    c.in-Ok.ensures.call.keeps c.requires.ready

pub returns-in-Ok-at_hand-clause-none : goal.returns-in-Ok-at_hand-clause-none
returns-in-Ok-at_hand-clause-none g c =
    let state = g.S.Disk.state in
    let a = state c.args.shell.now in
    let b = state c.take.new.self in
    came_then a b (state c.at_hand.new.shell) 0 0 (came_event a b
    (entry b.moment (told_count a.beside) (took (take c.in-Ok.count c.take.new.buf))) refl
    c.in-Ok.ensures.taken)
    c.in-Ok-at_hand.ensures.none

pub returns-in-Err-at_hand-clause-none : goal.returns-in-Err-at_hand-clause-none
returns-in-Err-at_hand-clause-none g c =
    let state = g.S.Disk.state in
    let a = state c.args.shell.now in
    let b = state c.take.new.self in
    came_then a b (state c.at_hand.new.shell) 0 0 (came_event a b
    (entry b.moment (told_count a.beside) (took (take c.in-Ok.count c.take.new.buf))) refl
    c.in-Ok.ensures.taken)
    c.in-Err-at_hand.ensures.none

pub returns-in-Err-clause-none : goal.returns-in-Err-clause-none
returns-in-Err-clause-none g c =
    let state = g.S.Disk.state in
    came_take_failed (state c.args.shell.now) (state c.take.new.self) c.in-Err.ensures.taken

pub returns-then-count-eq0-clause-none : goal.returns-then-count-eq0-clause-none
returns-then-count-eq0-clause-none g c =
    let state = g.S.Disk.state in
    let a = state c.args.shell.now in
    let b = state c.take.new.self in
    (came_event a b
    (entry b.moment (told_count a.beside) (took (take c.in-Ok.count c.take.new.buf))) refl
    c.in-Ok.ensures.taken)

pub returns-in-Err-extend-clause-none : goal.returns-in-Err-extend-clause-none
returns-in-Err-extend-clause-none g c =
    let state = g.S.Disk.state in
    let a = state c.args.shell.now in
    let b = state c.take.new.self in
    (came_event a b
    (entry b.moment (told_count a.beside) (took (take c.in-Ok.count c.take.new.buf))) refl
    c.in-Ok.ensures.taken)
