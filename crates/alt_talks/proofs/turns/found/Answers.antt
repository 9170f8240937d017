use Rattle.std.proofs.Common.{◌≡◌, ◌+◌, ◌∙◌, ℕ, List, Bool, true, false, sym, ap, subst}
use Rattle.std.specs.Prelude.{nat_le}
use Rattle.alt_shell.specs.Log.{Log}
use Rattle.alt_tables.proofs.Left.{stands_left}
use Rattle.alt_tables.specs.Stands.{bounds_of}
use Rattle.alt_talks.specs.Faults.{reach}
use Rattle.alt_talks.specs.Runs.{Counting}
use Rattle.alt_talks.specs.private.Rungs.{KnowsLastMoment}
use Rattle.alt_talks.specs.TalkRules.{talk_rules}
use Rattle.alt_talks.specs.private.RungStops.{AnswersOn, CarriesOn, CarriesSomeOn, MovesSomeOn, StepsOn}
use Rattle.alt_talks.specs.TalkViews.{scanned}
use Rattle.alt_talks.specs.private.InHand.{place_of_talk, head_in}
use Rattle.alt_talks.specs.Talks.{greets, good, at, is_request_whole}
use Rattle.alt_talks.proofs.FileFaults.{reach_behind, reach_least}
use Rattle.alt_talks.proofs.TalkWider.{answers_wider}
use Rattle.alt_talks.proofs.Stretching.{stretch_as, stretch_then}
use Rattle.alt_talks.proofs.Stopping.{ready_kept, stands_kept}
use Rattle.alt_talks.proofs.TalkLaws.{lawful, rules-scan}
use Rattle.alt_talks.proofs.TurnLeaving.{steps_short_on, steps_whole_on, some_whole_on}
use Rattle.alt_talks.proofs.Timing.{told_both}
use Rattle.alt_talks.proofs.Arriving.{came_then}
use Rattle.alt_talks.proofs.turns.found.Goals as goal

pub returns-then-not-is_whole-clause-stepped : goal.returns-then-not-is_whole-clause-stepped
returns-then-not-is_whole-clause-stepped g c = λ s stands.
    let state = g.S.Disk.state in
    let a = state c.args.shell.now in
    let b = state c.hello.new.shell in
    let p = place_of_talk c.args.talk.now in
    let m = c.args.talk.now.mute in
    let n = c.hello.new.mute in
    let h = head_in c.args.head in
    let l = c.args.talk.now.last in
    let w : is_request_whole h p.bytes ≡ false =
    ap (nat_le (h.taken + h.length)) (sym c.len.ensures)
    ∙ sym c.is_whole.ensures ∙ c.if-not-is_whole.true in
    let e : talk_rules.scan p.bytes ≡ good h = rules-scan p.bytes ∙ ap scanned c.requires.head in
    let next = (bounds_of c.args.tables.now).file in
    record {
      to = s;
      stands = stands_kept a b c.hello.ensures.keeps c.args.tables.now s stands;
      calls = stretch_as a b {P = KnowsLastMoment l l (AnswersOn talk_rules s m (greets p.greeted h.expect) s n)}
          {Q = Counting next next (KnowsLastMoment l l
          (StepsOn talk_rules false p s m (at p.left c.either-talk.result c.keep.new.self) s n))}
          (λ (es : Log) (ms : List ℕ) within x. (
            (
              subst (λ (bs : List ℕ).
                  StepsOn talk_rules false p s m (at p.left c.either-talk.result bs) s n a b es ms)
                  (sym c.keep.ensures.stays)
                  (subst (λ (v : Bool). StepsOn talk_rules false p s m (at p.left v p.bytes) s n a b es ms)
                  (sym c.either-talk.ensures)
                  (steps_short_on talk_rules lawful a b p h s s m n es ms c.requires.going e w x.0)),
              x.1,
            ),
            reach_least next ms,
          ))
          (c.hello.ensures.greeted s l
          (λ trusted image is. stands_left a c.args.tables.now s stands image is));
    }

pub returns-in-Ok-clause-stepped : goal.returns-in-Ok-clause-stepped
returns-in-Ok-clause-stepped g c = λ s stands.
    let state = g.S.Disk.state in
    let a = state c.args.shell.now in
    let b = state c.hello.new.shell in
    let d = state c.carry.new.shell in
    let p = place_of_talk c.args.talk.now in
    let q = place_of_talk c.carry.new.talk in
    let m = c.args.talk.now.mute in
    let n = c.hello.new.mute in
    let o = c.carry.new.talk.mute in
    let h = head_in c.args.head in
    let l = c.args.talk.now.last in
    let w : is_request_whole h p.bytes ≡ true =
    ap (nat_le (h.taken + h.length)) (sym c.len.ensures)
    ∙ sym c.is_whole.ensures ∙ c.if-not-is_whole.false in
    let e : talk_rules.scan p.bytes ≡ good h = rules-scan p.bytes ∙ ap scanned c.requires.head in
    let last = c.carry.new.talk.last in
    let carried = c.in-Ok.ensures.carried s
    (stands_kept a b c.hello.ensures.keeps c.args.tables.now s stands) in
    let next = (bounds_of c.args.tables.now).file in
    let k = (bounds_of c.carry.new.tables).file in
    record {
      to = carried.to;
      stands = carried.stands;
      calls = stretch_then a b d
          {P = KnowsLastMoment l l (AnswersOn talk_rules s m (greets p.greeted h.expect) s n)}
          {Q = Counting next k (KnowsLastMoment l last
          (CarriesOn talk_rules h (at p.left c.either-talk.result p.bytes) s n q carried.to o))}
          {R = Counting next k (KnowsLastMoment l last (StepsOn talk_rules true p s m q carried.to o))}
          (λ (es fs : Log) (ms ns : List ℕ) meet x y. (
            (
              steps_whole_on talk_rules lawful a b d p h s s carried.to m n o es fs ms ns meet
                  c.requires.going e w x.0 q
                  (subst (λ (v : Bool).
                  CarriesOn talk_rules h (at p.left v p.bytes) s n q carried.to o b d fs ns)
                  c.either-talk.ensures y.0.0),
              told_both l l last ms ns x.1 y.0.1,
            ),
            reach_behind k next ms ns y.1,
          ))
          (c.hello.ensures.greeted s l
          (λ trusted image is. stands_left a c.args.tables.now s stands image is))
          carried.calls;
    }

pub returns-clause-stepped : goal.returns-clause-stepped
returns-clause-stepped g c = λ s stands.
    let state = g.S.Disk.state in
    let a = state c.args.shell.now in
    let b = state c.hello.new.shell in
    let d = state c.carry.new.shell in
    let p = place_of_talk c.args.talk.now in
    let m = c.args.talk.now.mute in
    let n = c.hello.new.mute in
    let h = head_in c.args.head in
    let l = c.args.talk.now.last in
    let fault = c.in-Err.fault in
    let next = (bounds_of c.args.tables.now).file in
    let w : is_request_whole h p.bytes ≡ true =
    ap (nat_le (h.taken + h.length)) (sym c.len.ensures)
    ∙ sym c.is_whole.ensures ∙ c.if-not-is_whole.false in
    let e : talk_rules.scan p.bytes ≡ good h = rules-scan p.bytes ∙ ap scanned c.requires.head in
    stretch_then a b d
    {P = KnowsLastMoment l l (AnswersOn talk_rules s m (greets p.greeted h.expect) s n)}
    {Q = CarriesSomeOn talk_rules fault next h (at p.left c.either-talk.result p.bytes) s n}
    {R = MovesSomeOn talk_rules fault next p s m}
    (λ (es fs : Log) (ms ns : List ℕ) meet x y.
    some_whole_on talk_rules lawful a b d p h s s s m n n es fs ms ns meet c.requires.going
    e w x.0 fault next
    (answers_wider talk_rules fault b d next (reach next ms) s fs ns (reach_least next ms) n _ y))
    (c.hello.ensures.greeted s l
    (λ trusted image is. stands_left a c.args.tables.now s stands image is))
    (c.in-Err.ensures.carried s
    (stands_kept a b c.hello.ensures.keeps c.args.tables.now s stands))

pub carry-requires-clause-ready : goal.carry-requires-clause-ready
carry-requires-clause-ready g c =
    let state = g.S.Disk.state in
    ready_kept (state c.args.shell.now) (state c.hello.new.shell) c.args.tables.now
    c.hello.ensures.keeps c.requires.ready

pub returns-then-not-is_whole-clause-none : goal.returns-then-not-is_whole-clause-none
returns-then-not-is_whole-clause-none g c =
    c.hello.ensures.none

pub returns-in-Ok-clause-none : goal.returns-in-Ok-clause-none
returns-in-Ok-clause-none g c =
    let state = g.S.Disk.state in
    came_then (state c.args.shell.now) (state c.hello.new.shell) (state c.carry.new.shell) 0 0
    c.hello.ensures.none c.in-Ok.ensures.none

pub returns-clause-none : goal.returns-clause-none
returns-clause-none g c =
    let state = g.S.Disk.state in
    came_then (state c.args.shell.now) (state c.hello.new.shell) (state c.carry.new.shell) 0 0
    c.hello.ensures.none c.in-Err.ensures.none
