use Rattle.std.proofs.Common.{◌∷◌, ◌++◌, ◌∙◌, [], inr, ℕ, List, Bool, true, false, refl, sym, subst, arith}
use Rattle.alt_shell.specs.Calls.{Accepted}
use Rattle.alt_shell.specs.Log.{Log, entry, hung_up, told_count}
use Rattle.alt_tables.specs.Stands.{bounds_of}
use Rattle.alt_talks.specs.Runs.{Counting, LeadsOn, Stretch}
use Rattle.alt_talks.specs.private.Rungs.{KnowsLastMoment, AtRest}
use Rattle.alt_talks.specs.Stops.{AreWithin}
use Rattle.alt_talks.specs.TalkRules.{talk_rules}
use Rattle.alt_talks.specs.private.RungStops.{ComesOn, ComesSomeOn, EndsOn, GoesSomeOn}
use Rattle.alt_talks.specs.private.InHand.{place_of_talk}
use Rattle.alt_talks.specs.Talks.{at}
use Rattle.alt_talks.proofs.FileFaults.{reach_least}
use Rattle.alt_talks.proofs.Stretching.{stretch_as}
use Rattle.alt_talks.proofs.Hanging.{serves_hung, some_hung, none_comes, wait_failed}
use Rattle.alt_tables.proofs.Left.{stands_left}
use Rattle.alt_talks.proofs.TalkLeaving.{left_hung, stretch_hung}
use Rattle.alt_talks.proofs.Stopping.{ready_kept, stands_kept}
use Rattle.alt_talks.proofs.TalkCuts.{at_unread}
use Rattle.alt_talks.proofs.TalkLaws.{lawful}
use Rattle.alt_talks.proofs.Arriving.{came_served, came_silent, none_will}
use Rattle.alt_talks.proofs.connection.connection.Goals as goal

pub returns-in-Ok-clause-served : goal.returns-in-Ok-clause-served
returns-in-Ok-clause-served g c = λ s stands.
    let state = g.S.Disk.state in
    let a = state c.args.shell.now in
    let b = state c.accept.new.self in
    let d = state c.pulls-served.new.shell in
    let e = state c.hang_up.new.self in
    let per = c.args.per in
    let q = place_of_talk c.pulls-served.new.talk in
    let n = c.pulls-served.new.talk.mute in
    let came = subst (λ (v : Bool). Accepted a b v) c.in-Ok-true.field-0-test
    c.in-Ok-true.ensures.accepted in
    let before = c.args.last.now in
    let last = c.pulls-served.new.talk.last in
    let next = (bounds_of c.args.tables.now).file in
    let k = (bounds_of c.pulls-served.new.tables).file in
    let served = subst (λ (bs : List ℕ). LeadsOn next b d c.pulls-served.new.tables
    (λ t. KnowsLastMoment before last (EndsOn talk_rules (at per false bs) s false q t n))) c.new.ensures
    (c.in-Ok.ensures.ended s
    (stands_kept a b c.in-Ok-true.ensures.call.keeps c.args.tables.now s stands)) in
    record {
      to = served.to;
      stands = stands_kept d e c.hang_up.ensures.call.keeps c.pulls-served.new.tables served.to
          served.stands;
      calls = stretch_hung a b d e (told_count a.beside) (told_count d.beside)
          (Counting next k (KnowsLastMoment before last (EndsOn talk_rules (at per false []) s false q served.to n)))
          (Counting next k (KnowsLastMoment before last (ComesOn talk_rules per true s served.to)))
          came.0 c.in-Ok-true.ensures.moments c.in-Ok-true.ensures.call.keeps
          (c.hang_up.ensures.hung (c.pulls-served.ensures.passes.talking ∙ came.1))
          c.hang_up.ensures.moments c.hang_up.ensures.call
          (λ (es : Log) (ms : List ℕ) (within : AreWithin b.moment d.moment es) p. (
            (
              (
                (
                  record {
                    moment = b.moment;
                    clocked = told_count a.beside;
                    entries = es ++ entry e.moment (told_count d.beside) hung_up ∷ [];
                    told = ms;
                  },
                  serves_hung talk_rules per s es ms b.moment (told_count a.beside) e.moment
                      (told_count d.beside) q served.to n c.requires.some p.0.0.0,
                  refl,
                  refl,
                ),
                left_hung talk_rules lawful (at per false []) s a b d e (told_count a.beside)
                    (told_count d.beside)
                    c.in-Ok-true.ensures.call.keeps c.hang_up.ensures.call
                    (λ trusted image is. stands_left a c.args.tables.now s stands image is)
                    es ms within c.pulls-served.ensures.passes.later p.0.0.1,
              ),
              p.0.1,
            ),
            p.1,
          ))
          served.calls;
    }

pub returns-in-Ok-true-clause-served : goal.returns-in-Ok-true-clause-served
returns-in-Ok-true-clause-served g c = λ s stands.
    let state = g.S.Disk.state in
    let a = state c.args.shell.now in
    let b = state c.accept.new.self in
    let d = state c.pulls-served.new.shell in
    let e = state c.hang_up.new.self in
    let per = c.args.per in
    let fault = c.in-Err-served.fault in
    let came = subst (λ (v : Bool). Accepted a b v) c.in-Ok-true.field-0-test
    c.in-Ok-true.ensures.accepted in
    let next = (bounds_of c.args.tables.now).file in
    let broke = subst (λ (bs : List ℕ). Stretch b d
    (GoesSomeOn talk_rules fault next (at per false bs) s false)) c.new.ensures
    (c.in-Err-served.ensures.ended s
    (stands_kept a b c.in-Ok-true.ensures.call.keeps c.args.tables.now s stands)) in
    stretch_hung a b d e (told_count a.beside) (told_count d.beside)
    (GoesSomeOn talk_rules fault next (at per false []) s false) (ComesSomeOn talk_rules per fault next s)
    came.0 c.in-Ok-true.ensures.moments c.in-Ok-true.ensures.call.keeps
    (c.hang_up.ensures.hung (c.pulls-served.ensures.passes.talking ∙ came.1))
    c.hang_up.ensures.moments c.hang_up.ensures.call
    (λ (es : Log) (ms : List ℕ) (within : AreWithin b.moment d.moment es) p. (
      inr (
        record {
          moment = b.moment;
          clocked = told_count a.beside;
          entries = es ++ entry e.moment (told_count d.beside) hung_up ∷ [];
          told = ms;
        },
        some_hung talk_rules per s es ms b.moment (told_count a.beside) e.moment
            (told_count d.beside) fault next p.0,
        refl,
        refl,
      ),
      left_hung talk_rules lawful (at per false []) s a b d e (told_count a.beside) (told_count d.beside)
          c.in-Ok-true.ensures.call.keeps c.hang_up.ensures.call
          (λ trusted image is. stands_left a c.args.tables.now s stands image is)
          es ms within c.pulls-served.ensures.passes.later p.1,
    ))
    broke

pub returns-in-Ok-false-clause-served : goal.returns-in-Ok-false-clause-served
returns-in-Ok-false-clause-served g c = λ s stands.
    let state = g.S.Disk.state in
    let a = state c.args.shell.now in
    let b = state c.accept.new.self in
    let none = subst (λ (v : Bool). Accepted a b v) c.in-Ok-false.field-0-test
    c.in-Ok-false.ensures.accepted in
    let before = c.args.last.now in
    let next = (bounds_of c.args.tables.now).file in
    record {
      to = s;
      stands = stands_kept a b c.in-Ok-false.ensures.call.keeps c.args.tables.now s stands;
      calls = stretch_as a b {P = KnowsLastMoment before before (ComesOn talk_rules c.args.per false s s)}
          {Q = Counting next next (KnowsLastMoment before before (ComesOn talk_rules c.args.per false s s))}
          (λ es ms within x. (x, reach_least next ms))
          (none_comes before talk_rules lawful c.args.per s a b none.0 c.in-Ok-false.ensures.moments
          c.in-Ok-false.ensures.call.keeps
          (λ trusted image is. stands_left a c.args.tables.now s stands image is));
    }

pub pulls-served-requires-clause-ready : goal.pulls-served-requires-clause-ready
pulls-served-requires-clause-ready g c =
    let state = g.S.Disk.state in
    ready_kept (state c.args.shell.now) (state c.accept.new.self) c.args.tables.now
    c.in-Ok-true.ensures.call.keeps c.requires.ready

pub pulls-served-requires-clause-rest : goal.pulls-served-requires-clause-rest
pulls-served-requires-clause-rest g c =
    subst (λ (bs : List ℕ). AtRest talk_rules (at c.args.per false bs))
    (sym c.new.ensures) (at_unread talk_rules c.args.per false [] lawful.nothing)

pub returns-clause-served : goal.returns-clause-served
returns-clause-served g c = λ s stands.
    let state = g.S.Disk.state in
    let a = state c.args.shell.now in
    wait_failed talk_rules lawful c.args.per (bounds_of c.args.tables.now).file s a (state c.accept.new.self) c.in-Err.ensures.accepted.0
    c.in-Err.ensures.moments c.in-Err.ensures.call.keeps
    (λ trusted image is. stands_left a c.args.tables.now s stands image is)

pub returns-in-Ok-clause-came : goal.returns-in-Ok-clause-came
returns-in-Ok-clause-came g c =
    let state = g.S.Disk.state in
    let a = state c.args.shell.now in
    let b = state c.accept.new.self in
    let d = state c.pulls-served.new.shell in
    let e = state c.hang_up.new.self in
    let came = subst (λ (v : Bool). Accepted a b v) c.in-Ok-true.field-0-test
    c.in-Ok-true.ensures.accepted in
    came_served a b d e came.0 c.pulls-served.ensures.none
    (c.hang_up.ensures.hung (c.pulls-served.ensures.passes.talking ∙ came.1))

pub returns-in-Ok-true-clause-came : goal.returns-in-Ok-true-clause-came
returns-in-Ok-true-clause-came g c =
    let state = g.S.Disk.state in
    let a = state c.args.shell.now in
    let b = state c.accept.new.self in
    let d = state c.pulls-served.new.shell in
    let e = state c.hang_up.new.self in
    let came = subst (λ (v : Bool). Accepted a b v) c.in-Ok-true.field-0-test
    c.in-Ok-true.ensures.accepted in (
      1,
      omega arith,
      came_served a b d e came.0 c.pulls-served.ensures.none
          (c.hang_up.ensures.hung (c.pulls-served.ensures.passes.talking ∙ came.1)),
    )

pub returns-in-Ok-false-clause-came : goal.returns-in-Ok-false-clause-came
returns-in-Ok-false-clause-came g c =
    let state = g.S.Disk.state in
    let a = state c.args.shell.now in
    let b = state c.accept.new.self in
    let none = subst (λ (v : Bool). Accepted a b v) c.in-Ok-false.field-0-test
    c.in-Ok-false.ensures.accepted in
    none_will a b none.0

pub returns-clause-came : goal.returns-clause-came
returns-clause-came g c =
    let state = g.S.Disk.state in (
      0,
      omega arith,
      came_silent (state c.args.shell.now) (state c.accept.new.self)
          c.in-Err.ensures.accepted.0,
    )
