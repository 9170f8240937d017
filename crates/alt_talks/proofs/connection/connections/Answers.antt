use Rattle.std.proofs.Common.{◌≡◌, ◌<◌, ◌+◌, inl, inr, ℕ, List, Bool, None, refl, subst, arith}
use Rattle.alt_machine.specs.State.{State}
use Rattle.alt_shell.specs.Log.{Log}
use Rattle.alt_talks.specs.Arrivals.{Came, NoneWill}
use Rattle.alt_talks.specs.private.Rungs.{CameOne, after_between, KnowsLastMoment}
use Rattle.alt_talks.specs.Own.{BetweenNot, own_between}
use Rattle.alt_talks.specs.Runs.{LeadsOn}
use Rattle.alt_talks.specs.TalkStops.{ServedOn, ServedSomeOn}
use Rattle.alt_talks.specs.private.RungStops.{ComesOn, ComesSomeOn}
use Rattle.alt_talks.specs.TalkRules.{talk_rules}
use Rattle.alt_talks.specs.Works.{Follows}
use Rattle.alt_talks.proofs.Passing.{passes_none, passes_then, passes_back, passes_goes}
use Rattle.alt_tables.specs.Stands.{Stands, bounds_of}
use Rattle.alt_tables.proofs.Left.{stands_left}
use Rattle.alt_talks.proofs.TalkAmong.{SofarOn, sofar_none_on, served_all_on, served_fewer_on, served_some_on}
use Rattle.alt_talks.proofs.Between.{by_next, served_followed, sofar_followed}
use Rattle.alt_talks.proofs.TalkLaws.{lawful}
use Rattle.alt_talks.proofs.TalkReach.{reach_none, reach_as, reach_then, reach_break}
use Rattle.alt_talks.proofs.Arriving.{came_goes, came_none, came_then, none_will-behind, none_will-came}
use Rattle.alt_talks.proofs.TalkWider.{comes_wider}
use Rattle.alt_talks.proofs.connection.connections.Goals as goal

pub loop-served-init : goal.loop-served-init
loop-served-init g c =
    let old = g.S.Disk.state c.args.shell.now in (
      λ s stands. reach_none old c.args.tables.now s
          (λ t. KnowsLastMoment None None (SofarOn talk_rules c.args.per 0 s t)) stands (
            sofar_none_on talk_rules lawful c.args.per old s
                (λ trusted image is. stands_left old c.args.tables.now s stands image is),
            refl,
          ),
      passes_none old,
      omega arith,
      came_none old,
    )

pub loop-served-preserved : goal.loop-served-preserved
loop-served-preserved g c =
    let state = g.S.Disk.state in
    let a = state c.args.shell.now in
    let b = state c.loop-served.shell in
    let d = state c.connection.new.shell in
    let e = state c.between.new.disk in
    let per = c.args.per in
    let n = c.loop-served.served in
    let inv = c.loop-served.invariant in
    let came = subst (λ (v : Bool). CameOne v b d) c.in-Ok-true.field-0-test c.in-Ok-true.ensures.came in
    let same : n + 1 + 0 ≡ n + 1 = omega arith in (
      λ s stands. sofar_followed per n (bounds_of c.args.tables.now).file a b d e c.loop-served.tables c.connection.new.tables s
          c.loop-served.last c.connection.new.last (inv.0 s stands)
          (λ t there. subst (λ (v : Bool). LeadsOn (bounds_of c.loop-served.tables).file b d c.connection.new.tables
          (λ u. KnowsLastMoment c.loop-served.last c.connection.new.last (ComesOn talk_rules per v t u)))
          c.in-Ok-true.field-0-test (c.in-Ok-true.ensures.served t there))
          (λ u there. by_next n (λ (k : ℕ). Follows d e u (own_between k c.connection.new.last u).atoms)
          (c.in-Ok.ensures.follows u there)) c.between.new.tables
          c.in-Ok.ensures.limits
          (λ u there. by_next n (λ (k : ℕ). (own_between k c.connection.new.last u).lacks ≡ None)
          (c.in-Ok.ensures.enough u there))
          (λ u there. by_next n (λ (k : ℕ). Stands e c.between.new.tables
          (after_between k c.connection.new.last u)) (c.in-Ok.ensures.stands u there)),
      passes_then a d e (passes_then a b d inv.1 c.connection.ensures.passes)
          (passes_goes d e c.in-Ok.ensures.goes),
      grind arith,
      subst (λ (k : ℕ). Came k a e) same
          (came_then a d e (n + 1) 0 (came_then a b d n 1 inv.3 came)
          (came_goes d e c.in-Ok.ensures.goes)),
    )

pub between-requires : goal.between-requires
between-requires g c =
    let state = g.S.Disk.state in
    let a = state c.args.shell.now in
    let b = state c.loop-served.shell in
    let d = state c.connection.new.shell in
    record {
      ready = λ trusted.
          let inv = c.loop-served.invariant in
          let passes = passes_then a b d inv.1 c.connection.ensures.passes in
          let first = c.requires.ready (passes_back a d passes trusted) in
          let here = inv.0 first.0 first.1 in
          let r = c.in-Ok-true.ensures.served here.to here.stands in
          (r.to, r.stands);
    }

pub returns-in-Err-between-clause-served : goal.returns-in-Err-between-clause-served
returns-in-Err-between-clause-served g c = λ s stands.
    let state = g.S.Disk.state in
    let a = state c.args.shell.now in
    let b = state c.loop-served.shell in
    let d = state c.connection.new.shell in
    let e = state c.between.new.disk in
    let per = c.args.per in
    let n = c.loop-served.served in
    let few : n < c.args.count = grind arith in
    served_followed per n (bounds_of c.args.tables.now).file a b d e c.loop-served.tables c.connection.new.tables s
    c.loop-served.last c.connection.new.last (c.loop-served.invariant.0 s stands)
    (λ t there. subst (λ (v : Bool). LeadsOn (bounds_of c.loop-served.tables).file b d c.connection.new.tables
    (λ u. KnowsLastMoment c.loop-served.last c.connection.new.last (ComesOn talk_rules per v t u)))
    c.in-Ok-true.field-0-test (c.in-Ok-true.ensures.served t there))
    (λ u there. by_next n (λ (k : ℕ). Follows d e u (own_between k c.connection.new.last u).atoms)
    (c.in-Err-between.ensures.follows u there)) c.args.count c.in-Err-between.fault few
    (λ u there. by_next n (λ (k : ℕ). BetweenNot (bounds_of c.connection.new.tables).file
    (own_between k c.connection.new.last u) c.in-Err-between.fault)
    (c.in-Err-between.ensures.fault u there))

pub returns-in-Err-between-clause-most : goal.returns-in-Err-between-clause-most
returns-in-Err-between-clause-most g c =
    let state = g.S.Disk.state in
    let a = state c.args.shell.now in
    let b = state c.loop-served.shell in
    let d = state c.connection.new.shell in
    let e = state c.between.new.disk in
    let n = c.loop-served.served in
    let few : n < c.args.count = grind arith in
    let came = subst (λ (v : Bool). CameOne v b d) c.in-Ok-true.field-0-test c.in-Ok-true.ensures.came in (
      n + 1 + 0,
      omega (arith, few),
      came_then a d e (n + 1) 0 (came_then a b d n 1 c.loop-served.invariant.3 came)
          (came_goes d e c.in-Err-between.ensures.goes),
    )

pub returns-in-Err-between-clause-passes : goal.returns-in-Err-between-clause-passes
returns-in-Err-between-clause-passes g c =
    let state = g.S.Disk.state in
    let a = state c.args.shell.now in
    let d = state c.connection.new.shell in
    passes_then a d (state c.between.new.disk)
    (passes_then a (state c.loop-served.shell) d c.loop-served.invariant.1 c.connection.ensures.passes)
    (passes_goes d (state c.between.new.disk) c.in-Err-between.ensures.goes)

pub returns-in-Ok-false-clause-served : goal.returns-in-Ok-false-clause-served
returns-in-Ok-false-clause-served g c = λ s stands.
    let state = g.S.Disk.state in
    let a = state c.args.shell.now in
    let b = state c.loop-served.shell in
    let d = state c.connection.new.shell in
    let per = c.args.per in
    let n = c.loop-served.served in
    let few : n < c.args.count = grind arith in
    reach_then a b d (bounds_of c.args.tables.now).file c.loop-served.tables c.connection.new.tables
    (λ t. KnowsLastMoment None c.loop-served.last (SofarOn talk_rules per n s t))
    (λ t u. KnowsLastMoment c.loop-served.last c.connection.new.last
    (ComesOn talk_rules per c.in-Ok-false.field-0 t u))
    (λ u. ServedOn talk_rules per c.args.count s u)
    (λ (t u : State) (es fs : Log) (ms ns : List ℕ) meet x y.
    served_fewer_on talk_rules lawful per a b d s t n es fs ms ns meet x.0 c.args.count u few
    (subst (λ (v : Bool). ComesOn talk_rules per v t u b d fs ns) c.in-Ok-false.field-0-test y.0))
    (c.loop-served.invariant.0 s stands) c.in-Ok-false.ensures.served

pub returns-in-Err-clause-served : goal.returns-in-Err-clause-served
returns-in-Err-clause-served g c = λ s stands.
    let state = g.S.Disk.state in
    let a = state c.args.shell.now in
    let b = state c.loop-served.shell in
    let d = state c.connection.new.shell in
    let per = c.args.per in
    let n = c.loop-served.served in
    let fault = c.in-Err.fault in
    let next = (bounds_of c.args.tables.now).file in
    let few : n < c.args.count = grind arith in
    reach_break a b d next c.loop-served.tables
    (λ t. KnowsLastMoment None c.loop-served.last (SofarOn talk_rules per n s t))
    (λ k t. ComesSomeOn talk_rules per fault k t)
    (ServedSomeOn talk_rules per c.args.count fault next s)
    (λ k l t es ms le x. comes_wider talk_rules fault b d k l t es ms le per x)
    (λ (t : State) (es fs : Log) (ms ns : List ℕ) meet x y.
    served_some_on talk_rules lawful per a b d s t n es fs ms ns meet x.0 c.args.count fault next few y)
    (c.loop-served.invariant.0 s stands) c.in-Err.ensures.served

pub returns-clause-served : goal.returns-clause-served
returns-clause-served g c = λ s stands.
    let state = g.S.Disk.state in
    let a = state c.args.shell.now in
    let b = state c.loop-served.shell in
    let per = c.args.per in
    let n = c.loop-served.served in
    let all : n ≡ c.args.count = grind arith in
    reach_as a b (bounds_of c.args.tables.now).file c.loop-served.tables (λ t. KnowsLastMoment None c.loop-served.last (SofarOn talk_rules per n s t))
    (λ t. ServedOn talk_rules per c.args.count s t)
    (λ (t : State) (es : Log) (ms : List ℕ) x.
    subst (λ (k : ℕ). ServedOn talk_rules per k s t a b es ms) all
    (served_all_on talk_rules lawful per a b n s t es ms x.0))
    (c.loop-served.invariant.0 s stands)

pub connection-requires-clause-ready : goal.connection-requires-clause-ready
connection-requires-clause-ready g c = λ trusted.
    let state = g.S.Disk.state in
    let inv = c.loop-served.invariant in
    let first = c.requires.ready (passes_back (state c.args.shell.now) (state c.loop-served.shell)
    inv.1 trusted) in
    let r = inv.0 first.0 first.1 in
    (r.to, r.stands)

pub returns-in-Ok-false-clause-came : goal.returns-in-Ok-false-clause-came
returns-in-Ok-false-clause-came g c =
    let state = g.S.Disk.state in
    let a = state c.args.shell.now in
    let b = state c.loop-served.shell in
    let d = state c.connection.new.shell in
    let n = c.loop-served.served in
    let few : n < c.args.count = grind arith in
    let same : n + 0 ≡ n = omega arith in
    inr (
      n,
      few,
      subst (λ (k : ℕ). NoneWill k a d) same
          (none_will-behind a b d n 0 c.loop-served.invariant.3
          (subst (λ (v : Bool). CameOne v b d) c.in-Ok-false.field-0-test c.in-Ok-false.ensures.came)),
    )

pub returns-in-Err-clause-most : goal.returns-in-Err-clause-most
returns-in-Err-clause-most g c =
    let state = g.S.Disk.state in
    let a = state c.args.shell.now in
    let b = state c.loop-served.shell in
    let d = state c.connection.new.shell in
    let n = c.loop-served.served in
    let few : n < c.args.count = grind arith in
    let one = c.in-Err.ensures.came in
    let most = one.1 in (
      n + one.0,
      omega (arith, few, most),
      came_then a b d n one.0 c.loop-served.invariant.3 one.2,
    )

pub returns-clause-came : goal.returns-clause-came
returns-clause-came g c =
    let state = g.S.Disk.state in
    let a = state c.args.shell.now in
    let b = state c.loop-served.shell in
    let all : c.loop-served.served ≡ c.args.count = grind arith in
    inl (subst (λ (k : ℕ). Came k a b) all c.loop-served.invariant.3)

pub returns-in-Ok-false-clause-most : goal.returns-in-Ok-false-clause-most
returns-in-Ok-false-clause-most g c =
    let state = g.S.Disk.state in
    let a = state c.args.shell.now in
    let b = state c.loop-served.shell in
    let d = state c.connection.new.shell in
    let n = c.loop-served.served in
    let few : n < c.args.count = grind arith in (
      n + 0,
      omega (arith, few),
      came_then a b d n 0 c.loop-served.invariant.3
          (none_will-came b d 0
          (subst (λ (v : Bool). CameOne v b d) c.in-Ok-false.field-0-test c.in-Ok-false.ensures.came)),
    )

pub returns-clause-most : goal.returns-clause-most
returns-clause-most g c =
    let all : c.loop-served.served ≡ c.args.count = grind arith in
    (c.loop-served.served, omega (arith, all), c.loop-served.invariant.3)
