-- One more is made, or it was the last, or it broke off.
use Rattle.std.proofs.Common.{◌≡◌, ◌-◌, ◌+◌, ◌∙◌, ℕ, suc, true, false, subst, refl, nat_lt, arith}
use Rattle.std.proofs.lemmas.Bool.{le-ltb, lt-ltb}
use Rattle.alt_disk.proofs.Calls.{goes_on, goes_refl}
use Rattle.alt_disk.proofs.Runs.{trusted_back}
use Rattle.alt_tables.specs.EngineInHand.{Bounds}
use Rattle.alt_machine.specs.declared.TheConstants.{MOST_EXPIRED}
use Rattle.alt_tables.specs.Stands.{bounds_of}
use Rattle.alt_talks.specs.Own.{BetweenNot, expiries}
use Rattle.alt_talks.proofs.Expired.{expired_all, expired_as, expired_broke, expired_enough, expired_follows, expired_last, expired_more, expired_none, expired_stands, follows_one, left_next}
use Rattle.alt_talks.proofs.expiring.expire_all.Goals as goal

pub rounds-init : goal.rounds-init
rounds-init g c =
    let a = g.D.Disk.state c.args.disk.now in
    let n = c.args.most in
    let same : n ≡ n - 0 = omega arith in (
      λ s stands. expired_as a a c.args.tables.now c.args.moment n n (n - 0) s same
          (expired_none a c.args.tables.now c.args.moment n s stands),
      refl,
      goes_refl a,
    )

pub expire-requires : goal.expire-requires
expire-requires g c = record {
  ready = λ trusted.
      let state = g.D.Disk.state in
      let first = c.requires.ready (trusted_back (state c.args.disk.now) (state c.rounds.disk)
      c.rounds.invariant.2 trusted) in
      let so = c.rounds.invariant.0 first.0 first.1 in
      (so.to, so.stands);
}

pub rounds-preserved : goal.rounds-preserved
rounds-preserved g c =
    let state = g.D.Disk.state in
    let a = state c.args.disk.now in
    let b = state c.rounds.disk in
    let d = state c.expire.new.disk in
    let n = c.args.most in
    let i = c.rounds.counter in
    let left = n - (i + 1) in (
      λ s stands.
          let so = expired_as a b c.rounds.tables c.args.moment n (n - i) (suc left) s
          (left_next n i c.rounds-test.true) (c.rounds.invariant.0 s stands) in
          let count = c.in-Ok.ensures.count so.to so.stands in
          expired_more a b d c.rounds.tables c.expire.new.tables c.args.moment n left s so
          (follows_one b d c.rounds.tables so.to _ so.stands c.expire.ensures.goes
          (c.expire.ensures.disk so.to so.stands)) (c.in-Ok.ensures.writes so.to so.stands)
          (subst (λ (k : ℕ). nat_lt k MOST_EXPIRED ≡ false) count
          (le-ltb c.in-Ok.count MOST_EXPIRED (omega (arith, c.if-count-lt-MOST_EXPIRED.false)))),
      c.expire.ensures.limits ∙ c.rounds.invariant.1,
      goes_on a b d c.rounds.invariant.2 c.expire.ensures.goes,
    )

pub returns-then-count-lt-MOST_EXPIRED-clause-stands : goal.returns-then-count-lt-MOST_EXPIRED-clause-stands
returns-then-count-lt-MOST_EXPIRED-clause-stands g c = λ s stands.
    let state = g.D.Disk.state in
    let a = state c.args.disk.now in
    let b = state c.rounds.disk in
    let d = state c.expire.new.disk in
    let n = c.args.most in
    let i = c.rounds.counter in
    let left = n - (i + 1) in
    let so = expired_as a b c.rounds.tables c.args.moment n (n - i) (suc left) s
    (left_next n i c.rounds-test.true) (c.rounds.invariant.0 s stands) in
    expired_stands a d c.expire.new.tables c.args.moment n s (
    expired_last a b d c.rounds.tables c.expire.new.tables c.args.moment n left s so
    (follows_one b d c.rounds.tables so.to _ so.stands c.expire.ensures.goes
    (c.expire.ensures.disk so.to so.stands)) (c.in-Ok.ensures.writes so.to so.stands)
    (subst (λ (k : ℕ). nat_lt k MOST_EXPIRED ≡ true) (c.in-Ok.ensures.count so.to so.stands)
    (lt-ltb c.in-Ok.count MOST_EXPIRED c.if-count-lt-MOST_EXPIRED.true)))

pub returns-then-count-lt-MOST_EXPIRED-clause-follows : goal.returns-then-count-lt-MOST_EXPIRED-clause-follows
returns-then-count-lt-MOST_EXPIRED-clause-follows g c = λ s stands.
    let state = g.D.Disk.state in
    let a = state c.args.disk.now in
    let b = state c.rounds.disk in
    let d = state c.expire.new.disk in
    let n = c.args.most in
    let i = c.rounds.counter in
    let left = n - (i + 1) in
    let so = expired_as a b c.rounds.tables c.args.moment n (n - i) (suc left) s
    (left_next n i c.rounds-test.true) (c.rounds.invariant.0 s stands) in
    expired_all a d c.expire.new.tables c.args.moment n s (
    expired_last a b d c.rounds.tables c.expire.new.tables c.args.moment n left s so
    (follows_one b d c.rounds.tables so.to _ so.stands c.expire.ensures.goes
    (c.expire.ensures.disk so.to so.stands)) (c.in-Ok.ensures.writes so.to so.stands)
    (subst (λ (k : ℕ). nat_lt k MOST_EXPIRED ≡ true) (c.in-Ok.ensures.count so.to so.stands)
    (lt-ltb c.in-Ok.count MOST_EXPIRED c.if-count-lt-MOST_EXPIRED.true)))

pub returns-then-count-lt-MOST_EXPIRED-clause-enough : goal.returns-then-count-lt-MOST_EXPIRED-clause-enough
returns-then-count-lt-MOST_EXPIRED-clause-enough g c = λ s stands.
    let state = g.D.Disk.state in
    let a = state c.args.disk.now in
    let b = state c.rounds.disk in
    let d = state c.expire.new.disk in
    let n = c.args.most in
    let i = c.rounds.counter in
    let left = n - (i + 1) in
    let so = expired_as a b c.rounds.tables c.args.moment n (n - i) (suc left) s
    (left_next n i c.rounds-test.true) (c.rounds.invariant.0 s stands) in
    expired_enough a d c.expire.new.tables c.args.moment n s (
    expired_last a b d c.rounds.tables c.expire.new.tables c.args.moment n left s so
    (follows_one b d c.rounds.tables so.to _ so.stands c.expire.ensures.goes
    (c.expire.ensures.disk so.to so.stands)) (c.in-Ok.ensures.writes so.to so.stands)
    (subst (λ (k : ℕ). nat_lt k MOST_EXPIRED ≡ true) (c.in-Ok.ensures.count so.to so.stands)
    (lt-ltb c.in-Ok.count MOST_EXPIRED c.if-count-lt-MOST_EXPIRED.true)))

pub returns-in-Err-clause-follows : goal.returns-in-Err-clause-follows
returns-in-Err-clause-follows g c = λ s stands.
    let state = g.D.Disk.state in
    let a = state c.args.disk.now in
    let b = state c.rounds.disk in
    let d = state c.expire.new.disk in
    let n = c.args.most in
    let i = c.rounds.counter in
    let left = n - (i + 1) in
    let so = expired_as a b c.rounds.tables c.args.moment n (n - i) (suc left) s
    (left_next n i c.rounds-test.true) (c.rounds.invariant.0 s stands) in
    expired_follows a b d c.rounds.tables c.expire.new.tables c.args.moment n left s so
    (follows_one b d c.rounds.tables so.to _ so.stands c.expire.ensures.goes
    (c.expire.ensures.disk so.to so.stands))

pub returns-in-Err-clause-fault : goal.returns-in-Err-clause-fault
returns-in-Err-clause-fault g c = λ s stands.
    let state = g.D.Disk.state in
    let a = state c.args.disk.now in
    let b = state c.rounds.disk in
    let d = state c.expire.new.disk in
    let n = c.args.most in
    let i = c.rounds.counter in
    let left = n - (i + 1) in
    let so = expired_as a b c.rounds.tables c.args.moment n (n - i) (suc left) s
    (left_next n i c.rounds-test.true) (c.rounds.invariant.0 s stands) in
    subst (λ (bounds : Bounds). BetweenNot bounds.file (expiries n c.args.moment s) c.from.result)
    c.rounds.invariant.1
    (expired_broke a b d c.rounds.tables c.expire.new.tables c.args.moment n left s so
    (bounds_of c.rounds.tables).file c.in-Err.fault c.from.result c.from.ensures
    (c.in-Err.ensures.writes so.to so.stands))

pub returns-clause-stands : goal.returns-clause-stands
returns-clause-stands g c = λ s stands.
    let state = g.D.Disk.state in
    let a = state c.args.disk.now in
    let b = state c.rounds.disk in
    let n = c.args.most in
    let i = c.rounds.counter in
    let none : n - i ≡ 0 = omega arith in
    expired_stands a b c.rounds.tables c.args.moment n s (
    expired_as a b c.rounds.tables c.args.moment n (n - i) 0 s none (c.rounds.invariant.0 s stands))

pub returns-clause-follows : goal.returns-clause-follows
returns-clause-follows g c = λ s stands.
    let state = g.D.Disk.state in
    let a = state c.args.disk.now in
    let b = state c.rounds.disk in
    let n = c.args.most in
    let i = c.rounds.counter in
    let none : n - i ≡ 0 = omega arith in
    expired_all a b c.rounds.tables c.args.moment n s (
    expired_as a b c.rounds.tables c.args.moment n (n - i) 0 s none (c.rounds.invariant.0 s stands))

pub returns-clause-enough : goal.returns-clause-enough
returns-clause-enough g c = λ s stands.
    let state = g.D.Disk.state in
    let a = state c.args.disk.now in
    let b = state c.rounds.disk in
    let n = c.args.most in
    let i = c.rounds.counter in
    let none : n - i ≡ 0 = omega arith in
    expired_enough a b c.rounds.tables c.args.moment n s (
    expired_as a b c.rounds.tables c.args.moment n (n - i) 0 s none (c.rounds.invariant.0 s stands))
