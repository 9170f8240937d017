-- A merge of the first family that has many files.
use Rattle.std.proofs.Common.{refl, subst}
use Rattle.alt_merging.specs.HandMerging.{FindsMany}
use Rattle.alt_merging.proofs.StepLaws.{has_still, last_still}
use Rattle.alt_engine.proofs.EngineLaws.{few_on}
use Rattle.alt_engine.proofs.Stepping.{none_of}
use Rattle.alt_engine.proofs.Turning.{free_none}
use Rattle.alt_engine.proofs.engine.Engine.begin.Goals as goal

pub returns-then-not-self-clause-any_moment : goal.returns-then-not-self-clause-any_moment
returns-then-not-self-clause-any_moment g c trusted l stands =
    has_still (g.D.Disk.state c.args.disk.now) c.args.self.now.hand l stands.hand

pub start-requires-clause-ready : goal.start-requires-clause-ready
start-requires-clause-ready g c trusted =
    let given = c.requires.ready trusted in (given.0, given.1.hand)

pub returns-in_err-merging-in-Some-clause-any_moment :
    goal.returns-in_err-merging-in-Some-clause-any_moment
returns-in_err-merging-in-Some-clause-any_moment g c trusted l stands =
    c.start.ensures.any_moment trusted l stands.hand

pub returns-in_ok-merging-in-Some-clause-ok : goal.returns-in_ok-merging-in-Some-clause-ok
returns-in_ok-merging-in-Some-clause-ok g c trusted l stands = record {
  hand = c.in_ok-merging-in-Some.ensures.ok trusted l stands.hand;
  merging = c.in_ok-merging-in-Some.ensures.job trusted l stands.hand;
  few = λ none. few_on c.args.self.now.hand c.start.new.hand c.start.ensures.limits
      c.start.ensures.files (stands.few none);
}

pub returns-in_ok-merging-in-Some-clause-went : goal.returns-in_ok-merging-in-Some-clause-went
returns-in_ok-merging-in-Some-clause-went g c it = record {
  free = free_none c.args.live.now c.args.self.now c.requires.none;
  family = c.in-Some.family;
  first = subst (FindsMany c.args.live.now c.args.self.now.hand) c.in-Some.is c.first_many.ensures;
  job = c.in_ok-merging-in-Some.merging;
  is = refl;
  of = c.in_ok-merging-in-Some.ensures.family;
  all = c.in_ok-merging-in-Some.ensures.taken;
  next_file = c.in_ok-merging-in-Some.ensures.next_file;
}

pub returns-in_ok-merging-in-Some-clause-any_moment :
    goal.returns-in_ok-merging-in-Some-clause-any_moment
returns-in_ok-merging-in-Some-clause-any_moment g c trusted l stands =
    c.start.ensures.any_moment trusted l stands.hand

pub returns-in-None-clause-idle : goal.returns-in-None-clause-idle
returns-in-None-clause-idle g c it trusted l stands =
    none_of c.args.live.now c.args.self.now.hand
    (subst (FindsMany c.args.live.now c.args.self.now.hand) c.in-None.is c.first_many.ensures)

pub returns-in-None-clause-any_moment : goal.returns-in-None-clause-any_moment
returns-in-None-clause-any_moment g c trusted l stands =
    has_still (g.D.Disk.state c.args.disk.now) c.args.self.now.hand l stands.hand

pub returns-then-not-self-clause-last : goal.returns-then-not-self-clause-last
returns-then-not-self-clause-last g c trusted l stands =
    last_still (g.D.Disk.state c.args.disk.now) c.args.self.now.hand l stands.hand

pub returns-in_err-merging-in-Some-clause-last : goal.returns-in_err-merging-in-Some-clause-last
returns-in_err-merging-in-Some-clause-last g c trusted l stands =
    c.start.ensures.last trusted l stands.hand

pub returns-in_ok-merging-in-Some-clause-last : goal.returns-in_ok-merging-in-Some-clause-last
returns-in_ok-merging-in-Some-clause-last g c trusted l stands =
    c.start.ensures.last trusted l stands.hand

pub returns-in-None-clause-last : goal.returns-in-None-clause-last
returns-in-None-clause-last g c trusted l stands =
    last_still (g.D.Disk.state c.args.disk.now) c.args.self.now.hand l stands.hand
