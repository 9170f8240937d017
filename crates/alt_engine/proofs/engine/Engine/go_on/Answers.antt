-- A step of the merge, and its end.
use Rattle.std.proofs.Common.{drop, refl, sym, subst, rules, ◌∙◌}
use Rattle.alt_disk.specs.Disk.{DiskState}
use Rattle.alt_disk.proofs.Runs.{trusted_back, trusted_on}
use Rattle.alt_compact.specs.Jobs.{StepSays}
use Rattle.alt_compact.specs.declared.job.Stepped.{Stepped}
use Rattle.alt_merging.proofs.HandEndLaws.{works_same}
use Rattle.alt_merging.specs.Mergings.{GivesWay, MergingStands, family_of_merging, taken_of}
use Rattle.alt_merging.proofs.StepLaws.{has_works, then_works}
use Rattle.alt_merging.specs.HandMerging.{version_in}
use Rattle.alt_merging.proofs.HandAddingLaws.{last_or}
use Rattle.alt_engine.specs.InHand.{IsGoing}
use Rattle.alt_engine.proofs.Versioning.{one_behind}
use Rattle.alt_engine.proofs.engine.Engine.go_on.Goals as goal

pub returns-in_err-step-clause-any_moment : goal.returns-in_err-step-clause-any_moment
returns-in_err-step-clause-any_moment g c trusted l stands =
    let given = c.requires.ready trusted in
    let a : DiskState = g.D.Disk.state c.args.disk.now in
    let b : DiskState = g.D.Disk.state c.step.new.disk in
    let live = c.args.live.now in
    has_works a b live l (c.step.ensures.any_moment trusted l stands given.1 given.3)

pub returns-in_err-step-clause-sound : goal.returns-in_err-step-clause-sound
returns-in_err-step-clause-sound g c trusted =
    let given = c.requires.ready trusted in
    let a : DiskState = g.D.Disk.state c.args.disk.now in
    let b : DiskState = g.D.Disk.state c.step.new.disk in
    let live = c.args.live.now in
    let whole = c.in_err-step.ensures.sound trusted given.1 given.3 in search rules

pub end-requires-clause-ready : goal.end-requires-clause-ready
end-requires-clause-ready g c told =
    let trusted = trusted_back (g.D.Disk.state c.args.disk.now) (g.D.Disk.state c.step.new.disk)
    c.step.ensures.goes told in
    let given = c.requires.ready trusted in
    (given.0, c.step.ensures.ok trusted given.0 given.2 given.1 given.3)

pub end-requires-clause-job : goal.end-requires-clause-job
end-requires-clause-job g c told =
    let b : DiskState = g.D.Disk.state c.step.new.disk in
    let trusted = trusted_back (g.D.Disk.state c.args.disk.now) b c.step.ensures.goes told in
    let given = c.requires.ready trusted in
    let at = c.in_ok-step.ensures.taken trusted given.0 given.2 given.1 given.3 in
    subst (MergingStands b c.args.self.now.hand c.step.new.self)
    (subst (λ (s : Stepped). StepSays s (drop 256 given.1)) c.in-Done.is at.1) at.0

pub returns-in_err-end-in-Done-clause-any_moment : goal.returns-in_err-end-in-Done-clause-any_moment
returns-in_err-end-in-Done-clause-any_moment g c trusted l stands =
    let given = c.requires.ready trusted in
    let a : DiskState = g.D.Disk.state c.args.disk.now in
    let b : DiskState = g.D.Disk.state c.step.new.disk in
    let live = c.args.live.now in
    then_works a b (g.D.Disk.state c.end.new.disk) live l
    (c.step.ensures.any_moment trusted l stands given.1 given.3)
    (c.end.ensures.any_moment (trusted_on a b c.step.ensures.goes trusted) l
    (c.step.ensures.ok trusted l stands given.1 given.3))

pub returns-in-More-clause-ok : goal.returns-in-More-clause-ok
returns-in-More-clause-ok g c trusted l stands =
    let given = c.requires.ready trusted in
    let a : DiskState = g.D.Disk.state c.args.disk.now in
    let b : DiskState = g.D.Disk.state c.step.new.disk in
    let live = c.args.live.now in
    let at = c.in_ok-step.ensures.taken trusted l stands given.1 given.3 in (
      l,
      record {
        hand = c.step.ensures.ok trusted l stands given.1 given.3;
        merging = (drop 256 given.1, at.0);
        few = c.requires.few trusted;
      },
      works_same live l,
    )

pub returns-in-More-clause-went : goal.returns-in-More-clause-went
returns-in-More-clause-went g c it trusted l stands = record {
  after = c.step.new.self;
  is = refl;
  further = λ left standing.
      let at = c.in_ok-step.ensures.taken trusted l stands left standing in
      (at.0, subst (λ (s : Stepped). StepSays s (drop 256 left)) c.in-More.is at.1);
  next_file = refl;
}

pub returns-in-More-clause-any_moment : goal.returns-in-More-clause-any_moment
returns-in-More-clause-any_moment g c trusted l stands =
    let given = c.requires.ready trusted in
    let a : DiskState = g.D.Disk.state c.args.disk.now in
    let b : DiskState = g.D.Disk.state c.step.new.disk in
    let live = c.args.live.now in
    has_works a b live l (c.step.ensures.any_moment trusted l stands given.1 given.3)

pub returns-in_ok-end-in-Done-clause-ok : goal.returns-in_ok-end-in-Done-clause-ok
returns-in_ok-end-in-Done-clause-ok g c trusted l stands =
    let given = c.requires.ready trusted in
    let a : DiskState = g.D.Disk.state c.args.disk.now in
    let b : DiskState = g.D.Disk.state c.step.new.disk in
    let live = c.args.live.now in
    let m = c.in_ok-end-in-Done.ensures.ok (trusted_on a b c.step.ensures.goes trusted) l
    (c.step.ensures.ok trusted l stands given.1 given.3) in (
      m.0,
      record {
        hand = m.1;
        merging = subst (IsGoing (g.D.Disk.state c.end.new.disk) c.end.new.hand)
            (sym c.requires.none) tt;
        few = c.any_many-self.ensures;
      },
      m.2,
    )

pub returns-in_ok-end-in-Done-clause-done : goal.returns-in_ok-end-in-Done-clause-done
returns-in_ok-end-in-Done-clause-done g c it trusted l stands =
    let given = c.requires.ready trusted in
    let a : DiskState = g.D.Disk.state c.args.disk.now in
    let b : DiskState = g.D.Disk.state c.step.new.disk in
    let live = c.args.live.now in
    let z : DiskState = g.D.Disk.state c.end.new.disk in
    let e = c.args.self.now.hand in
    record {
      none = c.requires.none;
      last = λ left standing.
          let at = c.in_ok-step.ensures.taken trusted l stands left standing in
          subst (λ (s : Stepped). StepSays s (drop 256 left)) c.in-Done.is at.1;
      gives = subst (GivesWay z e c.end.new.hand (family_of_merging c.args.merging)) c.step.ensures.files
          (subst (λ k. GivesWay z e c.end.new.hand k (taken_of c.step.new.self)) c.step.ensures.family
          (c.in_ok-end-in-Done.ensures.files (trusted_on a b c.step.ensures.goes trusted) l
          (c.step.ensures.ok trusted l stands given.1 given.3)));
      next_file = c.in_ok-end-in-Done.ensures.next_file;
    }

pub returns-in_ok-end-in-Done-clause-any_moment : goal.returns-in_ok-end-in-Done-clause-any_moment
returns-in_ok-end-in-Done-clause-any_moment g c trusted l stands =
    let given = c.requires.ready trusted in
    let a : DiskState = g.D.Disk.state c.args.disk.now in
    let b : DiskState = g.D.Disk.state c.step.new.disk in
    let live = c.args.live.now in
    then_works a b (g.D.Disk.state c.end.new.disk) live l
    (c.step.ensures.any_moment trusted l stands given.1 given.3)
    (c.end.ensures.any_moment (trusted_on a b c.step.ensures.goes trusted) l
    (c.step.ensures.ok trusted l stands given.1 given.3))

pub returns-in_err-step-clause-one_version : goal.returns-in_err-step-clause-one_version
returns-in_err-step-clause-one_version g c trusted l stands =
    let given = c.requires.ready trusted in
    let a : DiskState = g.D.Disk.state c.args.disk.now in
    let b : DiskState = g.D.Disk.state c.step.new.disk in
    let e = c.args.self.now.hand in (
      version_in e,
      last_or a b (version_in e) (version_in e)
          (c.step.ensures.last trusted l stands given.1 given.3),
    )

pub returns-in-More-clause-one_version : goal.returns-in-More-clause-one_version
returns-in-More-clause-one_version g c trusted l stands =
    let given = c.requires.ready trusted in
    let a : DiskState = g.D.Disk.state c.args.disk.now in
    let b : DiskState = g.D.Disk.state c.step.new.disk in
    let e = c.args.self.now.hand in (
      version_in e,
      last_or a b (version_in e) (version_in e)
          (c.step.ensures.last trusted l stands given.1 given.3),
    )

pub returns-in_err-end-in-Done-clause-one_version : goal.returns-in_err-end-in-Done-clause-one_version
returns-in_err-end-in-Done-clause-one_version g c trusted l stands =
    let given = c.requires.ready trusted in
    let a : DiskState = g.D.Disk.state c.args.disk.now in
    let b : DiskState = g.D.Disk.state c.step.new.disk in
    let e = c.args.self.now.hand in
    let later = c.end.ensures.one_version (trusted_on a b c.step.ensures.goes trusted) l
    (c.step.ensures.ok trusted l stands given.1 given.3) in (
      later.0,
      one_behind a b (g.D.Disk.state c.end.new.disk) e later.0
          (c.step.ensures.last trusted l stands given.1 given.3) later.1,
    )

pub returns-in_ok-end-in-Done-clause-one_version : goal.returns-in_ok-end-in-Done-clause-one_version
returns-in_ok-end-in-Done-clause-one_version g c trusted l stands =
    let given = c.requires.ready trusted in
    let a : DiskState = g.D.Disk.state c.args.disk.now in
    let b : DiskState = g.D.Disk.state c.step.new.disk in
    let e = c.args.self.now.hand in
    let later = c.end.ensures.one_version (trusted_on a b c.step.ensures.goes trusted) l
    (c.step.ensures.ok trusted l stands given.1 given.3) in (
      later.0,
      one_behind a b (g.D.Disk.state c.end.new.disk) e later.0
          (c.step.ensures.last trusted l stands given.1 given.3) later.1,
    )

pub returns-in_ok-end-in-Done-clause-leaves_out : goal.returns-in_ok-end-in-Done-clause-leaves_out
returns-in_ok-end-in-Done-clause-leaves_out g c done = c.in_ok-end-in-Done.ensures.leaves_out

pub returns-in_ok-end-in-Done-clause-adds : goal.returns-in_ok-end-in-Done-clause-adds
returns-in_ok-end-in-Done-clause-adds g c done trusted = c.in_ok-end-in-Done.ensures.adds
    (trusted_on (g.D.Disk.state c.args.disk.now) (g.D.Disk.state c.step.new.disk) c.step.ensures.goes
    trusted)

pub returns-in-More-clause-missing : goal.returns-in-More-clause-missing
returns-in-More-clause-missing g c trusted l stands f other low none =
    let given = c.requires.ready trusted in
    c.step.ensures.only trusted given.1 given.3 f other ∙ none

pub returns-in_ok-end-in-Done-clause-missing : goal.returns-in_ok-end-in-Done-clause-missing
returns-in_ok-end-in-Done-clause-missing g c trusted l stands f other low none =
    let given = c.requires.ready trusted in
    let a : DiskState = g.D.Disk.state c.args.disk.now in
    let b : DiskState = g.D.Disk.state c.step.new.disk in
    c.in_ok-end-in-Done.ensures.missing (trusted_on a b c.step.ensures.goes trusted) l
    (c.step.ensures.ok trusted l stands given.1 given.3) f (λ same. other (same ∙ c.step.ensures.file)) low
    (c.step.ensures.only trusted given.1 given.3 f other ∙ none)
