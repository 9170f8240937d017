-- A merge under way is carried on.
use Rattle.alt_disk.specs.Disk.{DiskState}
use Rattle.alt_flush.specs.Drafts.{From}
use Rattle.alt_flush.proofs.RemoveLaws.{none_removed}
use Rattle.alt_merging.specs.HandDeclaredHand.{Hand}
use Rattle.alt_merging.proofs.HandAddingLaws.{no_version}
use Rattle.alt_merging.proofs.HandEndLaws.{works_same, works_still}
use Rattle.alt_merging.proofs.HandWorkLaws.{worked_in, works_of}
use Rattle.alt_merging.specs.Mergings.{family_of_merging}
use Rattle.alt_engine.proofs.EngineLaws.{going_carried}
use Rattle.alt_engine.proofs.Taking.{taken_all}
use Rattle.alt_engine.proofs.engine.Engine.flush_all.Goals as goal

pub returns-then-not-has_entries-clause-ok : goal.returns-then-not-has_entries-clause-ok
returns-then-not-has_entries-clause-ok g c trusted l stands =
    (l, stands, works_same c.args.live.now l)

pub returns-then-not-has_entries-clause-any_moment :
    goal.returns-then-not-has_entries-clause-any_moment
returns-then-not-has_entries-clause-any_moment g c trusted l stands = works_still
    (g.D.Disk.state c.args.disk.now) c.args.self.now.hand l c.args.live.now stands.hand

pub flush_all-requires-clause-ready : goal.flush_all-requires-clause-ready
flush_all-requires-clause-ready g c trusted =
    let given = c.requires.ready trusted in (given.0, given.1.hand)

pub returns-in_err-flush_all-clause-any_moment : goal.returns-in_err-flush_all-clause-any_moment
returns-in_err-flush_all-clause-any_moment g c trusted l stands =
    worked_in (g.D.Disk.state c.args.disk.now) (g.D.Disk.state c.flush_all.new.disk) c.args.live.now l
    (c.flush_all.ensures.any_moment trusted l stands.hand)

pub returns-clause-ok : goal.returns-clause-ok
returns-clause-ok g c trusted l stands =
    let a : DiskState = g.D.Disk.state c.args.disk.now in
    let b : DiskState = g.D.Disk.state c.flush_all.new.disk in
    let e = c.args.self.now in
    let f = c.flush_all.new.self in
    let m = c.in_ok-flush_all.ensures.ok trusted l stands.hand in (
      m.0,
      record {
        hand = m.1;
        merging = going_carried a b e.hand f e.merging (λ j is. c.in_ok-flush_all.ensures.carries
            trusted l stands.hand (family_of_merging j) (c.requires.keeps j is)) stands.merging;
        few = c.any_many-self.ensures;
      },
      works_of c.args.live.now l m.0 m.2,
    )

pub returns-clause-any_moment : goal.returns-clause-any_moment
returns-clause-any_moment g c trusted l stands =
    worked_in (g.D.Disk.state c.args.disk.now) (g.D.Disk.state c.flush_all.new.disk) c.args.live.now l
    (c.flush_all.ensures.any_moment trusted l stands.hand)

pub returns-clause-new_log : goal.returns-clause-new_log
returns-clause-new_log g c done trusted l stands =
    (c.in_ok-flush_all.ensures.flushed, c.in_ok-flush_all.ensures.new_log trusted l stands.hand)

pub returns-clause-missing : goal.returns-clause-missing
returns-clause-missing g c trusted l stands =
    c.in_ok-flush_all.ensures.missing trusted l stands.hand

pub returns-clause-next_file : goal.returns-clause-next_file
returns-clause-next_file g c = taken_all c.args.live.now c.args.self.now.hand c.flush_all.new.self
    c.in_ok-flush_all.ensures.flushed

pub returns-then-not-has_entries-clause-one_version :
    goal.returns-then-not-has_entries-clause-one_version
returns-then-not-has_entries-clause-one_version g c trusted l stands =
    let a : DiskState = g.D.Disk.state c.args.disk.now in
    let e : Hand = c.args.self.now.hand in
    no_version a a e l stands.hand (none_removed a (From e.next_file))

pub returns-in_err-flush_all-clause-one_version : goal.returns-in_err-flush_all-clause-one_version
returns-in_err-flush_all-clause-one_version g c trusted l stands =
    c.flush_all.ensures.one_version trusted l stands.hand

pub returns-clause-one_version : goal.returns-clause-one_version
returns-clause-one_version g c trusted l stands =
    c.flush_all.ensures.one_version trusted l stands.hand
