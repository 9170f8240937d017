-- Nothing applies.
use Rattle.std.proofs.Common.{inl, rules}
use Rattle.alt_disk.specs.Disk.{DiskState}
use Rattle.alt_flush.specs.Drafts.{From}
use Rattle.alt_flush.proofs.RemoveLaws.{none_removed}
use Rattle.alt_hand.proofs.FlushesLaws.{making}
use Rattle.alt_drafts.proofs.MakesLaws.{empties_same}
use Rattle.alt_hand.proofs.CarryLaws.{carries_none}
use Rattle.alt_hand.specs.Working.{IsLong}
use Rattle.alt_hand.proofs.AddingLaws.{no_version}
use Rattle.alt_hand.proofs.hand.Hand.flush_due.Goals as goal

pub returns-in-None-clause-ok : goal.returns-in-None-clause-ok
returns-in-None-clause-ok g c trusted l stands = (l, stands, empties_same c.args.live.now l)

pub returns-in-None-clause-any_moment : goal.returns-in-None-clause-any_moment
returns-in-None-clause-any_moment g c trusted l stands =
    let a : DiskState = g.D.Disk.state c.args.disk.now in
    let e = c.args.self.now in
    making a a e l c.args.live.now stands (none_removed a (From e.next_file))

pub returns-then-not-self-clause-ok : goal.returns-then-not-self-clause-ok
returns-then-not-self-clause-ok g c trusted l stands = (l, stands, empties_same c.args.live.now l)

pub returns-then-not-self-clause-any_moment : goal.returns-then-not-self-clause-any_moment
returns-then-not-self-clause-any_moment g c trusted l stands =
    let a : DiskState = g.D.Disk.state c.args.disk.now in
    let e = c.args.self.now in
    making a a e l c.args.live.now stands (none_removed a (From e.next_file))

pub returns-in-None-clause-carries : goal.returns-in-None-clause-carries
returns-in-None-clause-carries g c trusted l stands family there =
    carries_none (g.D.Disk.state c.args.disk.now) c.args.self.now family

pub returns-then-not-self-clause-carries : goal.returns-then-not-self-clause-carries
returns-then-not-self-clause-carries g c trusted l stands family there =
    carries_none (g.D.Disk.state c.args.disk.now) c.args.self.now family

pub returns-in-None-clause-one_version : goal.returns-in-None-clause-one_version
returns-in-None-clause-one_version g c trusted l stands =
    let a : DiskState = g.D.Disk.state c.args.disk.now in
    let e = c.args.self.now in no_version a a e l stands (none_removed a (From e.next_file))

pub returns-then-not-self-clause-one_version : goal.returns-then-not-self-clause-one_version
returns-then-not-self-clause-one_version g c trusted l stands =
    let a : DiskState = g.D.Disk.state c.args.disk.now in
    let e = c.args.self.now in no_version a a e l stands (none_removed a (From e.next_file))

pub returns-then-self-most_entries-clause-version :
    goal.returns-then-self-most_entries-clause-version
returns-then-self-most_entries-clause-version g c done trusted l stands =
    let long : IsLong c.args.self.now = search rules in
    inl (long, c.in_ok-flush_all.ensures.flushed, c.in_ok-flush_all.ensures.new_log trusted l stands)
