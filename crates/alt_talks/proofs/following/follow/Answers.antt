-- An index is built further, and then there is work where it is wanted.
use Rattle.std.proofs.Common.{◌≤◌, ◌+◌, subst}
use Rattle.alt_disk.proofs.Runs.{trusted_back}
use Rattle.alt_tables.specs.EngineInHand.{Bounds}
use Rattle.alt_machine.specs.Building.{build}
use Rattle.alt_machine.specs.Outcomes.{last_state}
use Rattle.alt_tables.specs.FilesLeft.{most_files}
use Rattle.alt_tables.specs.Stands.{Stands, bounds_of}
use Rattle.alt_talks.specs.Faults.{IsFileFault}
use Rattle.alt_talks.specs.Works.{HasFewEntries}
use Rattle.alt_talks.proofs.Built.{built_broke, built_enough, built_follows, built_stands, work_behind, worked_follows}
use Rattle.alt_talks.proofs.following.follow.Goals as goal

pub work-requires : goal.work-requires
work-requires g c = record {
  ready = λ trusted.
      let state = g.D.Disk.state in
      let first = c.requires.ready (trusted_back (state c.args.disk.now) (state c.build.new.disk)
      c.build.ensures.goes trusted) in
      (last_state first.0 (build first.0), (c.in-Ok.ensures.builds first.0 first.1).state);
}

pub returns-in-Err-clause-follows : goal.returns-in-Err-clause-follows
returns-in-Err-clause-follows g c = λ s stands.
    let state = g.D.Disk.state in
    built_follows (state c.args.disk.now) (state c.build.new.disk) c.args.tables.now s stands
    c.build.ensures.goes (c.build.ensures.disk s stands)

pub returns-in-Err-clause-fault : goal.returns-in-Err-clause-fault
returns-in-Err-clause-fault g c = λ s stands.
    built_broke c.args.works (bounds_of c.args.tables.now).file
    (Stands (g.D.Disk.state c.build.new.disk) c.build.new.tables) s c.in-Err.fault c.from.result
    c.from.ensures (c.in-Err.ensures.builds s stands)

pub returns-then-not-works-clause-stands : goal.returns-then-not-works-clause-stands
returns-then-not-works-clause-stands g c = λ s stands.
    built_stands (g.D.Disk.state c.build.new.disk) c.build.new.tables s
    (c.in-Ok.ensures.builds s stands).state

pub returns-then-not-works-clause-follows : goal.returns-then-not-works-clause-follows
returns-then-not-works-clause-follows g c = λ s stands.
    let state = g.D.Disk.state in
    built_follows (state c.args.disk.now) (state c.build.new.disk) c.args.tables.now s stands
    c.build.ensures.goes (c.build.ensures.disk s stands)

pub returns-then-not-works-clause-enough : goal.returns-then-not-works-clause-enough
returns-then-not-works-clause-enough g c = λ s stands.
    built_enough s (c.in-Ok.ensures.builds s stands).enough

pub returns-in-Ok-work-clause-stands : goal.returns-in-Ok-work-clause-stands
returns-in-Ok-work-clause-stands g c = λ s stands.
    built_stands (g.D.Disk.state c.work.new.disk) c.work.new.tables s
    (c.in-Ok-work.ensures.stands (last_state s (build s)) (c.in-Ok.ensures.builds s stands).state)

pub returns-in-Ok-work-clause-follows : goal.returns-in-Ok-work-clause-follows
returns-in-Ok-work-clause-follows g c = λ s stands.
    let state = g.D.Disk.state in
    worked_follows (state c.args.disk.now) (state c.build.new.disk) (state c.work.new.disk)
    c.args.tables.now s stands c.build.ensures.goes (c.build.ensures.disk s stands)
    (c.in-Ok-work.ensures.works (last_state s (build s)) (c.in-Ok.ensures.builds s stands).state)

pub returns-in-Ok-work-clause-enough : goal.returns-in-Ok-work-clause-enough
returns-in-Ok-work-clause-enough g c = λ s stands.
    built_enough s (c.in-Ok.ensures.builds s stands).enough

pub returns-in-Ok-work-clause-files : goal.returns-in-Ok-work-clause-files
returns-in-Ok-work-clause-files g c = λ s stands.
    subst (λ (b : Bounds). (bounds_of c.work.new.tables).file ≤ b.file + most_files)
    c.build.ensures.limits
    (c.in-Ok-work.ensures.files (last_state s (build s)) (c.in-Ok.ensures.builds s stands).state)

pub returns-in-Ok-work-clause-entries : goal.returns-in-Ok-work-clause-entries
returns-in-Ok-work-clause-entries g c = λ works.
    subst (λ (b : Bounds). HasFewEntries b.limits.flush (g.D.Disk.state c.work.new.disk))
    c.build.ensures.limits c.in-Ok-work.ensures.entries

pub returns-in-Err-work-clause-follows : goal.returns-in-Err-work-clause-follows
returns-in-Err-work-clause-follows g c = λ s stands.
    let state = g.D.Disk.state in
    worked_follows (state c.args.disk.now) (state c.build.new.disk) (state c.work.new.disk)
    c.args.tables.now s stands c.build.ensures.goes (c.build.ensures.disk s stands)
    (c.in-Err-work.ensures.works (last_state s (build s)) (c.in-Ok.ensures.builds s stands).state)

pub returns-in-Err-work-clause-fault : goal.returns-in-Err-work-clause-fault
returns-in-Err-work-clause-fault g c = λ s stands.
    let there = c.in-Ok.ensures.builds s stands in
    work_behind c.args.works (bounds_of c.args.tables.now).file s c.in-Err-work.fault
    c.if-not-works.false there.enough
    (subst (λ (b : Bounds). IsFileFault (b.file + most_files) c.in-Err-work.fault)
    c.build.ensures.limits (c.in-Err-work.ensures.fault (last_state s (build s)) there.state))
