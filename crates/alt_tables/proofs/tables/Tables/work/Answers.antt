-- The families of all tables are live, so the rows of the state stay.
use Rattle.std.proofs.Common.{refl, sym, subst, arith}
use Rattle.alt_rowchanges.specs.OpeningEngineWorking.{Did, IsIdle, IsNeeded, Went}
use Rattle.alt_rowchanges.specs.OpeningHandInHand.{last_form_of}
use Rattle.alt_rowchanges.proofs.OpeningHandSegmentFiles.{files_made-few}
use Rattle.alt_tables.proofs.Working.{few_live, merged_for, work_fault, worked_left, worked_stands}
use Rattle.alt_tables.proofs.tables.Tables.work.Goals as goal

pub work-requires-clause-ready : goal.work-requires-clause-ready
work-requires-clause-ready g c trusted =
    let (s, stands) = c.requires.ready trusted in (stands.rows.layout, stands.rows.is)

pub returns-in-Ok-clause-ok : goal.returns-in-Ok-clause-ok
returns-in-Ok-clause-ok g c s stands =
    worked_stands (g.D.Disk.state c.args.disk.now) (g.D.Disk.state c.work.new.disk)
    c.args.self.now s stands c.as_slice.result.now c.as_slice.ensures.same c.as_slice.ensures.live
    _ c.in-Ok.ensures.goes refl refl refl refl refl refl refl refl c.in-Ok.ensures.next
    (c.in-Ok.ensures.ok stands.rows.trusted stands.rows.layout stands.rows.is)

pub returns-in-Ok-clause-disk : goal.returns-in-Ok-clause-disk
returns-in-Ok-clause-disk g c s stands =
    worked_left (g.D.Disk.state c.args.disk.now) (g.D.Disk.state c.work.new.disk)
    c.args.self.now s stands c.as_slice.result.now c.as_slice.ensures.same c.as_slice.ensures.live
    (c.in-Ok.ensures.any_moment stands.rows.trusted stands.rows.layout stands.rows.is)

pub returns-in-Err-clause-disk : goal.returns-in-Err-clause-disk
returns-in-Err-clause-disk g c s stands =
    worked_left (g.D.Disk.state c.args.disk.now) (g.D.Disk.state c.work.new.disk)
    c.args.self.now s stands c.as_slice.result.now c.as_slice.ensures.same c.as_slice.ensures.live
    (c.in-Err.ensures.any_moment stands.rows.trusted stands.rows.layout stands.rows.is)

pub returns-in-Err-clause-fault : goal.returns-in-Err-clause-fault
returns-in-Err-clause-fault g c s stands =
    work_fault c.args.task c.as_slice.result.now c.args.self.now.engine c.in-Err.fault
    c.from.result c.from.ensures (c.in-Err.ensures.needed stands.rows.trusted)
    (few_live (g.D.Disk.state c.args.disk.now) c.args.self.now s stands c.as_slice.result.now
    c.as_slice.ensures.same c.as_slice.ensures.live)

pub returns-in-Err-clause-lacks : goal.returns-in-Err-clause-lacks
returns-in-Err-clause-lacks g c trusted = record {
  given = c.in-Err.fault;
  same = c.from.ensures;
  needed = subst (λ live. IsNeeded c.args.task live c.args.self.now.engine c.in-Err.fault)
      c.as_slice.ensures.same (c.in-Err.ensures.needed trusted);
}

pub returns-in-Ok-clause-files : goal.returns-in-Ok-clause-files
returns-in-Ok-clause-files g c s stands =
    let taken = c.in-Ok.ensures.taken in
    let few = few_live (g.D.Disk.state c.args.disk.now) c.args.self.now s stands
    c.as_slice.result.now c.as_slice.ensures.same c.as_slice.ensures.live in
    let more = files_made-few (last_form_of c.work.new.self.hand) in
    omega (arith, taken, few, more)

pub returns-in-Ok-clause-merge_all : goal.returns-in-Ok-clause-merge_all
returns-in-Ok-clause-merge_all g c is trusted s stands =
    merged_for (g.D.Disk.state c.args.disk.now) c.args.self.now s stands c.as_slice.result.now
    c.as_slice.ensures.same c.as_slice.ensures.live (g.D.Disk.state c.work.new.disk).file
    (c.in-Ok.ensures.merge_all is trusted)

pub returns-in-Ok-clause-idle : goal.returns-in-Ok-clause-idle
returns-in-Ok-clause-idle g c is s stands =
    subst (λ live. IsIdle c.args.task (g.D.Disk.state c.args.disk.now) live c.args.self.now.engine)
    c.as_slice.ensures.same
    (c.in-Ok.ensures.idle is stands.rows.trusted stands.rows.layout stands.rows.is)

pub returns-in-Ok-clause-busy : goal.returns-in-Ok-clause-busy
returns-in-Ok-clause-busy g c is s stands idle =
    c.in-Ok.ensures.busy is stands.rows.trusted stands.rows.layout stands.rows.is
    (subst (λ live. IsIdle c.args.task (g.D.Disk.state c.args.disk.now) live c.args.self.now.engine)
    (sym c.as_slice.ensures.same) idle)

pub returns-in-Ok-clause-went : goal.returns-in-Ok-clause-went
returns-in-Ok-clause-went g c is s stands =
    let went = c.in-Ok.ensures.went is stands.rows.trusted stands.rows.layout stands.rows.is in (
      went.0,
      subst (λ live. Went (g.D.Disk.state c.args.disk.now) (g.D.Disk.state c.work.new.disk) live
          c.args.self.now.engine c.work.new.self) c.as_slice.ensures.same went.1,
    )

pub returns-in-Ok-clause-done : goal.returns-in-Ok-clause-done
returns-in-Ok-clause-done g c is s stands =
    subst (λ live. Did c.args.task (g.D.Disk.state c.args.disk.now) (g.D.Disk.state c.work.new.disk) live
    c.args.self.now.engine c.work.new.self) c.as_slice.ensures.same
    (c.in-Ok.ensures.done is stands.rows.trusted stands.rows.layout stands.rows.is)
