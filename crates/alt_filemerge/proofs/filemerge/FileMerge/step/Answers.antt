-- A step over new walks of the files.
use Rattle.std.proofs.Common.{sym, subst}
use Rattle.std.proofs.lemmas.Result.{IfOk-weaker}
use Rattle.alt_merge.specs.Merges.{Each2}
use Rattle.alt_filemerge.specs.FileMerges.{IsWalkOf}
use Rattle.alt_filemerge.proofs.Merged.{under_of, after_step, cause_of}
use Rattle.alt_filemerge.proofs.filemerge.FileMerge.step.Goals as goal

pub step-requires-clause-ready : goal.step-requires-clause-ready
step-requires-clause-ready g c t =
    let r = c.requires.stands t in
    let walks = subst (Each2 IsWalkOf c.args.files.now) (sym c.new-merge.ensures)
    c.in_ok-walks.ensures in (
      r.0,
      r.1,
      under_of (g.D.Disk.state c.args.disk.now) c.args.files.now c.args.self.now
          c.new-merge.result r.0 r.1 r.2 walks,
    )

pub returns-clause-taken : goal.returns-clause-taken
returns-clause-taken g c t taken left stands =
    let walks = subst (Each2 IsWalkOf c.args.files.now) (sym c.new-merge.ensures)
    c.in_ok-walks.ensures in
    let under = under_of (g.D.Disk.state c.args.disk.now) c.args.files.now c.args.self.now
    c.new-merge.result taken left stands walks in
    IfOk-weaker c.step.result _ _
    (λ stepped p. (
      after_step (g.D.Disk.state c.args.disk.now) (g.D.Disk.state c.step.new.disk)
          c.args.files.now c.args.self.now _ c.step.new.source taken left c.args.rows t stands
          c.step.ensures.moves c.step.ensures.files p.0,
      p.1,
    )) (c.step.ensures.taken t taken left under)

pub returns-clause-sound : goal.returns-clause-sound
returns-clause-sound g c t taken left stands =
    let walks = subst (Each2 IsWalkOf c.args.files.now) (sym c.new-merge.ensures)
    c.in_ok-walks.ensures in
    let under = under_of (g.D.Disk.state c.args.disk.now) c.args.files.now c.args.self.now
    c.new-merge.result taken left stands walks in
    c.step.ensures.sound t taken left under

pub returns-clause-cause : goal.returns-clause-cause
returns-clause-cause g c =
    let walks = subst (Each2 IsWalkOf c.args.files.now) (sym c.new-merge.ensures)
    c.in_ok-walks.ensures in
    cause_of (g.D.Disk.state c.args.disk.now) (g.D.Disk.state c.step.new.disk) c.args.files.now
    c.new-merge.result.sources.items c.step.result walks c.step.ensures.cause
