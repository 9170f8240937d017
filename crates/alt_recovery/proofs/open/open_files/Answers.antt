-- One file more.
use Rattle.std.proofs.Common.{rules, ◌+◌, List, IsTrue, get_or, take, inr, refl, sym, subst, ◌∙◌}
use Rattle.alt_disk.specs.Disk.{DiskState}
use Rattle.alt_disk.proofs.Calls.{goes_on}
use Rattle.alt_disk.proofs.Runs.{quiet_then}
use Rattle.alt_disk.proofs.Staying.{tells_on}
use Rattle.alt_rowfile.specs.declared.fault.RowFileFault.TheVariants.{NoMemory}
use Rattle.alt_rowfile.specs.declared.rowfile.RowFile.{RowFile}
use Rattle.alt_recovery.proofs.OpenLaws.{OpenedSoFar, opened_more, opening_explained}
use Rattle.alt_recovery.proofs.open.open_files.Goals as goal

pub returns-in-Err-push-clause-explained : goal.returns-in-Err-push-clause-explained
returns-in-Err-push-clause-explained g c told =
    let a : DiskState = g.D.Disk.state c.args.disk.now in
    opening_explained a.file a.file c.args.files.now c.args.flushed c.loop-f.f-index NoMemory
    c.loop-f-test.true (λ f. refl) (inr tt)

pub returns-in-Err-clause-explained : goal.returns-in-Err-clause-explained
returns-in-Err-clause-explained g c told =
    let a : DiskState = g.D.Disk.state c.args.disk.now in
    let b : DiskState = g.D.Disk.state c.loop-f.disk in
    opening_explained a.file b.file c.args.files.now c.args.flushed c.loop-f.f-index c.in-Err.fault
    c.loop-f-test.true (c.loop-f.invariant.quiet told).file
    (c.in-Err.ensures.explained (tells_on a b c.loop-f.invariant.goes told))

pub loop-f-preserved : goal.loop-f-preserved
loop-f-preserved g c =
    let a : DiskState = g.D.Disk.state c.args.disk.now in
    let b : DiskState = g.D.Disk.state c.loop-f.disk in
    let d : DiskState = g.D.Disk.state c.open_file.new.disk in
    let inv = c.loop-f.invariant in
    let told_b = λ (told : IsTrue a.tells). tells_on a b inv.goes told in
    record {
      goes = goes_on a b d inv.goes c.open_file.ensures.goes;
      well = c.in-Ok.ensures.well (search rules) ∙ inv.well;
      quiet = λ told. quiet_then a b d (inv.quiet told) (c.open_file.ensures.quiet (told_b told));
      done = λ told. subst (λ (l : List RowFile). OpenedSoFar d c.args.flushed
          (take (c.loop-f.f-index + 1) c.args.files.now) l) (sym c.in-Ok-push.ensures.items)
          (opened_more b d c.args.flushed c.loop-f.f-index (get_or c.args.files.now c.loop-f.f-index 0)
          c.args.files.now c.loop-f.opened.items c.in-Ok.file c.loop-f-test.true refl
          (c.open_file.ensures.quiet (told_b told)) (inv.done told)
          (c.in-Ok.ensures.ok (told_b told)));
    }
