-- One file more.
use Rattle.std.proofs.Common.{IsTrue, ◌∙◌}
use Rattle.alt_disk.specs.Disk.{DiskState}
use Rattle.alt_disk.proofs.Calls.{goes_on}
use Rattle.alt_disk.proofs.Runs.{trusted_on}
use Rattle.alt_disk.proofs.Staying.{tells_on}
use Rattle.alt_flush.proofs.RemoveLaws.{more_gone, more_removed}
use Rattle.alt_flush.proofs.remove.remove_left_over.Goals as goal

pub returns-in_err-remove_one-clause-spans : goal.returns-in_err-remove_one-clause-spans
returns-in_err-remove_one-clause-spans g c trusted =
    let a : DiskState = g.D.Disk.state c.args.disk.now in
    let b : DiskState = g.D.Disk.state c.loop-file.disk in
    more_removed a b (g.D.Disk.state c.remove_one.new.disk) c.args.files.now c.loop-file.file-index
    c.args.version.now c.loop-file-test.true (c.loop-file.invariant.spans trusted)
    (c.in_err-remove_one.ensures.spans (trusted_on a b c.loop-file.invariant.goes trusted))

pub loop-file-preserved : goal.loop-file-preserved
loop-file-preserved g c =
    let a : DiskState = g.D.Disk.state c.args.disk.now in
    let b : DiskState = g.D.Disk.state c.loop-file.disk in
    let d : DiskState = g.D.Disk.state c.remove_one.new.disk in
    let told_b = λ (told : IsTrue a.tells). tells_on a b c.loop-file.invariant.goes told in
    record {
      spans = λ trusted. more_removed a b d c.args.files.now c.loop-file.file-index
          c.args.version.now c.loop-file-test.true (c.loop-file.invariant.spans trusted)
          (c.in_ok-remove_one.ensures.spans (trusted_on a b c.loop-file.invariant.goes trusted));
      gone = λ told. more_gone b d c.args.files.now c.loop-file.file-index c.args.version.now
          c.loop-file-test.true (c.loop-file.invariant.gone told)
          (c.remove_one.ensures.none (told_b told)) (c.in_ok-remove_one.ensures.gone (told_b told));
      kept = λ told f of. c.remove_one.ensures.kept (told_b told) f of
          ∙ c.loop-file.invariant.kept told f of;
      none = λ told f missing. c.remove_one.ensures.none (told_b told) f
          (c.loop-file.invariant.none told f missing);
      goes = goes_on a b d c.loop-file.invariant.goes c.in_ok-remove_one.ensures.goes;
      well = c.in_ok-remove_one.ensures.well ∙ c.loop-file.invariant.well;
    }
