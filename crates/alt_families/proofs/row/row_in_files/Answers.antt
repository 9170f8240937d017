-- One file more is asked.
use Rattle.std.proofs.Common.{◌<◌, ◌≤◌, List, length, get_or, arith, rules, refl, sym, ap, subst, ◌∙◌, drop_of_length-le}
use Rattle.alt_rowfile.specs.declared.rowfile.RowFile.{RowFile}
use Rattle.std.specs.FinMap.{entries, get-entries}
use Rattle.alt_disk.specs.Disk.{DiskState}
use Rattle.alt_disk.proofs.Calls.{goes_refl, goes_on}
use Rattle.alt_merge.specs.Merges.{all_rows}
use Rattle.alt_disk.proofs.Runs.{quiet_start, quiet_then}
use Rattle.alt_disk.proofs.Staying.{tells_on}
use Rattle.alt_families.proofs.OpenLaws.{open_quiet, row_first, row_more, row_last, some_open}
use Rattle.alt_families.proofs.row.row_in_files.Goals as goal

pub loop-file-init : goal.loop-file-init
loop-file-init g c =
    let s : DiskState = g.D.Disk.state c.args.disk.now in record {
      left = λ told maps each. row_first s c.args.family.now.files.items c.args.key.now maps each;
      quiet = λ told. quiet_start s;
      goes = goes_refl s;
      reads = omega arith;
      well = refl;
    }

pub loop-file-preserved : goal.loop-file-preserved
loop-file-preserved g c =
    let s : DiskState = g.D.Disk.state c.args.disk.now in
    let a : DiskState = g.D.Disk.state c.loop-file.disk in
    let b : DiskState = g.D.Disk.state c.row.new.disk in
    let so_far = c.loop-file.invariant in record {
      left = λ told maps each. row_more s c.args.family.now.files.items c.loop-file.file-index
          c.file-item.result c.args.key.now c.loop-file.row c.in-Ok.more c.in_ok-row-in-Ok.row
          (all_rows maps) (so_far.left told maps each) (subst (λ (l : List RowFile). c.loop-file.file-index < length l) c.deref-file-items.ensures.value
          c.loop-file-test.true) (c.file-item.is ∙ ap (λ (l : List RowFile). get_or l c.loop-file.file-index
          c.file-item.result) c.deref-file-items.ensures.value)
          (λ m held. c.in-Ok.ensures.row (tells_on s a so_far.goes told) (entries m)
          (open_quiet s a c.file-item.result m (so_far.quiet told) held)
          ∙ sym (get-entries m c.args.key.now))
          c.in_ok-row-in-Ok.ensures;
      quiet = λ told. quiet_then s a b (so_far.quiet told)
          (c.row.ensures.quiet (tells_on s a so_far.goes told));
      goes = goes_on s a b so_far.goes c.row.ensures.goes;
      reads = let one = c.row.ensures.reads in let before = so_far.reads in omega (arith, one, before);
      well = c.in-Ok.ensures.well (search rules) ∙ so_far.well;
    }

pub returns-in-Err-clause-undamaged : goal.returns-in-Err-clause-undamaged
returns-in-Err-clause-undamaged g c told maps each =
    let s : DiskState = g.D.Disk.state c.args.disk.now in
    let a : DiskState = g.D.Disk.state c.loop-file.disk in
    let so_far = c.loop-file.invariant in
    some_open s c.args.family.now.files.items c.loop-file.file-index c.file-item.result
    c.args.key.now c.loop-file.row (all_rows maps) (so_far.left told maps each) (subst (λ (l : List RowFile). c.loop-file.file-index < length l) c.deref-file-items.ensures.value
    c.loop-file-test.true) (c.file-item.is ∙ ap (λ (l : List RowFile). get_or l c.loop-file.file-index
    c.file-item.result) c.deref-file-items.ensures.value) (λ m held. c.in-Err.ensures.undamaged (tells_on s a so_far.goes told) (entries m)
    (open_quiet s a c.file-item.result m (so_far.quiet told) held))

pub returns-clause-row : goal.returns-clause-row
returns-clause-row g c told maps each =
    row_last (g.D.Disk.state c.args.disk.now) _ c.args.key.now c.loop-file.row (all_rows maps)
    (c.loop-file.invariant.left told maps each)
    (drop_of_length-le c.args.family.now.files.items (subst (λ (l : List RowFile).
    length l ≤ c.loop-file.file-index) c.deref-file-items.ensures.value c.loop-file-test.false))
