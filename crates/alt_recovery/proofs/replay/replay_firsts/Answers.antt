-- One segment more.
use Rattle.std.proofs.Common.{rules, ◌+◌, IsTrue, drop, get_or, take, ◌∙◌}
use Rattle.alt_disk.specs.Disk.{DiskState}
use Rattle.alt_disk.proofs.Calls.{goes_on}
use Rattle.alt_disk.proofs.Runs.{quiet_then}
use Rattle.alt_disk.proofs.Staying.{tells_on}
use Rattle.alt_recovery.proofs.SegmentReplays.{segment_explains, segments_all, segments_more, split_at}
use Rattle.alt_recovery.proofs.replay.replay_firsts.Goals as goal

pub returns-in-Err-clause-explained : goal.returns-in-Err-clause-explained
returns-in-Err-clause-explained g c told =
    let a : DiskState = g.D.Disk.state c.args.disk.now in
    let b : DiskState = g.D.Disk.state c.loop-f.disk in
    let i = c.loop-f.f-index in
    let fs = c.args.segments.now in
    segment_explains a.file b.file c.args.replay.now c.loop-f.replay fs (take i fs) (drop (i + 1) fs)
    (get_or fs i 0) c.in-Err.fault (split_at fs i c.loop-f-test.true)
    (c.loop-f.invariant.quiet told).file (c.loop-f.invariant.done told)
    (c.in-Err.ensures.explained (tells_on a b c.loop-f.invariant.goes told))

pub loop-f-preserved : goal.loop-f-preserved
loop-f-preserved g c =
    let a : DiskState = g.D.Disk.state c.args.disk.now in
    let b : DiskState = g.D.Disk.state c.loop-f.disk in
    let d : DiskState = g.D.Disk.state c.replay_segment.new.disk in
    let inv = c.loop-f.invariant in
    let told_b = λ (told : IsTrue a.tells). tells_on a b inv.goes told in
    record {
      goes = goes_on a b d inv.goes c.replay_segment.ensures.goes;
      well = c.in-Ok.ensures.well (search rules) ∙ inv.well;
      quiet = λ told. quiet_then a b d (inv.quiet told) (c.replay_segment.ensures.quiet (told_b told));
      done = λ told. segments_more a.file d c.args.replay.now c.loop-f.replay
          c.replay_segment.new.replay c.args.segments.now c.loop-f.f-index c.in-Ok.field-0
          c.loop-f-test.true c.in-Ok.ensures.file
          (quiet_then a b d (inv.quiet told) (c.replay_segment.ensures.quiet (told_b told))).file
          (inv.done told) (c.in-Ok.ensures.ok (told_b told));
    }

pub returns-clause-ok : goal.returns-clause-ok
returns-clause-ok g c told =
    segments_all (g.D.Disk.state c.args.disk.now).file c.args.replay.now c.loop-f.replay
    c.args.segments.now c.loop-f.f-index c.loop-f-test.false (c.loop-f.invariant.done told)
