-- The first segments, and then the last one.
use Rattle.std.proofs.Common.{◌≡◌, ◌<◌, ◌-◌, ◌++◌, ◌∷◌, [], ℕ, List, IsTrue, get_or, length, sym, ap, take, ◌∙◌, arith}
use Rattle.std.proofs.lemmas.Bool.Decides.{nat_tests}
use Rattle.alt_disk.specs.Disk.{DiskState}
use Rattle.alt_disk.proofs.Runs.{quiet_then}
use Rattle.alt_disk.proofs.Staying.{tells_on}
use Rattle.alt_gatelog.specs.InHand.{file_of_gate_log}
use Rattle.alt_gatelog.specs.declared.gatelog.GateLog.{GateLog}
use Rattle.alt_gatelog.proofs.OneList.{if_err}
use Rattle.alt_manifest.proofs.RecoverLaws.{if_both}
use Rattle.alt_recovery.specs.Replays.{ExplainsSegment, ExplainsSegments, ReplaysLast}
use Rattle.alt_recovery.proofs.SegmentReplays.{SegmentDone, firsts_explain, last_split, replays_last, segment_explains, so_far_of}
use Rattle.alt_recovery.proofs.replay.replay_segments.Goals as goal

pub returns-in-Err-clause-explained : goal.returns-in-Err-clause-explained
returns-in-Err-clause-explained g c told =
    let a : DiskState = g.D.Disk.state c.args.disk.now in
    let fs : List ℕ = c.args.segments.now in
    let is = c.if-is_empty.ensures in
    let some : 0 < length fs = grind (arith, nat_tests) in
    firsts_explain a.file fs (take (length fs - 1) fs) (get_or fs (length fs - 1) 0 ∷ [])
    c.args.replay.now.least c.in-Err.fault (last_split fs some) (c.in-Err.ensures.explained told)

pub returns-clause-ok : goal.returns-clause-ok
returns-clause-ok g c =
    let a : DiskState = g.D.Disk.state c.args.disk.now in
    let b : DiskState = g.D.Disk.state c.replay_firsts.new.disk in
    let d : DiskState = g.D.Disk.state c.replay_segment.new.disk in
    let fs : List ℕ = c.args.segments.now in
    let is = c.if-is_empty.ensures in
    let some : 0 < length fs = grind (arith, nat_tests) in
    if_both c.replay_segment.result
    (λ (log : GateLog). file_of_gate_log log ≡ get_or fs (length fs - 1) 0)
    (λ (log : GateLog). IsTrue b.tells
    → SegmentDone d log c.replay_firsts.new.replay c.replay_segment.new.replay)
    (λ (log : GateLog). IsTrue a.tells
    → ReplaysLast d fs c.args.replay.now c.replay_segment.new.replay log)
    (λ log named done told.
    let told_b = tells_on a b c.replay_firsts.ensures.goes told in
    replays_last a.file d c.args.replay.now c.replay_firsts.new.replay c.replay_segment.new.replay fs
    (take (length fs - 1) fs) log
    (last_split fs some ∙ ap (λ (n : ℕ). take (length fs - 1) fs ++ n ∷ []) (sym named))
    (quiet_then a b d (c.replay_firsts.ensures.quiet told) (c.replay_segment.ensures.quiet told_b)).file
    (so_far_of a.file c.args.replay.now c.replay_firsts.new.replay (take (length fs - 1) fs)
    (c.in-Ok.ensures.ok told)) (done told_b))
    c.replay_segment.ensures.file c.replay_segment.ensures.ok

pub returns-clause-explained : goal.returns-clause-explained
returns-clause-explained g c told =
    let a : DiskState = g.D.Disk.state c.args.disk.now in
    let b : DiskState = g.D.Disk.state c.replay_firsts.new.disk in
    let fs : List ℕ = c.args.segments.now in
    let is = c.if-is_empty.ensures in
    let some : 0 < length fs = grind (arith, nat_tests) in
    let last : ℕ = get_or fs (length fs - 1) 0 in
    if_err c.replay_segment.result
    (ExplainsSegment last c.replay_firsts.new.replay.least (b.file last))
    (ExplainsSegments a.file fs c.args.replay.now.least)
    (λ fault h. segment_explains a.file b.file c.args.replay.now c.replay_firsts.new.replay fs
    (take (length fs - 1) fs) [] last fault (last_split fs some)
    (c.replay_firsts.ensures.quiet told).file
    (so_far_of a.file c.args.replay.now c.replay_firsts.new.replay (take (length fs - 1) fs)
    (c.in-Ok.ensures.ok told)) h)
    (c.replay_segment.ensures.explained (tells_on a b c.replay_firsts.ensures.goes told))
