-- One entry more.
use Rattle.std.proofs.Common.{rules, ◌<◌, [], IsTrue, get_or, length, sym, subst, ◌∙◌, arith}
use Rattle.alt_disk.specs.Disk.{DiskState}
use Rattle.alt_disk.proofs.Calls.{goes_on}
use Rattle.alt_disk.proofs.Runs.{quiet_then}
use Rattle.alt_disk.proofs.Staying.{tells_on}
use Rattle.alt_gatelog.specs.InHand.{form_of, ReadsEntries}
use Rattle.alt_gatelog.specs.declared.gatelog.GateLog.{GateLog}
use Rattle.alt_recovery.specs.Entries.{ExplainsEntry}
use Rattle.alt_recovery.proofs.ReplayLaws.{EntryDone, entry_explains, so_far_all, so_far_more}
use Rattle.alt_recovery.proofs.SegmentReplays.{log_while}
use Rattle.alt_recovery.proofs.replay.replay_log.Goals as goal

pub returns-in-Err-clause-damaged : goal.returns-in-Err-clause-damaged
returns-in-Err-clause-damaged g c told entries reads =
    let a : DiskState = g.D.Disk.state c.args.disk.now in
    let b : DiskState = g.D.Disk.state c.loop-i.disk in
    let inv = c.loop-i.invariant in
    let reads_b : ReadsEntries b c.loop-i.log entries =
    log_while a b c.loop-i.log entries (inv.quiet told)
    (subst (λ (l : GateLog). ReadsEntries a l entries) (sym inv.log) reads) in
    let within : c.loop-i.i < length entries =
    omega (arith, c.loop-i-test.true, c.entries-i-end.ensures.list a entries reads) in
    entry_explains (form_of c.args.log.now) c.args.f c.args.replay.now c.loop-i.replay entries c.loop-i.i c.in-Err.fault
    within (inv.done told entries reads)
    (subst (λ (l : GateLog). ExplainsEntry (form_of l) c.args.f entries c.loop-i.i
    c.loop-i.replay.least c.in-Err.fault) inv.log
    (c.in-Err.ensures.damaged (tells_on a b inv.goes told) entries reads_b))

pub loop-i-preserved : goal.loop-i-preserved
loop-i-preserved g c =
    let a : DiskState = g.D.Disk.state c.args.disk.now in
    let b : DiskState = g.D.Disk.state c.loop-i.disk in
    let d : DiskState = g.D.Disk.state c.replay_entry.new.disk in
    let inv = c.loop-i.invariant in
    let told_b = λ (told : IsTrue a.tells). tells_on a b inv.goes told in
    record {
      log = c.replay_entry.ensures.log ∙ inv.log;
      goes = goes_on a b d inv.goes c.replay_entry.ensures.goes;
      well = c.in-Ok.ensures.well (search rules) ∙ inv.well;
      quiet = λ told. quiet_then a b d (inv.quiet told) (c.replay_entry.ensures.quiet (told_b told));
      done = λ told entries reads.
          let reads_b : ReadsEntries b c.loop-i.log entries =
          log_while a b c.loop-i.log entries (inv.quiet told)
          (subst (λ (l : GateLog). ReadsEntries a l entries) (sym inv.log) reads) in
          let within : c.loop-i.i < length entries =
          omega (arith, c.loop-i-test.true, c.entries-i-end.ensures.list a entries reads) in
          so_far_more (form_of c.args.log.now) c.args.replay.now c.loop-i.replay
          c.replay_entry.new.replay entries c.loop-i.i within (inv.done told entries reads)
          (subst (λ (l : GateLog). EntryDone (form_of l) (get_or entries c.loop-i.i [])
          c.loop-i.replay c.replay_entry.new.replay) inv.log
          (c.in-Ok.ensures.ok (told_b told) entries reads_b));
    }

pub returns-clause-ok : goal.returns-clause-ok
returns-clause-ok g c told entries reads =
    let a : DiskState = g.D.Disk.state c.args.disk.now in
    so_far_all (form_of c.args.log.now) c.args.replay.now c.loop-i.replay entries c.loop-i.i
    (omega (arith, c.loop-i-test.false, c.entries-i-end.ensures.list a entries reads))
    (c.loop-i.invariant.done told entries reads)
