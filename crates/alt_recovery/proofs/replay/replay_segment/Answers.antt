-- The log of a segment, and then its entries.
use Rattle.std.proofs.Common.{ℕ, sym, subst}
use Rattle.alt_disk.specs.Disk.{DiskState}
use Rattle.alt_disk.proofs.Staying.{tells_on}
use Rattle.alt_gatelog.specs.InHand.{form_of, ReadsEntries}
use Rattle.alt_gatelog.specs.declared.gatelog.GateLog.{GateLog}
use Rattle.alt_gatelog.proofs.Elsewhere.{reads_log}
use Rattle.alt_gatelog.specs.Log.{IsLog}
use Rattle.alt_layout.specs.Entries.{HoldWrites}
use Rattle.alt_recovery.proofs.SegmentReplays.{log_explains, log_while, no_log_explains}
use Rattle.alt_recovery.proofs.replay.replay_segment.Goals as goal

pub returns-in-Err-clause-explained : goal.returns-in-Err-clause-explained
returns-in-Err-clause-explained g c told =
    no_log_explains c.args.f c.args.replay.now.least
    ((g.D.Disk.state c.args.disk.now).file c.args.f) c.in-Err.fault (c.in-Err.ensures.damaged told)

pub returns-in-Ok-replay_log-clause-ok : goal.returns-in-Ok-replay_log-clause-ok
returns-in-Ok-replay_log-clause-ok g c told =
    let a : DiskState = g.D.Disk.state c.args.disk.now in
    let b : DiskState = g.D.Disk.state c.recover.new.disk in
    let d : DiskState = g.D.Disk.state c.replay_log.new.disk in
    let told_b = tells_on a b c.recover.ensures.goes told in
    let found = c.in-Ok.ensures.reads told in
    let done = c.in-Ok-replay_log.ensures.ok told_b found.0 found.1 in (
      done.0,
      found.0,
      subst (λ (l : GateLog). ReadsEntries d l found.0) (sym c.replay_log.ensures.log)
          (log_while b d c.in-Ok.log found.0 (c.replay_log.ensures.quiet told_b) found.1),
      subst (λ (l : GateLog). HoldWrites (form_of l) found.0 done.0) (sym c.replay_log.ensures.log)
          done.1,
      done.2,
    )

pub returns-in-Err-replay_log-clause-explained : goal.returns-in-Err-replay_log-clause-explained
returns-in-Err-replay_log-clause-explained g c told =
    let a : DiskState = g.D.Disk.state c.args.disk.now in
    let b : DiskState = g.D.Disk.state c.recover.new.disk in
    let found = c.in-Ok.ensures.reads told in
    log_explains (form_of c.in-Ok.log) c.args.f c.args.replay.now.least (a.file c.args.f) found.0
    c.in-Err-replay_log.fault
    (subst (IsLog (form_of c.in-Ok.log) found.0) ((c.recover.ensures.quiet told).file c.args.f)
    (subst (λ (n : ℕ). IsLog (form_of c.in-Ok.log) found.0 (b.file n)) c.in-Ok.ensures.file
    (reads_log b c.in-Ok.log found.0 found.1)))
    (c.in-Err-replay_log.ensures.damaged (tells_on a b c.recover.ensures.goes told) found.0 found.1)
