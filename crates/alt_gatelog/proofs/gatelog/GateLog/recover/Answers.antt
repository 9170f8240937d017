use Rattle.std.proofs.Common.{◌≡◌, ℕ, List, IsTrue, IfErr, sym, ap, subst}
use Rattle.alt_disk.specs.Disk.{DiskState, contents, bytes_or_none}
use Rattle.alt_gatelog.specs.Log.{ExplainsLog}
use Rattle.alt_gatelog.specs.Parse.{HasNoLog}
use Rattle.alt_gatelog.proofs.OneList.{explains_none, no_header_none, if_err}
use Rattle.alt_gatelog.proofs.gatelog.GateLog.recover.Goals as goal

pub returns-in-Ok-clause-damaged : goal.returns-in-Ok-clause-damaged
returns-in-Ok-clause-damaged g c told =
    let a : DiskState = g.D.Disk.state c.args.disk.now in
    let b : DiskState = g.D.Disk.state c.size_of_log.new.disk in
    let told_b : IsTrue b.tells = subst (λ v. IsTrue v)
    (sym c.size_of_log.ensures.goes.tells) told in
    let same : contents b c.args.f ≡ contents a c.args.f =
    ap bytes_or_none ((c.size_of_log.ensures.quiet told).file c.args.f) in
    subst (λ (bytes : List ℕ). IfErr c.walk.result (ExplainsLog c.args.f bytes)) same
    (c.walk.ensures.damaged told_b)

pub returns-in-Ok-clause-no_log : goal.returns-in-Ok-clause-no_log
returns-in-Ok-clause-no_log g c told =
    let bytes = contents (g.D.Disk.state c.args.disk.now) c.args.f in
    if_err c.walk.result (ExplainsLog c.args.f bytes) (HasNoLog bytes)
    (explains_none c.args.f bytes) (returns-in-Ok-clause-damaged g c told)

pub returns-in-Err-clause-no_log : goal.returns-in-Err-clause-no_log
returns-in-Err-clause-no_log g c told = no_header_none c.args.f
    (contents (g.D.Disk.state c.args.disk.now) c.args.f) c.in-Err.fault
    (c.in-Err.ensures.damaged told)
