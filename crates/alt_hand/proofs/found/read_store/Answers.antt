-- The versions, and then what the last one names.
use Rattle.std.proofs.Common.{sym, subst}
use Rattle.alt_disk.specs.Disk.{DiskState}
use Rattle.alt_disk.proofs.Staying.{tells_on}
use Rattle.alt_gatelog.proofs.OneList.{if_err}
use Rattle.alt_layout.specs.Files.{Image}
use Rattle.alt_hand.specs.Recovery.{ExplainsStore}
use Rattle.alt_hand.proofs.FoundLaws.{versions_explain}
use Rattle.alt_hand.proofs.found.read_store.Goals as goal

pub returns-in-Ok-clause-damaged : goal.returns-in-Ok-clause-damaged
returns-in-Ok-clause-damaged g c told =
    let a : DiskState = g.D.Disk.state c.args.disk.now in
    let b : DiskState = g.D.Disk.state c.recover.new.disk in
    if_err c.read_version.result (ExplainsStore b.file) (ExplainsStore a.file)
    (λ fault h. subst (λ (files : Image). ExplainsStore files fault)
    (λ i f. (c.recover.ensures.quiet told).file f i) h)
    (c.read_version.ensures.damaged (tells_on a b c.recover.ensures.goes told)
    (c.in-Ok.ensures.reads told) c.in-Ok.ensures.file)

pub returns-in-Err-clause-damaged : goal.returns-in-Err-clause-damaged
returns-in-Err-clause-damaged g c told =
    let a : DiskState = g.D.Disk.state c.args.disk.now in
    subst (ExplainsStore a.file) (sym c.from.ensures)
    (versions_explain a.file c.in-Err.fault (c.in-Err.ensures.explained told))
