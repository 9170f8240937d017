use Rattle.alt_run.proofs.Opening.{unreadable_of}
use Rattle.alt_run.proofs.open.open.Goals as goal

pub returns-in-Err-clause-unreadable : goal.returns-in-Err-clause-unreadable
returns-in-Err-clause-unreadable g c = λ tells.
    let files = (g.D.Disk.state c.args.disk.now).file in
    unreadable_of files c.in-Err.fault c.from.result c.from.ensures
    (c.in-Err.ensures.explained tells) (c.in-Err.ensures.no_state tells)
