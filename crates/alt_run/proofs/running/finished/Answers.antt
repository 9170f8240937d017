use Rattle.std.proofs.Common.{Err, ap, subst, sym}
use Rattle.alt_run.specs.Endings.{HasRun}
use Rattle.alt_run.specs.declared.ending.Ending.{Ending}
use Rattle.alt_run.proofs.EndingFor.{ended_for, never_whole}
use Rattle.alt_run.proofs.running.finished.Goals as goal

pub returns-in-Ok-clause-done : goal.returns-in-Ok-clause-done
returns-in-Ok-clause-done g c = (c.in-Ok.ensures.readable, c.in-Ok.ensures.done)

pub returns-in-Ok-clause-after : goal.returns-in-Ok-clause-after
returns-in-Ok-clause-after g c = λ whole. c.in-Ok.ensures.after

pub returns-in-Err-clause-done : goal.returns-in-Err-clause-done
returns-in-Err-clause-done g c =
    let state = g.S.Disk.state in
    let a = state c.args.shell.now in
    let b = state c.over_store.new.shell in
    subst (λ (e : Ending). HasRun c.args.job e a b) (sym c.ending_of.ensures.ending)
    (ended_for a b c.args.job c.in-Err.fault (λ same. c.in-Err.ensures.cause (ap Err same))
    c.in-Err.ensures.readable c.in-Err.ensures.done)

pub returns-in-Err-clause-after : goal.returns-in-Err-clause-after
returns-in-Err-clause-after g c = λ whole.
    absurd (never_whole c.in-Err.fault c.ending_of.result c.ending_of.ensures.ending whole)

pub returns-in-Ok-clause-most : goal.returns-in-Ok-clause-most
returns-in-Ok-clause-most g c = c.in-Ok.ensures.most

pub returns-in-Err-clause-most : goal.returns-in-Err-clause-most
returns-in-Err-clause-most g c = c.in-Err.ensures.most
