-- What a step leaves of the log, by the limits of the tables.
use Rattle.std.proofs.Common.{OnOk, Some, subst, sym}
use Rattle.alt_tables.specs.HandDeclaredLimits.{Limits}
use Rattle.alt_talks.specs.Works.{HasFewEntries}
use Rattle.alt_run.specs.Behind.{Behind}
use Rattle.alt_tables.specs.Stands.{Stands, bounds_of}
use Rattle.alt_run.specs.Turns.{control}
use Rattle.alt_run.specs.declared.lines.Control.{Control}
use Rattle.alt_run.proofs.Reopening.{fewer_files}
use Rattle.alt_run.proofs.serve.obey.Goals as goal

pub returns-in-Step-clause-behind : goal.returns-in-Step-clause-behind
returns-in-Step-clause-behind g c =
    subst (λ (word : Control). OnOk c.work-in-Step.result (Behind c.args.limits.flush
    (Some (control word)) (g.D.Disk.state c.work-in-Step.new.disk))) (sym c.in-Step.is)
    (subst (λ (limits : Limits). OnOk c.work-in-Step.result
    (HasFewEntries limits.flush (g.D.Disk.state c.work-in-Step.new.disk))) c.requires.known
    c.work-in-Step.ensures.entries)

pub returns-in-Reopen-clause-files : goal.returns-in-Reopen-clause-files
returns-in-Reopen-clause-files g c =
    fewer_files c.reopen.result (bounds_of c.reopen.new.tables).file
    (bounds_of c.args.tables.now).file (Stands (g.D.Disk.state c.args.disk.now) c.args.tables.now)
    c.reopen.ensures.files
