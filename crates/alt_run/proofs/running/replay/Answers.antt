use Rattle.std.proofs.Common.{[], false, refl}
use Rattle.alt_tables.specs.Stands.{bounds_of}
use Rattle.alt_run.specs.Turns.{asks}
use Rattle.alt_run.specs.Runs.{AnswersSomeLines, LeftThen}
use Rattle.alt_talks.specs.declared.fault.RunFault.TheVariants.{NoMemory}
use Rattle.alt_run.proofs.Pulling.{answers_some}
use Rattle.alt_talks.proofs.Stretching.{stretch_none}
use Rattle.alt_run.proofs.Serving.{breaks_none}
use Rattle.alt_tables.proofs.Left.{stands_left}
use Rattle.alt_talks.proofs.StretchLeaving.{leaves-here}
use Rattle.alt_run.proofs.TurnLaws.{left-nothing}
use Rattle.alt_run.proofs.running.replay.Goals as goal

pub returns-in_default-clause-answered : goal.returns-in_default-clause-answered
returns-in_default-clause-answered g c = λ s stands.
    let here = g.S.Disk.state c.args.shell.now in
    stretch_none here {P = AnswersSomeLines NoMemory (bounds_of c.args.tables.now).file s}
    (answers_some here here NoMemory (bounds_of c.args.tables.now).file s _ _ (record {
      breaks = breaks_none NoMemory _ tt s _;
      inside = refl;
      leaves = leaves-here here (LeftThen s [] []) (λ trusted t image is_image.
          left-nothing s (asks false []) [] image
          (stands_left here c.args.tables.now s stands image is_image));
    }))
