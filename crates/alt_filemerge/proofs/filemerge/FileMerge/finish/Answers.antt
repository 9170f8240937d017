-- All that is left was added.
use Rattle.std.proofs.lemmas.Result.{IfOk-weaker}
use Rattle.alt_cells.specs.Compacted.{compacted}
use Rattle.alt_compact.specs.Jobs.{purges}
use Rattle.alt_filemerge.proofs.filemerge.FileMerge.finish.Goals as goal

pub returns-clause-finished : goal.returns-clause-finished
returns-clause-finished g c =
    IfOk-weaker c.finish.result _ _
    (λ file lasts t files taken stands.
    lasts t (compacted (purges c.args.self.job) taken) stands.written) c.finish.ensures.finished
