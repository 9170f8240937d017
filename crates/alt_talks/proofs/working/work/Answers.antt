-- What a task leaves of the log.
use Rattle.std.proofs.Common.{◌≡◌, ◌+◌, refl, subst}
use Rattle.alt_disk.specs.Disk.{IsTrusted}
use Rattle.alt_disk.proofs.Runs.{trusted_back}
use Rattle.alt_tables.specs.EngineDeclaredTask.{Task}
use Rattle.alt_tables.specs.EngineDeclaredTask.TheVariants.{Step, FlushAll, MergeAll}
use Rattle.alt_machine.specs.State.{State}
use Rattle.alt_tables.proofs.OpeningOneState.{one_state_of_image}
use Rattle.alt_tables.specs.Merged.{IsMergedFor}
use Rattle.alt_tables.specs.FilesLeft.{most_files}
use Rattle.alt_tables.specs.Stands.{bounds_of, limits_of_tables}
use Rattle.alt_tables.proofs.Left.{stands_read}
use Rattle.alt_talks.specs.Works.{AfterWork}
use Rattle.alt_talks.proofs.FileFaults.{file_told}
use Rattle.alt_talks.proofs.working.work.Goals as goal

pub returns-in-Ok-clause-entries : goal.returns-in-Ok-clause-entries
returns-in-Ok-clause-entries g c = by c.args.task refl
  where
    before : IsTrusted (g.D.Disk.state c.work.new.disk) → IsTrusted (g.D.Disk.state c.args.disk.now)
    before trusted = trusted_back (g.D.Disk.state c.args.disk.now) (g.D.Disk.state c.work.new.disk)
        c.in-Ok.ensures.goes trusted

    by : (t : Task) → c.args.task ≡ t
        → AfterWork t (limits_of_tables c.args.tables.now).flush (g.D.Disk.state c.work.new.disk)
    by Step is = λ some trusted n entries. c.in-Ok.ensures.step is some (before trusted) n entries
    by MergeAll is = λ trusted r files. let given = c.requires.ready (before trusted) in
        let same = one_state_of_image (g.D.Disk.state c.work.new.disk).file given.0 r
        (stands_read (g.D.Disk.state c.work.new.disk) c.work.new.self given.0
        (c.in-Ok.ensures.ok given.0 given.1)) files in
        subst (λ (s : State). IsMergedFor s (g.D.Disk.state c.work.new.disk).file) same
        (c.in-Ok.ensures.merge_all is (before trusted) given.0 given.1)
    by FlushAll is = λ trusted n entries. c.in-Ok.ensures.flush_all is (before trusted) n entries

pub returns-in-Err-clause-fault : goal.returns-in-Err-clause-fault
returns-in-Err-clause-fault g c s stands =
    file_told c.in-Err.fault c.from.result ((bounds_of c.args.tables.now).file + most_files)
    c.from.ensures (c.in-Err.ensures.fault s stands)
