use Rattle.std.proofs.Common.{Err, ap}
use Rattle.alt_run.proofs.Initing.{makes, none_made, none_said, rose_say, silent_by, some_said}
use Rattle.alt_run.proofs.init.init.Goals as goal

pub returns-in-Ok-say-clause-done : goal.returns-in-Ok-say-clause-done
returns-in-Ok-say-clause-done g c =
    let state = g.S.Disk.state in
    makes (state c.args.shell.now) (state c.make_store.new.disk) (state c.say.new.self)
    c.in-Ok.ensures.goes c.in-Ok-say.ensures.call c.in-Ok-say.ensures.said c.in-Ok-say.ensures.moments
    c.in-Ok.ensures.empty c.in-Ok.ensures.images

pub returns-in-Err-NotEmpty-clause-done : goal.returns-in-Err-NotEmpty-clause-done
returns-in-Err-NotEmpty-clause-done g c =
    let state = g.S.Disk.state in
    none_made (state c.args.shell.now) (state c.make_store.new.disk) _ _
    c.make_store.ensures.goes
    c.in-Err-NotEmpty.field-0-is c.in-Err-NotEmpty.ensures.not_empty
    c.in-Err-NotEmpty.ensures.untouched

pub returns-in-Err-Failed-clause-done : goal.returns-in-Err-Failed-clause-done
returns-in-Err-Failed-clause-done g c =
    let state = g.S.Disk.state in (
      none_said (state c.args.shell.now) (state c.make_store.new.disk) c.make_store.ensures.goes,
      c.in-Err-Failed.ensures.cause (ap Err c.in-Err-Failed.field-0-is),
    )

pub returns-in-Err-NoMemory-clause-done : goal.returns-in-Err-NoMemory-clause-done
returns-in-Err-NoMemory-clause-done g c =
    let state = g.S.Disk.state in
    silent_by (state c.args.shell.now) (state c.make_store.new.disk) c.make_store.ensures.goes

pub returns-in-Err-clause-done : goal.returns-in-Err-clause-done
returns-in-Err-clause-done g c =
    let state = g.S.Disk.state in (
      some_said (state c.args.shell.now) (state c.make_store.new.disk) (state c.say.new.self)
          c.make_store.ensures.goes c.in-Err.ensures.call c.in-Err.ensures.moments
          c.in-Ok.ensures.images c.in-Err.ensures.said,
      rose_say (state c.args.shell.now) (state c.make_store.new.disk) (state c.say.new.self)
          c.requires.quiet c.make_store.ensures.goes c.in-Err.ensures.call,
    )

pub returns-in-Ok-say-clause-untouched : goal.returns-in-Ok-say-clause-untouched
returns-in-Ok-say-clause-untouched g c = λ tells f there. absurd (there (c.in-Ok.ensures.empty tells f))

pub returns-in-Err-clause-untouched : goal.returns-in-Err-clause-untouched
returns-in-Err-clause-untouched g c = λ tells f there. absurd (there (c.in-Ok.ensures.empty tells f))
