use Rattle.std.proofs.Common.{[], subst}
use Rattle.alt_lines.specs.Unread.{TellsLine}
use Rattle.alt_lines.specs.declared.feed.Cut.{Cut}
use Rattle.alt_tables.specs.Stands.{bounds_of}
use Rattle.alt_run.proofs.Hands.{tasks_any, tasks_read}
use Rattle.alt_run.proofs.serve.answer_line.Goals as goal

pub returns-in-Whole-clause-files : goal.returns-in-Whole-clause-files
returns-in-Whole-clause-files g c = λ taken tells s stands.
    tasks_read taken c.args.line.now
    (subst (λ (cut : Cut). TellsLine taken cut [] c.args.line.now) c.in-Whole.is tells)
    c.answer_whole.result (bounds_of c.answer_whole.new.tables).file
    (bounds_of c.args.tables.now).file (c.answer_whole.ensures.files s stands)

pub returns-in-TooLong-clause-files : goal.returns-in-TooLong-clause-files
returns-in-TooLong-clause-files g c = λ taken tells s stands.
    tasks_any taken c.turn_away.result (bounds_of c.args.tables.now).file
