-- The rows that are read are the lowest that are left over.
use Rattle.std.proofs.Common.{ap, ◌∙◌, arith}
use Rattle.alt_disk.proofs.Runs.{tells_of}
use Rattle.alt_faults.proofs.Telling.{memory-outside}
use Rattle.alt_rowchanges.specs.Faults.{told_by_tables}
use Rattle.alt_rowchanges.specs.Trims.{number_behind_second}
use Rattle.alt_rowchanges.proofs.LeftoverRows.{lowest_none, range_none}
use Rattle.alt_tables.proofs.Pages.{engine_fault}
use Rattle.alt_tables.proofs.TrimSteps.{page_lowest, page_numbers, page_range}
use Rattle.alt_tables.proofs.tables.Tables.lowest.Goals as goal

pub returns-then-number-from-clause-lowest : goal.returns-then-number-from-clause-lowest
returns-then-number-from-clause-lowest g c s name t l stands at stream rows some above =
    lowest_none l c.args.family c.args.number c.args.from c.if-number-from.true above c.new.result
    c.new.ensures.items

pub returns-then-number-from-clause-lowest_from : goal.returns-then-number-from-clause-lowest_from
returns-then-number-from-clause-lowest_from g c s name t l stands at stream rows some =
    range_none l c.args.family c.args.number c.args.from c.if-number-from.true c.new.result
    c.new.ensures.items

pub overflow_add-number : goal.overflow_add-number
overflow_add-number g c = omega (arith, c.requires.number, c.requires.room)

pub behind-from-requires-clause-room : goal.behind-from-requires-clause-room
behind-from-requires-clause-room g c = omega (arith, c.requires.number, c.requires.room)

pub returns-in-Err-clause-fault : goal.returns-in-Err-clause-fault
returns-in-Err-clause-fault g c s name t stands at stream some = engine_fault c.in-Err.fault
    c.from.result c.from.ensures c.in-Err.ensures.unspent (c.in-Err.ensures.undamaged
    (tells_of (g.D.Disk.state c.args.disk.now) stands.rows.trusted) stands.rows.layout
    stands.rows.is.hand.reads)

pub returns-in-Ok-numbers_of-clause-lowest : goal.returns-in-Ok-numbers_of-clause-lowest
returns-in-Ok-numbers_of-clause-lowest g c s name t l stands at stream rows some above =
    page_lowest (g.D.Disk.state c.args.disk.now) c.args.self.now s name t stands at c.args.family
    stream c.args.from c.args.number (omega (arith, c.if-number-from.false)) c.requires.number some
    c.in-Ok.range.from c.in-Ok.range.to c.in-Ok.ensures.from c.in-Ok.ensures.to
    c.new-page.result.items c.rows.new.out.items c.new-page.ensures.items c.in-Ok-rows.ensures.rows
    l rows above c.in-Ok-numbers_of.numbers c.in-Ok-numbers_of.ensures.numbers
    c.in-Ok-numbers_of.ensures.two c.behind-from.result
    (c.behind-from.ensures ∙ ap (number_behind_second c.args.number) c.as_slice.ensures.value)

pub returns-in-Ok-numbers_of-clause-lowest_from : goal.returns-in-Ok-numbers_of-clause-lowest_from
returns-in-Ok-numbers_of-clause-lowest_from g c s name t l stands at stream rows some =
    page_range (g.D.Disk.state c.args.disk.now) c.args.self.now s name t stands at c.args.family
    stream c.args.from c.args.number (omega (arith, c.if-number-from.false)) c.requires.number some
    c.in-Ok.range.from c.in-Ok.range.to c.in-Ok.ensures.from c.in-Ok.ensures.to
    c.new-page.result.items c.rows.new.out.items c.new-page.ensures.items c.in-Ok-rows.ensures.rows
    l rows c.in-Ok-numbers_of.numbers c.in-Ok-numbers_of.ensures.numbers
    c.in-Ok-numbers_of.ensures.two c.behind-from.result
    (c.behind-from.ensures ∙ ap (number_behind_second c.args.number) c.as_slice.ensures.value)

pub returns-clause-fault : goal.returns-clause-fault
returns-clause-fault g c s name t stands at stream some =
    let (ns, are, two) = page_numbers (g.D.Disk.state c.args.disk.now) c.args.self.now s name t
    stands at c.args.family stream c.args.from c.args.number
    (omega (arith, c.if-number-from.false)) c.requires.number some
    c.in-Ok.range.from c.in-Ok.range.to c.in-Ok.ensures.from c.in-Ok.ensures.to
    c.new-page.result.items c.rows.new.out.items c.new-page.ensures.items c.in-Ok-rows.ensures.rows in
    memory-outside (told_by_tables c.in-Err-numbers_of.fault)
    (c.in-Err-numbers_of.ensures.fault ns are two)
