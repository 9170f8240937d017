-- The number, the count and the changes.
use Rattle.std.proofs.Common.{arith}
use Rattle.std.proofs.lemmas.Result.{err_from_is_err_and}
use Rattle.alt_writes.specs.Reading.{NoWrite}
use Rattle.alt_writes.proofs.ReadLaws.{none_map}
use Rattle.alt_writes.proofs.EntryReads.{no_write-number, no_write-early, no_write-last, no_write-count, no_write-changes, write_read}
use Rattle.alt_writes.proofs.read.take_write.Goals as goal

pub returns-in_err-number-clause-none : goal.returns-in_err-number-clause-none
returns-in_err-number-clause-none c =
    let p = err_from_is_err_and c.from_residual.result
    c.from_residual.ensures.1 in
    rw (p.1, p.2) (none_map _ (NoWrite c.args.least c.args.bytes.now) c.in_err-number.field-0.0
    (no_write-number c.args.least c.args.bytes.now) c.in_err-number.ensures.none)

pub returns-then-number-least-clause-none : goal.returns-then-number-least-clause-none
returns-then-number-least-clause-none c =
    let number = c.in_ok-number.ensures.number in
    no_write-early c.args.least c.args.bytes.now c.in_ok-number.number c.in_ok-number.counted.now
    number.0 number.1 c.if-number-least.true

pub returns-then-number-ge-LAST_NUMBER-clause-none :
    goal.returns-then-number-ge-LAST_NUMBER-clause-none
returns-then-number-ge-LAST_NUMBER-clause-none c =
    let number = c.in_ok-number.ensures.number in
    no_write-last c.args.least c.args.bytes.now c.in_ok-number.number c.in_ok-number.counted.now
    number.0 number.1 (omega arith)

pub returns-in_err-count-clause-none : goal.returns-in_err-count-clause-none
returns-in_err-count-clause-none c =
    let p = err_from_is_err_and c.from_residual-in_err-count.result
    c.from_residual-in_err-count.ensures.1 in
    let number = c.in_ok-number.ensures.number in
    rw (p.1, p.2) (none_map _ (NoWrite c.args.least c.args.bytes.now) c.in_err-count.field-0.0
    (no_write-count c.args.least c.args.bytes.now c.in_ok-number.number c.in_ok-number.counted.now
    number.0 number.1) c.in_err-count.ensures.none)

pub returns-in-Err-clause-none : goal.returns-in-Err-clause-none
returns-in-Err-clause-none c =
    let number = c.in_ok-number.ensures.number in
    let count = c.in_ok-count.ensures.number in
    none_map _ (NoWrite c.args.least c.args.bytes.now) c.in-Err.stop
    (no_write-changes c.args.least c.args.bytes.now c.in_ok-number.number
    c.in_ok-number.counted.now number.0 number.1 c.in_ok-count.count c.in_ok-count.rest.now
    count.0 count.1) c.in-Err.ensures.none

pub returns-in-Ok-clause-bytes : goal.returns-in-Ok-clause-bytes
returns-in-Ok-clause-bytes c =
    let number = c.in_ok-number.ensures.number in
    let count = c.in_ok-count.ensures.number in
    let changes = c.in-Ok.ensures.changes in
    write_read c.args.least c.args.bytes.now c.in_ok-number.number c.in_ok-number.counted.now
    number.0 number.1 c.in_ok-count.count c.in_ok-count.rest.now count.0 count.1
    c.in-Ok.changes.items c.in-Ok.behind.now changes.0 changes.2
