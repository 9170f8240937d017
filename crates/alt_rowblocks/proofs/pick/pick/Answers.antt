-- The row of the bytes that were found.
use Rattle.std.proofs.Common.{Err, Some, None, ap}
use Rattle.alt_rowblocks.proofs.PickLaws.{picked_is, picked_none, no_pieces_no_rows, no_row_at_key}
use Rattle.alt_rowblocks.proofs.pick.pick.Goals as goal

pub returns-in-Ok-clause-row : goal.returns-in-Ok-clause-row
returns-in-Ok-clause-row c = λ rows are is.
    let picks = rw c.in-Some-Some.field-0-is at c.in-Some-Some.ensures.some in
    picked_is c.args.bytes.now c.args.key.now c.in-Some-Some.row.now rows picks are is c.in-Ok.row
    c.in-Ok.ensures.taken

pub returns-in-Err-Bad-clause-none : goal.returns-in-Err-Bad-clause-none
returns-in-Err-Bad-clause-none c =
    let picks = rw c.in-Some-Some.field-0-is at c.in-Some-Some.ensures.some in
    no_row_at_key c.args.bytes.now c.args.key.now c.in-Some-Some.row.now picks
    (c.in-Err-Bad.ensures.place c.in-Err-Bad.field-0-0 (ap (λ e. Err e) c.in-Err-Bad.field-0-is)).1

pub returns-in-Some-None-clause-row : goal.returns-in-Some-None-clause-row
returns-in-Some-None-clause-row c = λ rows are is.
    let picks = rw c.in-Some-None.field-0-is at c.in-Some-None.ensures.some in
    picked_none c.args.bytes.now c.args.key.now rows picks are is

pub returns-in-None-clause-none : goal.returns-in-None-clause-none
returns-in-None-clause-none c = no_pieces_no_rows c.args.bytes.now c.in-None.ensures.none

pub returns-in-Ok-clause-found : goal.returns-in-Ok-clause-found
returns-in-Ok-clause-found c = record {
  found = Some c.in-Some-Some.row.now;
  picks = rw c.in-Some-Some.field-0-is at c.in-Some-Some.ensures.some;
  row_is = c.in-Ok.ensures.row;
}

pub returns-in-Some-None-clause-found : goal.returns-in-Some-None-clause-found
returns-in-Some-None-clause-found c = record {
  found = None;
  picks = rw c.in-Some-None.field-0-is at c.in-Some-None.ensures.some;
  row_is = tt;
}
