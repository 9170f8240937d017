-- A key and a row, or one of them missing.
use Rattle.std.proofs.Common.{◌<◌, ◌^◌, ◌++◌, ◌∙◌, Err, ap, sym, arith, length}
use Rattle.alt_cells.specs.Format.{bytes_of_row}
use Rattle.alt_rowblocks.proofs.DecodeLaws.{entry_whole, no_row_entry, no_field_behind, no_field_at}
use Rattle.alt_rowblocks.proofs.decode.take_entry.Goals as goal

pub returns-in_ok-new-in-Ok-clause-some : goal.returns-in_ok-new-in-Ok-clause-some
returns-in_ok-new-in-Ok-clause-some c =
    let key = c.in-Some.ensures.some in
    let row = c.in-Some-take_field.ensures.some in
    let read = c.in-Ok.ensures.row in
    let copied = c.in_ok-new-in-Ok.ensures.copied in
    let small : length c.in_ok-new-in-Ok.field-0 < 2 ^ 64 =
    omega (arith, key.0, ap length copied) in
    let fits : length (bytes_of_row c.in-Ok.row) < 2 ^ 64 =
    omega (arith, row.0, ap length read.1) in (
      (small, read.0, fits),
      entry_whole c.in_ok-new-in-Ok.field-0 c.in-Some-take_field.row.now c.in-Some.behind.now
          c.args.bytes.now c.in-Some-take_field.rest.now c.in-Ok.row
          (key.1 ∙ ap (λ k. Rattle.alt_fields.specs.Field.field k ++ c.in-Some.behind.now)
          (sym copied)) row.1 read.1,
    )

pub returns-in-Err-Bad-clause-none : goal.returns-in-Err-Bad-clause-none
returns-in-Err-Bad-clause-none c =
    let key = c.in-Some.ensures.some in
    let row = c.in-Some-take_field.ensures.some in
    no_row_entry c.in-Some.key.now c.in-Some-take_field.row.now c.in-Some.behind.now
    c.args.bytes.now c.in-Some-take_field.rest.now key.0 row.0 key.1 row.1
    (c.in-Err-Bad.ensures.place c.in-Err-Bad.field-0-0 (ap (λ e. Err e) c.in-Err-Bad.field-0-is)).1

pub returns-in-None-take_field-clause-none : goal.returns-in-None-take_field-clause-none
returns-in-None-take_field-clause-none c =
    no_field_behind c.in-Some.key.now c.in-Some.behind.now c.args.bytes.now c.in-Some.ensures.some.0
    c.in-Some.ensures.some.1 c.in-None-take_field.ensures.none

pub returns-in-None-clause-none : goal.returns-in-None-clause-none
returns-in-None-clause-none c = no_field_at c.args.bytes.now c.in-None.ensures.none
