-- A key and a row's bytes, or one of them missing.
use Rattle.alt_rowblocks.proofs.PickLaws.{no_row_field}
use Rattle.alt_rowblocks.proofs.pick.take_piece.Goals as goal

pub returns-in-None-take_field-clause-none : goal.returns-in-None-take_field-clause-none
returns-in-None-take_field-clause-none c =
    no_row_field c.args.bytes.now c.in-Some.key.now c.in-Some.behind.now c.in-Some.ensures.some.0
    c.in-Some.ensures.some.1 c.in-None-take_field.ensures.none
