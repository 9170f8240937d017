-- The item of the row is the one whose place what is read of the row tells.
use Rattle.std.proofs.Common.{sym, ap, ◌∙◌}
use Rattle.std.proofs.lemmas.Bool.{false≢true}
use Rattle.alt_layout.specs.Layout.{shown}
use Rattle.alt_opening.proofs.IndexOwn.{own_is, unplaced, unshown}
use Rattle.alt_opening.proofs.DeviceFaults.{device_walk}
use Rattle.alt_opening.proofs.index_scan.is_own.Goals as goal

pub returns-in-Ok-None-clause-own : goal.returns-in-Ok-None-clause-own
returns-in-Ok-None-clause-own g c tells l i reads at made read = (
  λ no. absurd (false≢true no),
  λ has. absurd (unplaced l c.args.schema.now c.args.number i made at c.args.key.now c.args.row.now
      c.in-Ok-None.field-0 (λ kept is. c.in-Ok-None.ensures.place i kept at is)
      c.in-Ok-None.field-0-is has),
)

pub returns-in-Ok-None-row-clause-own : goal.returns-in-Ok-None-row-clause-own
returns-in-Ok-None-row-clause-own g c tells l i reads at made read = (
  λ no. absurd (false≢true no),
  λ has. absurd (unshown l c.args.schema.now c.args.number i made at c.args.key.now c.args.row.now
      c.in-Ok-Some.field-0 (λ kept is. c.in-Ok-Some.ensures.place i kept at is)
      c.in-Ok-Some.place c.in-Ok-Some.field-0-is
      (ap (shown l c.args.schema.now.family) (sym c.as_slice.ensures.same)
      ∙ sym (c.in-Ok-None-row.ensures.row tells l reads) ∙ c.in-Ok-None-row.field-0-is) has),
)

pub returns-in-Ok-clause-own : goal.returns-in-Ok-clause-own
returns-in-Ok-clause-own g c tells l i reads at made read =
    own_is l c.args.schema.now c.args.number i made at c.args.key.now c.args.row.now
    c.in-Ok-Some.field-0 (λ kept is. c.in-Ok-Some.ensures.place i kept at is) read
    c.in-Ok-Some.place c.in-Ok-Some.field-0-is c.in-Ok-Some-row.shown
    (ap (shown l c.args.schema.now.family) (sym c.as_slice.ensures.same)
    ∙ sym (c.in-Ok-Some-row.ensures.row tells l reads) ∙ c.in-Ok-Some-row.field-0-is)
    c.in-Ok.own (λ item is_read of_item. c.in-Ok.ensures.own i item at is_read of_item)

pub returns-in-Err-row-clause-fault : goal.returns-in-Err-row-clause-fault
returns-in-Err-row-clause-fault g c tells l reads =
    device_walk c.in-Err-row.fault c.from.result c.from.ensures
    (c.in-Err-row.ensures.undamaged tells l reads)
