-- The parts of a change, one behind another.
use Rattle.std.proofs.Common.{refl, sym, subst, arith}
use Rattle.std.proofs.lemmas.Result.{err_from_is_err_and}
use Rattle.alt_fields.specs.Bytes.{IsShort}
use Rattle.alt_writes.specs.Reading.{NoChange}
use Rattle.alt_writes.proofs.ReadLaws.{none_map, no_change-family, no_change-key, no_change-flag, no_change-count, no_change-cells, change_read}
use Rattle.alt_writes.proofs.read.take_change.Goals as goal

pub returns-in_err-family-clause-none : goal.returns-in_err-family-clause-none
returns-in_err-family-clause-none c =
    let p = err_from_is_err_and c.from_residual.result
    c.from_residual.ensures.1 in
    rw (p.1, p.2) (none_map _ (NoChange c.args.bytes.now) c.in_err-family.field-0.0
    (no_change-family c.args.bytes.now) c.in_err-family.ensures.none)

pub returns-in_err-key-clause-none : goal.returns-in_err-key-clause-none
returns-in_err-key-clause-none c =
    let p = err_from_is_err_and c.from_residual-in_err-key.result
    c.from_residual-in_err-key.ensures.1 in
    let family = c.in_ok-family.ensures.family in
    rw (p.1, p.2) (none_map _ (NoChange c.args.bytes.now) c.in_err-key.field-0.0
    (no_change-key c.args.bytes.now c.in_ok-family.family c.in_ok-family.keyed.now family.0
    family.1) c.in_err-key.ensures.none)

pub returns-in_err-clear-clause-none : goal.returns-in_err-clear-clause-none
returns-in_err-clear-clause-none c =
    let p = err_from_is_err_and c.from_residual-in_err-clear.result
    c.from_residual-in_err-clear.ensures.1 in
    let family = c.in_ok-family.ensures.family in
    let key = c.in_ok-key.ensures.field in
    rw (p.1, p.2) (none_map _ (NoChange c.args.bytes.now) c.in_err-clear.field-0.0
    (no_change-flag c.args.bytes.now c.in_ok-family.family c.in_ok-family.keyed.now family.0
    family.1 c.in_ok-key.key.now c.in_ok-key.flagged.now key.0 key.1) c.in_err-clear.ensures.none)

pub returns-in_err-count-clause-none : goal.returns-in_err-count-clause-none
returns-in_err-count-clause-none c =
    let p = err_from_is_err_and c.from_residual-in_err-count.result
    c.from_residual-in_err-count.ensures.1 in
    let family = c.in_ok-family.ensures.family in
    let key = c.in_ok-key.ensures.field in
    rw (p.1, p.2) (none_map _ (NoChange c.args.bytes.now) c.in_err-count.field-0.0
    (no_change-count c.args.bytes.now c.in_ok-family.family c.in_ok-family.keyed.now family.0
    family.1 c.in_ok-key.key.now c.in_ok-key.flagged.now key.0 key.1 c.in_ok-clear.clear
    c.in_ok-clear.counted.now c.in_ok-clear.ensures.flag) c.in_err-count.ensures.none)

pub returns-in-Err-clause-none : goal.returns-in-Err-clause-none
returns-in-Err-clause-none c =
    let family = c.in_ok-family.ensures.family in
    let key = c.in_ok-key.ensures.field in
    let count = c.in_ok-count.ensures.number in
    none_map _ (NoChange c.args.bytes.now) c.in-Err.stop
    (no_change-cells c.args.bytes.now c.in_ok-family.family c.in_ok-family.keyed.now family.0
    family.1 c.in_ok-key.key.now c.in_ok-key.flagged.now key.0 key.1 c.in_ok-clear.clear
    c.in_ok-clear.counted.now c.in_ok-clear.ensures.flag c.in_ok-count.count
    c.in_ok-count.listed.now count.0 count.1) c.in-Err.ensures.none

pub returns-in_ok-new-in-Ok-clause-change : goal.returns-in_ok-new-in-Ok-clause-change
returns-in_ok-new-in-Ok-clause-change c =
    let family = c.in_ok-family.ensures.family in
    let key = c.in_ok-key.ensures.field in
    let count = c.in_ok-count.ensures.number in
    let cells = c.in-Ok.ensures.cells in
    let copied = c.in_ok-new-in-Ok.ensures.copied in (
      record {
        family = family.0;
        key = subst IsShort (sym copied) key.0;
        count = omega (arith, cells.0, count.0);
        cells = cells.1;
      },
      change_read c.args.bytes.now c.in_ok-family.family c.in_ok-family.keyed.now family.0
          family.1 c.in_ok-key.key.now c.in_ok-key.flagged.now key.0 key.1 c.in_ok-clear.clear
          c.in_ok-clear.counted.now c.in_ok-clear.ensures.flag c.in_ok-count.count
          c.in_ok-count.listed.now count.0 count.1 _ c.in-Ok.rest.now refl copied refl cells.0
          cells.2,
    )
