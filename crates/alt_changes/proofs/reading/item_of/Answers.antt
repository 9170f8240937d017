-- Bytes that begin a map are an item's, or bad where they are no value's or nest too deep.
use Rattle.std.proofs.Common.{◌≡◌, true, Err, ap}
use Rattle.alt_base.proofs.Options.{told_error}
use Rattle.alt_fields.specs.declared.bytes.BytesFault.TheVariants.{Bad}
use Rattle.alt_changes.specs.NoChange.{is_map}
use Rattle.alt_changes.proofs.Found.{no_item}
use Rattle.alt_changes.proofs.reading.item_of.Goals as goal

pub returns-in_err-item-clause-bad : goal.returns-in_err-item-clause-bad
returns-in_err-item-clause-bad c at bad =
    let is = told_error c.from_residual.result c.in_err-item.field-0.0 (Bad at)
    c.from_residual.ensures bad in
    let begins : is_map c.args.bytes.now ≡ true = cc (c.is_map.ensures, c.if-not-is_map.false) in
    no_item c.args.bytes.now at begins (c.in_err-item.ensures.place at (ap Err is))
    (c.in_err-item.ensures.none at (ap Err is))
