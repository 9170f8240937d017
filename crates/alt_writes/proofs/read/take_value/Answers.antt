-- A flag that isn't there.
use Rattle.std.proofs.lemmas.Result.{err_from_is_err_and}
use Rattle.alt_writes.specs.Reading.{NoColumnValue}
use Rattle.alt_writes.proofs.ReadLaws.{none_map, no_value-flag}
use Rattle.alt_writes.proofs.read.take_value.Goals as goal

pub returns-in_err-given-clause-none : goal.returns-in_err-given-clause-none
returns-in_err-given-clause-none c =
    let p = err_from_is_err_and c.from_residual.result
    c.from_residual.ensures.1 in
    rw (p.1, p.2) (none_map _ (NoColumnValue c.args.bytes.now) c.in_err-given.field-0.0
    (no_value-flag c.args.bytes.now) c.in_err-given.ensures.none)
