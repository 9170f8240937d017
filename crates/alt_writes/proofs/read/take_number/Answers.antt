-- Eight bytes at the front.
use Rattle.std.proofs.Common.{arith}
use Rattle.alt_fields.proofs.Apart.{number_within}
use Rattle.alt_writes.proofs.ReadLaws.{no_number}
use Rattle.alt_writes.proofs.read.take_number.Goals as goal

pub split_at-requires : goal.split_at-requires
split_at-requires c =
    number_within c.args.bytes.now c.in-Ok.number c.in-Ok.end c.in-Ok.ensures.ok.0
    c.in-Ok.ensures.ok.1

pub returns-in-Err-clause-none : goal.returns-in-Err-clause-none
returns-in-Err-clause-none c = no_number c.args.bytes.now (omega (arith, c.in-Err.ensures.short.1))
