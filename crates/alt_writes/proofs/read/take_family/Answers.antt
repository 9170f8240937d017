-- Four bytes at the front.
use Rattle.std.proofs.Common.{refl, arith}
use Rattle.std.specs.Int.{w32, to_be_bytes}
use Rattle.alt_fields.proofs.Numbers.{stands_within}
use Rattle.alt_writes.proofs.ReadLaws.{no_family}
use Rattle.alt_writes.proofs.read.take_family.Goals as goal

pub split_at-requires : goal.split_at-requires
split_at-requires c = omega (
  arith,
  stands_within c.args.bytes.now (to_be_bytes w32 c.in-Ok.number) 0 4 c.in-Ok.ensures.ok.0 refl
      (omega arith),
  c.in-Ok.ensures.ok.1,
)

pub returns-in-Err-clause-none : goal.returns-in-Err-clause-none
returns-in-Err-clause-none c = no_family c.args.bytes.now (omega (arith, c.in-Err.ensures.short.1))
