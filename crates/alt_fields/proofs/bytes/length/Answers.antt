-- A slice of bytes holds bytes.
use Rattle.std.proofs.Common.{arith}
use Rattle.alt_fields.proofs.Slices.{all_bytes}
use Rattle.alt_fields.proofs.bytes.length.Goals as goal

pub returns-clause-bytes : goal.returns-clause-bytes
returns-clause-bytes c = (
  all_bytes c.args.bytes.now (λ i. omega (arith, c.type_inv.bytes i)),
  omega arith,
)
