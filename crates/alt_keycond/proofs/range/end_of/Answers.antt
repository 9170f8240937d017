-- Bytes are below 256.
use Rattle.std.proofs.Common.{arith}
use Rattle.alt_keycond.proofs.Forms.{are_bytes}
use Rattle.alt_keycond.proofs.range.end_of.Goals as goal

pub returns-clause-bytes : goal.returns-clause-bytes
returns-clause-bytes c = are_bytes c.args.prefix.now (λ i. omega (arith, c.type_inv.prefix i))
