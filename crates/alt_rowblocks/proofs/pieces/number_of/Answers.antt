-- Eight bytes spell one number.
use Rattle.std.proofs.Common.{arith}
use Rattle.std.proofs.lemmas.Nat.{be_bytes_8}
use Rattle.alt_rowblocks.proofs.pieces.number_of.Goals as goal

pub returns-clause-number : goal.returns-clause-number
returns-clause-number c = be_bytes_8 c.args.bytes.now c.from_be_bytes.result c.requires
    (λ i. omega (arith, c.type_inv.bytes i)) c.from_be_bytes.ensures
