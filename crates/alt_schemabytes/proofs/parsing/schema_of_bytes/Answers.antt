-- What is read whole has these bytes, and what has these bytes is read whole.
use Rattle.std.proofs.Common.{arith}
use Rattle.alt_schemabytes.proofs.Stopped.{bad_at}
use Rattle.alt_schemabytes.proofs.Wholes.{small_of}
use Rattle.alt_schemabytes.proofs.WholeDescriptions.{described_whole, read_bare, read_again, one_spelling}
use Rattle.alt_schemabytes.proofs.parsing.schema_of_bytes.Goals as goal

pub returns-clause-description : goal.returns-clause-description
returns-clause-description c =
    described_whole c.read_whole.result c.args.bytes.now
    (small_of c.args.bytes.now (λ i. omega (arith, c.type_inv.bytes i)))
    c.read_whole.ensures.whole

pub returns-clause-bare : goal.returns-clause-bare
returns-clause-bare c =
    read_bare c.read_whole.result c.args.bytes.now
    (small_of c.args.bytes.now (λ i. omega (arith, c.type_inv.bytes i)))
    c.read_whole.ensures.whole

pub returns-clause-again : goal.returns-clause-again
returns-clause-again c = read_again c.read_whole.result c.args.bytes.now c.read_whole.ensures.whole
    c.read_whole.ensures.place

pub returns-clause-one_spelling : goal.returns-clause-one_spelling
returns-clause-one_spelling c = one_spelling

pub returns-clause-place : goal.returns-clause-place
returns-clause-place c = λ at e.
    bad_at c.args.bytes.now at
    (small_of c.args.bytes.now (λ i. omega (arith, c.type_inv.bytes i)))
    (c.read_whole.ensures.place at e)
