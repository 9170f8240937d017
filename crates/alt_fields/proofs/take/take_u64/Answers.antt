use Rattle.std.proofs.Common.{refl, ap, ◌∙◌, ◌+◌, ◌<◌, ◌≤◌, length, arith}
use Rattle.std.specs.Int.{w64, to_be_bytes, from_be_bytes}
use Rattle.alt_fields.proofs.Numbers.{stands_8, stands_within}
use Rattle.alt_fields.proofs.take.take_u64.Goals as goal

pub returns-in_err-chunk-clause-again : goal.returns-in_err-chunk-clause-again
returns-in_err-chunk-clause-again c = λ v fits stands.
    let within : c.args.at + 8 ≤ length c.args.bytes.now =
    stands_within c.args.bytes.now (to_be_bytes w64 v) c.args.at 8 stands refl (omega arith) in
    let short : length c.args.bytes.now < c.args.at + 8 = c.in_err-chunk.ensures.short.1 in
    absurd (omega arith)

pub returns-clause-ok : goal.returns-clause-ok
returns-clause-ok c = (
  stands_8 c.args.bytes.now c.args.at c.from_be_bytes.result
      (λ i. omega (arith, c.type_inv.bytes i)) c.in_ok-chunk.ensures.ok.1
      (c.from_be_bytes.ensures ∙ ap (from_be_bytes w64) c.in_ok-chunk.ensures.ok.0),
  refl,
)
