use Rattle.std.proofs.Common.{arith}
use Rattle.alt_fields.specs.Field.{field}
use Rattle.alt_fields.proofs.Apart.{cut_front, field_whole}
use Rattle.alt_rowblocks.proofs.decode.take_field.Goals as goal

pub returns-in-Ok-clause-some : goal.returns-in-Ok-clause-some
returns-in-Ok-clause-some c = (
  omega (arith, c.in-Ok.ensures.ok.1, c.split_at.ensures.back_len),
  cut_front c.args.bytes.now
      (field c.in-Ok.content.now) c.split_at.result.1.now c.in-Ok.end c.in-Ok.ensures.ok.0
      (omega (arith, c.in-Ok.ensures.ok.1)) c.split_at.ensures.back,
)

pub returns-in-Err-clause-none : goal.returns-in-Err-clause-none
returns-in-Err-clause-none c =
    λ s x short is. field_whole c.args.bytes.now s x short is
    (omega (arith, c.in-Err.ensures.short.1))
