-- A field at the front.
use Rattle.std.proofs.Common.{arith}
use Rattle.alt_fields.specs.Field.{field}
use Rattle.alt_fields.proofs.Apart.{cut_front}
use Rattle.alt_writes.proofs.ReadLaws.{no_field}
use Rattle.alt_writes.proofs.read.take_field.Goals as goal

pub returns-in-Ok-clause-field : goal.returns-in-Ok-clause-field
returns-in-Ok-clause-field c = (
  omega (arith, c.in-Ok.ensures.ok.1, c.split_at.ensures.back_len),
  cut_front c.args.bytes.now
      (field c.in-Ok.content.now) c.split_at.result.1.now c.in-Ok.end c.in-Ok.ensures.ok.0
      (omega (arith, c.in-Ok.ensures.ok.1)) c.split_at.ensures.back,
)

pub returns-in-Err-clause-none : goal.returns-in-Err-clause-none
returns-in-Err-clause-none c = no_field c.args.bytes.now (omega (arith, c.in-Err.ensures.short.1))
