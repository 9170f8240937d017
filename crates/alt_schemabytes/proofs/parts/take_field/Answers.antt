-- A field that stands there is read, and what is behind it is left.
use Rattle.std.proofs.Common.{rules, arith}
use Rattle.alt_schemabytes.proofs.Fields.{field_part, field_short}
use Rattle.alt_schemabytes.proofs.parts.take_field.Goals as goal

pub returns-in-Ok-clause-part : goal.returns-in-Ok-clause-part
returns-in-Ok-clause-part c =
    field_part c.args.bytes.now c.in-Ok.content.now c.in-Ok.end c.split_at.result.1.now
    (search rules) c.in-Ok.ensures.ok.0 c.in-Ok.ensures.ok.1 c.split_at.ensures.back

pub returns-in-Err-clause-stop : goal.returns-in-Err-clause-stop
returns-in-Err-clause-stop c =
    field_short c.args.bytes.now (omega (arith, c.in-Err.ensures.short.1))
