-- A number that stands there is read, and what is behind it is left.
use Rattle.std.proofs.Common.{rules, arith}
use Rattle.alt_schemabytes.proofs.Fields.{u32_within, u32_part, u32_short}
use Rattle.alt_schemabytes.proofs.parts.take_u32.Goals as goal

pub split_at-requires : goal.split_at-requires
split_at-requires c =
    u32_within c.args.bytes.now c.in-Ok.number c.in-Ok.end c.in-Ok.ensures.ok.0
    c.in-Ok.ensures.ok.1

pub returns-in-Ok-clause-part : goal.returns-in-Ok-clause-part
returns-in-Ok-clause-part c =
    u32_part c.args.bytes.now c.in-Ok.number c.in-Ok.end c.split_at.result.1.now
    (search rules) c.in-Ok.ensures.ok.0 c.in-Ok.ensures.ok.1 c.split_at.ensures.back

pub returns-in-Err-clause-stop : goal.returns-in-Err-clause-stop
returns-in-Err-clause-stop c =
    u32_short c.args.bytes.now (omega (arith, c.in-Err.ensures.short.1))
