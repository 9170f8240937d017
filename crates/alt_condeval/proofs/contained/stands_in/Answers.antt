use Rattle.std.proofs.Common.{◌∙◌}
use Rattle.alt_condeval.proofs.Within.{told, told_by_length}
use Rattle.alt_condeval.proofs.contained.stands_in.Goals as goal

pub returns-then-needle-bytes : goal.returns-then-needle-bytes
returns-then-needle-bytes c = c.is_some.ensures ∙ told _ _ _ c.find.ensures

pub returns-else-needle-bytes : goal.returns-else-needle-bytes
returns-else-needle-bytes c =
    told_by_length c.args.needle.now c.args.bytes.now c.if-needle-bytes.false
