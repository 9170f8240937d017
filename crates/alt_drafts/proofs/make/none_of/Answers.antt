use Rattle.std.proofs.Common.{length, sym, ◌∙◌}
use Rattle.alt_base.proofs.Numbers.{told_above_zero}
use Rattle.alt_drafts.proofs.Fresh.{first_of_names}
use Rattle.alt_drafts.proofs.make.none_of.Goals as goal

pub returns-clause-first : goal.returns-clause-first
returns-clause-first c file names =
    first_of_names c.args.list.now file names
    (told_above_zero (length c.args.list.now) (sym c.is_empty.ensures ∙ c.if-is_empty.false))
