use Rattle.std.proofs.Common.{◌∙◌, sym}
use Rattle.alt_merge.proofs.Least.{tied_held}
use Rattle.alt_merge.proofs.head.take_tied.Goals as goal

pub returns-in-Held-clause-some : goal.returns-in-Held-clause-some
returns-in-Held-clause-some c = (
  tied_held c.args.key.now c.in-Held.field-0 c.in-Held.row
      c.args.head.now (sym c.is_tied.ensures ∙ c.if-not-is_tied.false)
      (sym c.in-Held.ensures.value),
  c.replace.ensures.after,
)
