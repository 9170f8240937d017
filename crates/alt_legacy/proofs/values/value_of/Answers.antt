-- A value that was read is the one of its tree.
use Rattle.std.proofs.Common.{ap, ◌∙◌, Some}
use Rattle.alt_expr.proofs.Copied.{attr_of-tree_of}
use Rattle.alt_value.specs.declared.attr.Attr.{Attr}
use Rattle.alt_legacy.specs.Values.{sound}
use Rattle.alt_legacy.proofs.values.value_of.Goals as goal

pub returns-in-Ok-clause-ok : goal.returns-in-Ok-clause-ok
returns-in-Ok-clause-ok c = ap sound c.in-Ok.ensures.value
    ∙ ap (λ (a : Attr). Some a) (attr_of-tree_of c.in-Ok.value)
