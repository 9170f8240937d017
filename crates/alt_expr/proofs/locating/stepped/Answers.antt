use Rattle.std.proofs.Common.{◌∙◌}
use Rattle.alt_value.proofs.Trees.{elements-trees_of, pairs-fields_of}
use Rattle.alt_expr.proofs.locating.stepped.Goals as goal

pub returns-in-M : goal.returns-in-M
returns-in-M c =
    let same = c.as_str.ensures.same ∙ c.get.ensures.same in
    record { part = rw (c.in-Name.is, c.in-M.is, pairs-fields_of) (rw same at c.get-in-M.ensures.value) }

pub returns-in-L : goal.returns-in-L
returns-in-L c =
    record { part = rw (c.in-Index.is, c.in-L.is, elements-trees_of) c.get-in-L.ensures.element }
