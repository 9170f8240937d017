use Rattle.std.proofs.Common.{ap, Some}
use Rattle.alt_value.proofs.Trees.{elements-trees_of, pairs-fields_of}
use Rattle.alt_condeval.proofs.denoted.count.Goals as goal

pub returns-in-L : goal.returns-in-L
returns-in-L c = rw (c.in-L.is, elements-trees_of) (ap Some c.len-in-L.ensures.count)

pub returns-in-M : goal.returns-in-M
returns-in-M c = rw (c.in-M.is, pairs-fields_of) (ap Some c.len-in-M.ensures.count)
