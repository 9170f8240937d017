use Rattle.alt_value.proofs.Trees.{elements-trees_of}
use Rattle.alt_condeval.proofs.contained.has.Goals as goal

pub returns-in-L : goal.returns-in-L
returns-in-L c = rw (c.in-L.is, elements-trees_of) c.has_element.ensures
