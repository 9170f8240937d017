-- The value that the program's operand stands for, if it isn't missing.
use Rattle.std.specs.Prelude.{Option, Some, None}
use Rattle.alt_value.specs.Stands.{tree_of}
use Rattle.alt_value.specs.Tree.{Tree}
use Rattle.alt_condeval.specs.declared.denoted.Denoted.{Denoted}
use Rattle.alt_condeval.specs.declared.denoted.Denoted.TheVariants.{Borrowed, Made, Missing}

-- the tree of the value that an operand stands for, borrowed from the item or made; none where the item lacks it
abbrev pub stands_for : Denoted → Option Tree
stands_for (Borrowed a) = Some (tree_of a.now)
stands_for (Made a) = Some (tree_of a)
stands_for Missing = None
