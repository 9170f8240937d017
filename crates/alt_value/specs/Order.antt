-- The order of two values of kind S, N or B (DynamoDB Developer Guide, "Comparison operator and function reference").
use Rattle.std.specs.Prelude.{Option, Some, None}
use Rattle.std.specs.declared.cmp.Ordering.{Ordering}
use Rattle.std.specs.Ordering.{int_cmp}
use Rattle.alt_value.specs.Members.{text_order}
use Rattle.alt_value.specs.Tree.{Tree, S_tree, N_tree, B_tree}

-- two texts and two binaries by their bytes, two numbers by value; no others
abbrev pub tree_order : Tree → Tree → Option Ordering
tree_order (S_tree s) (S_tree t) = Some (text_order s t)
tree_order (N_tree y) (N_tree z) = Some (int_cmp y z)
tree_order (B_tree s) (B_tree t) = Some (text_order s t)
tree_order _ _ = None
