-- The part of an item that a path leads to (DynamoDB Developer Guide, "Specifying item attributes when using expressions").
use Rattle.std.specs.Prelude.{ℕ, List, [], ◌∷◌, Option, Some, None, option_and_then, slice_get}
use Rattle.alt_value.specs.Item.{at_name}
use Rattle.alt_value.specs.Tree.{Tree, L_tree, M_tree, elements, pairs}
use Rattle.alt_expr.specs.declared.path.PathPart.{PathPart}
use Rattle.alt_expr.specs.declared.path.PathPart.TheVariants.{Name, Index}

-- An item is a finite map from names to values.
abbrev pub View : Type 0
View = List ℕ → Option Tree

-- A step leads to what has its name in a map, or its index in a list; else to nothing.
abbrev pub step_into : PathPart → Tree → Option Tree
step_into (Name name) (M_tree fs) = at_name name (pairs fs)
step_into (Index i) (L_tree ts) = slice_get (elements ts) i
step_into _ _ = None

-- what the steps lead to, one after another
abbrev pub part : List PathPart → Tree → Option Tree
part [] t = Some t
part (s ∷ ss) t = option_and_then (part ss) (step_into s t)

-- A path leads from a name of the item on; what it doesn't lead to is missing.
abbrev pub located : View → List PathPart → Option Tree
located item (Name name ∷ ss) = option_and_then (part ss) (item name)
located item _ = None
