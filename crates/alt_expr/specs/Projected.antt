-- What the paths of a projection choose of an item (DynamoDB Developer Guide, "Using projection expressions in DynamoDB").
use Rattle.std.specs.Prelude.{ℕ, suc, Bool, true, false, if◌then◌else◌, ◌==◌, List, [], ◌∷◌, ◌++◌, Option, Some, None}
use Rattle.std.specs.List.{list_any}
use Rattle.std.specs.Str.{bytes_eq}
use Rattle.alt_value.specs.Tree.{Tree, L_tree, M_tree, Trees, no_trees, tree_then, Fields, no_fields, field_then, Pair, fields_of, pairs}
use Rattle.alt_expr.specs.declared.path.PathPart.{PathPart}
use Rattle.alt_expr.specs.declared.path.PathPart.TheVariants.{Name, Index}

-- two steps lead to one name, or to one index
abbrev pub same_step : PathPart → PathPart → Bool
same_step (Name m) (Name n) = bytes_eq m n
same_step (Index i) (Index j) = i == j
same_step _ _ = false

-- what stands behind a step in a path that begins with it; nothing of another path
abbrev pub paths_behind : PathPart → List PathPart → List (List PathPart)
paths_behind s [] = []
paths_behind s (p ∷ ps) = if same_step s p then ps ∷ [] else []

-- the paths that go on from a step
abbrev pub under : PathPart → List (List PathPart) → List (List PathPart)
under s [] = []
under s (path ∷ paths) = paths_behind s path ++ under s paths

-- whether a path ends here
abbrev pub ends : List PathPart → Bool
ends [] = true
ends (p ∷ ps) = false

-- A value is chosen whole where a path ends at it.
abbrev pub is_chosen_whole : List (List PathPart) → Bool
is_chosen_whole paths = list_any ends paths

-- a list or a map is given only where a chosen part within it is there
abbrev pub some_list : Trees → Option Tree
some_list no_trees = None
some_list (tree_then t ts) = Some (L_tree (tree_then t ts))

-- the map of what was chosen; none where nothing was
abbrev pub some_map : Fields → Option Tree
some_map no_fields = None
some_map (field_then name t fs) = Some (M_tree (field_then name t fs))

-- an element that was chosen before the others, or the others alone
abbrev pub element_then : Option Tree → Trees → Trees
element_then None ts = ts
element_then (Some t) ts = tree_then t ts

-- a pair that was chosen before the others, or the others alone
abbrev pub pair_then : List ℕ → Option Tree → Fields → Fields
pair_then name None fs = fs
pair_then name (Some t) fs = field_then name t fs

-- What paths choose of a value: the whole of it, or the chosen parts of a list in rising index, or of a map.
abbrev mutual
  -- what the paths choose of a value: the whole where one ends, else the parts that they name
  pub chosen : List (List PathPart) → Tree → Option Tree
  chosen paths (L_tree ts) =
      if is_chosen_whole paths then Some (L_tree ts) else some_list (chosen_elements paths 0 ts)
  chosen paths (M_tree fs) =
      if is_chosen_whole paths then Some (M_tree fs) else some_map (chosen_fields paths fs)
  chosen paths t = if is_chosen_whole paths then Some t else None

  -- what the paths choose of the elements from an index on
  pub chosen_elements : List (List PathPart) → ℕ → Trees → Trees
  chosen_elements paths i no_trees = no_trees
  chosen_elements paths i (tree_then t ts) =
      element_then (chosen (under (Index i) paths) t) (chosen_elements paths (suc i) ts)

  -- what the paths choose of the fields of a map
  pub chosen_fields : List (List PathPart) → Fields → Fields
  chosen_fields paths no_fields = no_fields
  chosen_fields paths (field_then name t fs) =
      pair_then name (chosen (under (Name name) paths) t) (chosen_fields paths fs)

-- what paths choose of an item
abbrev pub projected : List (List PathPart) → List Pair → List Pair
projected paths item = pairs (chosen_fields paths (fields_of item))
