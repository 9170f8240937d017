-- Values as plain data, in the ten kinds of DynamoDB (API Reference, "AttributeValue").
--
-- A number is the whole number of its units of 10^-167. A set is its members in value order, without repeats. A map, like an
-- item, is its pairs of a name and a value, with rising names. So two values are equal exactly where their trees are.
use Rattle.std.specs.Prelude.{ℕ, ℤ, Bool, List, [], ◌∷◌}

mutual
  -- a value of one of the ten kinds
  pub data Tree : Type 0 where
    S_tree : List ℕ → Tree
    N_tree : ℤ → Tree
    B_tree : List ℕ → Tree
    BOOL_tree : Bool → Tree
    NULL_tree : Tree
    SS_tree : List (List ℕ) → Tree
    NS_tree : List ℤ → Tree
    BS_tree : List (List ℕ) → Tree
    L_tree : Trees → Tree
    M_tree : Fields → Tree

  -- the elements of a list
  pub data Trees : Type 0 where
    no_trees : Trees
    tree_then : Tree → Trees → Trees

  -- the pairs of a map
  pub data Fields : Type 0 where
    no_fields : Fields
    field_then : List ℕ → Tree → Fields → Fields

-- a name and a value
abbrev pub Pair : Type 0
Pair = List ℕ × Tree

-- a list of trees as the elements of a list
abbrev pub trees_of : List Tree → Trees
trees_of [] = no_trees
trees_of (t ∷ ts) = tree_then t (trees_of ts)

-- a list of pairs as the pairs of a map
abbrev pub fields_of : List Pair → Fields
fields_of [] = no_fields
fields_of (p ∷ ps) = field_then p.0 p.1 (fields_of ps)

-- the elements of a list, as a list of trees
abbrev pub elements : Trees → List Tree
elements no_trees = []
elements (tree_then t ts) = t ∷ elements ts

-- the pairs of a map, as a list of pairs
abbrev pub pairs : Fields → List Pair
pairs no_fields = []
pairs (field_then name t fs) = (name, t) ∷ pairs fs
