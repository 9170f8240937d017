-- Lists of trees and of pairs, within trees.
use Rattle.std.proofs.Common.{◌≡◌, refl, ap, List, [], ◌∷◌}
use Rattle.alt_value.specs.Tree.{Tree, Pair, trees_of, fields_of, elements, pairs, Trees, no_trees, tree_then, Fields, no_fields, field_then}

-- trees are a list of trees
pub trees_of-elements : (ts : Trees) → trees_of (elements ts) ≡ ts
trees_of-elements no_trees = refl
trees_of-elements (tree_then t ts) = ap (λ us. tree_then t us) (trees_of-elements ts)

-- fields are a list of pairs
pub fields_of-pairs : (fs : Fields) → fields_of (pairs fs) ≡ fs
fields_of-pairs no_fields = refl
fields_of-pairs (field_then name t fs) = ap (λ gs. field_then name t gs) (fields_of-pairs fs)

-- the elements of a list of trees are those trees
pub elements-trees_of : (ts : List Tree) → elements (trees_of ts) ≡ ts
elements-trees_of [] = refl
elements-trees_of (t ∷ ts) = ap (λ (us : List Tree). t ∷ us) (elements-trees_of ts)

-- the pairs of a list of pairs are those pairs
pub pairs-fields_of : (ps : List Pair) → pairs (fields_of ps) ≡ ps
pairs-fields_of [] = refl
pairs-fields_of (p ∷ ps) = ap (λ (qs : List Pair). p ∷ qs) (pairs-fields_of ps)
