-- How the logic stores a tree: as a tree of numbers that gives it back.
use Rattle.std.specs.Prelude.{ℕ, zero, suc, ◌≡◌, refl, ℤ, pos, negsuc, Bool, true, false, List, [], ◌∷◌}
use Rattle.std.specs.Coded.{Coded, code_by, coded_ℕ, coded_list, coded×}
use Rattle.std.proofs.Common.{ap}
use base.Stored.{Gv, gnil, gnum, gcons}
use denote.Struct.Codes.{itself}
use Rattle.alt_value.specs.Tree.{Tree, S_tree, N_tree, B_tree, BOOL_tree, NULL_tree, SS_tree, NS_tree, BS_tree, L_tree, M_tree, Trees, no_trees, tree_then, Fields, no_fields, field_then, Pair}

-- the number of a leaf
abbrev pub leaf_number : Gv → ℕ
leaf_number gnil = 0
leaf_number (gnum n) = n
leaf_number (gcons a b) = 0

-- a list of numbers, a pair for each
abbrev pub code_bytes : List ℕ → Gv
code_bytes [] = gnil
code_bytes (n ∷ ns) = gcons (gnum n) (code_bytes ns)

-- the list of numbers that was coded so
abbrev pub decoded_bytes : Gv → List ℕ
decoded_bytes gnil = []
decoded_bytes (gnum n) = []
decoded_bytes (gcons a b) = leaf_number a ∷ decoded_bytes b

-- its code gives a list of numbers back
bytes_in-code_bytes : (s : List ℕ) → decoded_bytes (code_bytes s) ≡ s
bytes_in-code_bytes [] = refl
bytes_in-code_bytes (n ∷ ns) = ap (λ (t : List ℕ). n ∷ t) (bytes_in-code_bytes ns)

-- a list of lists of numbers
abbrev pub code_texts : List (List ℕ) → Gv
code_texts [] = gnil
code_texts (s ∷ ss) = gcons (code_bytes s) (code_texts ss)

-- the lists that were coded so
abbrev pub texts_in : Gv → List (List ℕ)
texts_in gnil = []
texts_in (gnum n) = []
texts_in (gcons a b) = decoded_bytes a ∷ texts_in b

-- its code gives a list of lists back
texts_in-code_texts : (ss : List (List ℕ)) → texts_in (code_texts ss) ≡ ss
texts_in-code_texts [] = refl
texts_in-code_texts (s ∷ ss) = λ i. bytes_in-code_bytes s i ∷ texts_in-code_texts ss i

-- a whole number: its sign, and how far it is from 0 or from -1
abbrev pub code_whole : ℤ → Gv
code_whole (pos n) = gcons gnil (gnum n)
code_whole (negsuc n) = gcons (gnum 1) (gnum n)

-- a whole number by its sign
abbrev pub signed_by : Gv → ℕ → ℤ
signed_by gnil n = pos n
signed_by (gnum k) n = negsuc n
signed_by (gcons a b) n = negsuc n

-- the whole number that was coded so
abbrev pub whole_in : Gv → ℤ
whole_in gnil = pos 0
whole_in (gnum n) = pos 0
whole_in (gcons a b) = signed_by a (leaf_number b)

-- its code gives a whole number back
whole_in-code_whole : (z : ℤ) → whole_in (code_whole z) ≡ z
whole_in-code_whole (pos n) = refl
whole_in-code_whole (negsuc n) = refl

-- a list of whole numbers
abbrev pub code_wholes : List ℤ → Gv
code_wholes [] = gnil
code_wholes (z ∷ zs) = gcons (code_whole z) (code_wholes zs)

-- the whole numbers that were coded so
abbrev pub wholes_in : Gv → List ℤ
wholes_in gnil = []
wholes_in (gnum n) = []
wholes_in (gcons a b) = whole_in a ∷ wholes_in b

-- its code gives a list of whole numbers back
wholes_in-code_wholes : (zs : List ℤ) → wholes_in (code_wholes zs) ≡ zs
wholes_in-code_wholes [] = refl
wholes_in-code_wholes (z ∷ zs) = λ i. whole_in-code_whole z i ∷ wholes_in-code_wholes zs i

-- a truth value
abbrev pub code_truth : Bool → Gv
code_truth false = gnil
code_truth true = gnum 1

-- the truth value that was coded so
abbrev pub coded_truth : Gv → Bool
coded_truth gnil = false
coded_truth (gnum n) = true
coded_truth (gcons a b) = true

-- its code gives a truth value back
truth_in-code_truth : (b : Bool) → coded_truth (code_truth b) ≡ b
truth_in-code_truth true = refl
truth_in-code_truth false = refl

-- a tree: the number of its kind, and its parts
abbrev mutual
  pub code_tree : Tree → Gv
  code_tree (S_tree s) = gcons (gnum 0) (code_bytes s)
  code_tree (N_tree z) = gcons (gnum 1) (code_whole z)
  code_tree (B_tree b) = gcons (gnum 2) (code_bytes b)
  code_tree (BOOL_tree b) = gcons (gnum 3) (code_truth b)
  code_tree NULL_tree = gcons (gnum 4) gnil
  code_tree (SS_tree ss) = gcons (gnum 5) (code_texts ss)
  code_tree (NS_tree zs) = gcons (gnum 6) (code_wholes zs)
  code_tree (BS_tree bs) = gcons (gnum 7) (code_texts bs)
  code_tree (L_tree ts) = gcons (gnum 8) (code_trees ts)
  code_tree (M_tree fs) = gcons (gnum 9) (code_fields fs)

  -- the elements of a list, a pair for each
  code_trees : Trees → Gv
  code_trees no_trees = gnil
  code_trees (tree_then t ts) = gcons (code_tree t) (code_trees ts)

  -- the pairs of a map: each its name, its value and the rest
  code_fields : Fields → Gv
  code_fields no_fields = gnil
  code_fields (field_then name t fs) = gcons (code_bytes name)
      (gcons (code_tree t) (code_fields fs))

-- the tree of that kind, by its number
abbrev pub tree_of_kind : ℕ → Gv → Trees → Fields → Tree
tree_of_kind zero g ts fs = S_tree (decoded_bytes g)
tree_of_kind (suc zero) g ts fs = N_tree (whole_in g)
tree_of_kind (suc (suc zero)) g ts fs = B_tree (decoded_bytes g)
tree_of_kind (suc (suc (suc zero))) g ts fs = BOOL_tree (coded_truth g)
tree_of_kind (suc (suc (suc (suc zero)))) g ts fs = NULL_tree
tree_of_kind (suc (suc (suc (suc (suc zero))))) g ts fs = SS_tree (texts_in g)
tree_of_kind (suc (suc (suc (suc (suc (suc zero)))))) g ts fs = NS_tree (wholes_in g)
tree_of_kind (suc (suc (suc (suc (suc (suc (suc zero))))))) g ts fs = BS_tree (texts_in g)
tree_of_kind (suc (suc (suc (suc (suc (suc (suc (suc zero)))))))) g ts fs = L_tree ts
tree_of_kind (suc (suc (suc (suc (suc (suc (suc (suc (suc n))))))))) g ts fs = M_tree fs

-- the tree that was coded so
abbrev mutual
  pub tree_in : Gv → Tree
  tree_in gnil = NULL_tree
  tree_in (gnum n) = NULL_tree
  tree_in (gcons a b) = tree_of_kind (leaf_number a) b (trees_in b) (fields_in b)

  -- the elements that were coded so
  trees_in : Gv → Trees
  trees_in gnil = no_trees
  trees_in (gnum n) = no_trees
  trees_in (gcons a b) = tree_then (tree_in a) (trees_in b)

  -- the pairs that were coded so
  fields_in : Gv → Fields
  fields_in gnil = no_fields
  fields_in (gnum n) = no_fields
  fields_in (gcons a b) = fields_behind (decoded_bytes a) b

  -- a pair of that name, and the pairs behind it
  fields_behind : List ℕ → Gv → Fields
  fields_behind name gnil = no_fields
  fields_behind name (gnum n) = no_fields
  fields_behind name (gcons a b) = field_then name (tree_in a) (fields_in b)

mutual
  -- its code gives a tree back
  pub tree_in-code_tree : (t : Tree) → tree_in (code_tree t) ≡ t
  tree_in-code_tree (S_tree s) = ap S_tree (bytes_in-code_bytes s)
  tree_in-code_tree (N_tree z) = ap N_tree (whole_in-code_whole z)
  tree_in-code_tree (B_tree b) = ap B_tree (bytes_in-code_bytes b)
  tree_in-code_tree (BOOL_tree b) = ap BOOL_tree (truth_in-code_truth b)
  tree_in-code_tree NULL_tree = refl
  tree_in-code_tree (SS_tree ss) = ap SS_tree (texts_in-code_texts ss)
  tree_in-code_tree (NS_tree zs) = ap NS_tree (wholes_in-code_wholes zs)
  tree_in-code_tree (BS_tree bs) = ap BS_tree (texts_in-code_texts bs)
  tree_in-code_tree (L_tree ts) = ap L_tree (trees_in-code_trees ts)
  tree_in-code_tree (M_tree fs) = ap M_tree (fields_in-code_fields fs)

  -- the same of the elements of a list
  trees_in-code_trees : (ts : Trees) → trees_in (code_trees ts) ≡ ts
  trees_in-code_trees no_trees = refl
  trees_in-code_trees (tree_then t ts) = λ i. tree_then (tree_in-code_tree t i)
      (trees_in-code_trees ts i)

  -- the same of the pairs of a map
  fields_in-code_fields : (fs : Fields) → fields_in (code_fields fs) ≡ fs
  fields_in-code_fields no_fields = refl
  fields_in-code_fields (field_then name t fs) =
      λ i. field_then (bytes_in-code_bytes name i) (tree_in-code_tree t i)
      (fields_in-code_fields fs i)

-- trees have a code
abbrev pub coded_tree : Coded Tree
coded_tree = code_by Gv itself code_tree tree_in tree_in-code_tree

-- and so do pairs
abbrev pub coded_pair : Coded Pair
coded_pair = coded× (coded_list coded_ℕ) coded_tree
