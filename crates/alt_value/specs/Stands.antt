-- The tree that a value stands for.
use Rattle.alt_value.specs.declared.attr.Attr.{Attr}
use Rattle.alt_value.specs.declared.attr.Attr.TheVariants.{S, N, B, Bool, Null, Ss, Ns, Bs, L, M}
use Rattle.alt_value.specs.declared.attr.Pair.{Pair as Entry}
use Rattle.alt_value.specs.Tree.{Tree, S_tree, N_tree, B_tree, BOOL_tree, NULL_tree, SS_tree, NS_tree, BS_tree, L_tree, M_tree, Pair, trees_of, fields_of}

-- kind by kind
abbrev pub tree_of : Attr → Tree
tree_of (S s) = S_tree s
tree_of (N z) = N_tree z
tree_of (B b) = B_tree b
tree_of (Bool b) = BOOL_tree b
tree_of Null = NULL_tree
tree_of (Ss ss) = SS_tree ss
tree_of (Ns zs) = NS_tree zs
tree_of (Bs bs) = BS_tree bs
tree_of (L ts) = L_tree (trees_of ts)
tree_of (M ps) = M_tree (fields_of ps)

-- an entry of an item, as a pair
abbrev pub pair_of : Entry → Pair
pair_of p = (p.name, tree_of p.value)
