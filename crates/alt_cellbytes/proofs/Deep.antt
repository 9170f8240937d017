-- What stands in a list or an item is no deeper than it.
use Rattle.std.proofs.Common.{◌≡◌, ℕ, suc, ◌≤◌, List, [], ◌∷◌, ◌++◌, arith, ap}
use Rattle.std.specs.List.{AllByRecursion}
use Rattle.alt_value.specs.Size.{depth, elements_depth, fields_depth}
use Rattle.alt_value.specs.Tree.{Tree, Pair, trees_of, fields_of, L_tree, M_tree}

-- an element behind others is no deeper than its list
within_list : (ts : List Tree) (u : Tree) (us : List Tree)
    → depth u ≤ elements_depth (trees_of (ts ++ u ∷ us))
within_list [] u us = omega arith
within_list (t ∷ ts) u us = omega (arith, within_list ts u us)

-- nor an entry than its map
within_map : (ps : List Pair) (q : Pair) (qs : List Pair)
    → depth q.1 ≤ fields_depth (fields_of (ps ++ q ∷ qs))
within_map [] q qs = omega arith
within_map (p ∷ ps) q qs = omega (arith, within_map ps q qs)

-- what stands in a list or a map is less deep
pub element_below : (t : Tree) (ks ts : List Tree) (u : Tree) (us : List Tree) (n : ℕ)
    → t ≡ L_tree (trees_of ks)
    → ks ≡ ts ++ u ∷ us → depth t ≤ suc n → depth u ≤ n
element_below t ks ts u us n is parts d =
    omega (
      arith,
      d,
      ap depth is,
      ap (λ (l : List Tree). elements_depth (trees_of l)) parts,
      within_list ts u us,
    )

-- and so is what stands in a map
pub entry_below : (t : Tree) (ks ps : List Pair) (q : Pair) (qs : List Pair) (n : ℕ)
    → t ≡ M_tree (fields_of ks)
    → ks ≡ ps ++ q ∷ qs → depth t ≤ suc n → depth q.1 ≤ n
entry_below t ks ps q qs n is parts d =
    omega (
      arith,
      d,
      ap depth is,
      ap (λ (l : List Pair). fields_depth (fields_of l)) parts,
      within_map ps q qs,
    )

-- a list of no deeper elements, and a map of no deeper values
pub elements_within : (n : ℕ) (ts : List Tree) → AllByRecursion (λ t. depth t ≤ n) ts
    → elements_depth (trees_of ts) ≤ n
elements_within n [] h = omega arith
elements_within n (t ∷ ts) h = omega (arith, h.0, elements_within n ts h.1)

-- and a map of no deeper values
pub fields_within : (n : ℕ) (ps : List Pair) → AllByRecursion (λ p. depth p.1 ≤ n) ps
    → fields_depth (fields_of ps) ≤ n
fields_within n [] h = omega arith
fields_within n (p ∷ ps) h = omega (arith, h.0, fields_within n ps h.1)
