-- A list or a map with something in it is given.
use Rattle.std.proofs.Common.{◌≡◌, refl, sym, ap, ◌∙◌, ◌≢◌, false, cond, List, [], ◌∷◌, length, Option, Some}
use Rattle.alt_value.specs.Tree.{Tree, Pair, L_tree, M_tree, trees_of, fields_of, elements}
use Rattle.alt_expr.specs.declared.path.PathPart.{PathPart}
use Rattle.alt_expr.specs.Projected.{is_chosen_whole, chosen, chosen_elements, chosen_fields, projected, some_list, some_map}
use Rattle.alt_value.proofs.Trees.{fields_of-pairs, trees_of-elements}

-- a list with elements and a map with pairs are kept
pub some_list-is : (ts : List Tree) → (length ts ≢ 0)
    → Some (L_tree (trees_of ts)) ≡ some_list (trees_of ts)
some_list-is [] h = absurd (h refl)
some_list-is (t ∷ ts) h = refl

-- a map with something in it is given
pub some_map-is : (ps : List Pair) → (length ps ≢ 0)
    → Some (M_tree (fields_of ps)) ≡ some_map (fields_of ps)
some_map-is [] h = absurd (h refl)
some_map-is (p ∷ ps) h = refl

-- where no path ends, it is chosen part by part
pub chosen-list : (paths : List (List PathPart)) (ts : List Tree) (given : List Tree)
    (o : Option Tree) → is_chosen_whole paths ≡ false
    → o ≡ some_list (trees_of given) → given ≡ elements (chosen_elements paths 0 (trees_of ts))
    → o ≡ chosen paths (L_tree (trees_of ts))
chosen-list paths ts given o none is whole =
    is ∙ ap (λ (l : List Tree). some_list (trees_of l)) whole
    ∙ ap some_list (trees_of-elements (chosen_elements paths 0 (trees_of ts)))
    ∙ sym (ap (λ b. cond b (Some (L_tree (trees_of ts)))
    (some_list (chosen_elements paths 0 (trees_of ts)))) none)

-- the pairs that were chosen, as a map if there are any, are what paths choose of the map
pub chosen-map : (paths : List (List PathPart)) (ps : List Pair) (given : List Pair)
    (o : Option Tree) → is_chosen_whole paths ≡ false
    → o ≡ some_map (fields_of given) → given ≡ projected paths ps
    → o ≡ chosen paths (M_tree (fields_of ps))
chosen-map paths ps given o none is whole =
    is ∙ ap (λ (l : List Pair). some_map (fields_of l)) whole
    ∙ ap some_map (fields_of-pairs (chosen_fields paths (fields_of ps)))
    ∙ sym (ap (λ b. cond b (Some (M_tree (fields_of ps)))
    (some_map (chosen_fields paths (fields_of ps)))) none)
