-- Values that are equal, and trees that are.
use Rattle.std.proofs.Common.{◌≡◌, sym, ap, ◌∙◌, ℕ, List}
use Rattle.std.specs.Prelude.{ℤ, nat_eq}
use Rattle.std.specs.Bool.{Decides}
use Rattle.std.specs.Ordering.{int_eq}
use Rattle.std.specs.Cmp.Lexicographic.{pointwise, pointwise_decides, bytes_decides}
use Rattle.std.proofs.lemmas.Bool.Decides.{Decides-int_eq}
use Rattle.alt_value.specs.Tree.{Tree, L_tree, M_tree, Pair, trees_of, fields_of, elements, pairs}
use Rattle.alt_value.proofs.Trees.{elements-trees_of, pairs-fields_of}

-- lists of texts are compared member by member, and so are lists of numbers
pub texts_decide : (xs ys : List (List ℕ)) → Decides (pointwise (pointwise nat_eq) xs ys) (xs ≡ ys)
texts_decide xs ys = pointwise_decides bytes_decides xs ys

-- and lists of numbers
pub numbers_decide : (xs ys : List ℤ) → Decides (pointwise int_eq xs ys) (xs ≡ ys)
numbers_decide xs ys = pointwise_decides Decides-int_eq xs ys

-- lists are equal where their trees are
pub same_list : (xs ys : List Tree) → L_tree (trees_of xs) ≡ L_tree (trees_of ys) → xs ≡ ys
same_list xs ys e =
    let f : trees_of xs ≡ trees_of ys = cc in
    sym (elements-trees_of xs) ∙ ap elements f ∙ elements-trees_of ys

-- and so are items
pub same_map : (xs ys : List Pair) → M_tree (fields_of xs) ≡ M_tree (fields_of ys) → xs ≡ ys
same_map xs ys e =
    let f : fields_of xs ≡ fields_of ys = cc in
    sym (pairs-fields_of xs) ∙ ap pairs f ∙ pairs-fields_of ys
