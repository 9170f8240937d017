-- Lists one behind another.
use Rattle.std.proofs.Common.{◌≡◌, refl, sym, ap, ◌∙◌, List, [], ◌∷◌, ◌++◌, append_assoc, append-nil}
use Rattle.std.specs.Prelude.{Ok}
use denote.Ref.{Bor}
use Rattle.alt_value.specs.Stands.{tree_of}
use Rattle.alt_value.specs.declared.attr.Attr.{Attr}
use Rattle.alt_value.specs.Tree.{Tree, L_tree, trees_of, elements}
use Rattle.alt_value.proofs.Trees.{elements-trees_of}
use Rattle.alt_expr.specs.Updated.{appended_list}
use Rattle.alt_updeval.specs.Shown.{elements_of, joined_pieces, list_in_tree}

-- pieces one behind another are joined one behind another
pub pieces-append : (xs ys : List (Bor Attr))
    → joined_pieces (xs ++ ys) ≡ joined_pieces xs ++ joined_pieces ys
pieces-append [] ys = refl
pieces-append (x ∷ xs) ys = ap (λ l. elements_of (tree_of x.now) ++ l) (pieces-append xs ys)
    ∙ sym (append_assoc (elements_of (tree_of x.now)) (joined_pieces xs) (joined_pieces ys))

-- two lists are joined
pub joined_are : (s t : Tree) (xs ys : List Tree) → list_in_tree s ≡ Ok xs → list_in_tree t ≡ Ok ys
    → appended_list s t ≡ Ok (L_tree (trees_of (xs ++ ys)))
joined_are (L_tree ss) (L_tree ts) xs ys p q =
    let e : elements ss ≡ xs = cc p in
    let f : elements ts ≡ ys = cc q in
    ap (λ (l : List Tree). Ok (L_tree (trees_of (l ++ elements ts)))) e
    ∙ ap (λ (l : List Tree). Ok (L_tree (trees_of (xs ++ l)))) f
joined_are (L_tree ss) _ xs ys p q = absurd (cc)
joined_are _ t xs ys p q = absurd (cc)

-- a list is one piece
pub one_piece : (ts : List Tree) → list_in_tree (L_tree (trees_of ts)) ≡ Ok (ts ++ [])
one_piece ts = ap Ok (elements-trees_of ts ∙ sym (append-nil ts))

-- a list that was pushed alone
pub one_pushed : (t : Tree) (ts : List Tree) (before now : List (Bor Attr)) (p : Bor Attr)
    → t ≡ L_tree (trees_of ts) → now ≡ before ++ p ∷ [] → before ≡ [] → tree_of p.now ≡ t
    → list_in_tree t ≡ Ok (joined_pieces now)
one_pushed t ts before now p list pushed none is =
    ap list_in_tree list ∙ one_piece ts
    ∙ ap (λ (l : List Tree). Ok (l ++ []))
    (sym (ap elements_of (is ∙ list) ∙ elements-trees_of ts))
    ∙ ap (λ (l : List (Bor Attr)). Ok (joined_pieces l))
    (sym (pushed ∙ ap (λ (l : List (Bor Attr)). l ++ p ∷ []) none))
