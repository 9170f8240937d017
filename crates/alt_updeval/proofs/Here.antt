-- Edits of one place, one after another.
use Rattle.std.proofs.Common.{◌≡◌, refl, sym, ap, ◌∙◌, ℕ, true, false, ◌||◌, cond, List, [], ◌∷◌, ◌++◌, map, length, Option, Some, None}
use Rattle.alt_value.specs.Tree.{Tree, L_tree, M_tree, trees_of, elements}
use Rattle.alt_value.proofs.Trees.{elements-trees_of}
use Rattle.alt_expr.specs.Updated.{Edit, put_here, is_taken, outcome, elements_past_end, changed, changed_elements, place_after}
use Rattle.alt_updeval.specs.Shown.{is_put, is_taken_out, is_edited_whole}

-- one edit more here: it puts its value, or what the others put stays
pub put_one : (e : Edit) (es : List Edit) → put_here (e ∷ es) ≡ cond (is_put e) e.1 (put_here es)
put_one ([], Some t) es = refl
put_one ([], None) es = refl
put_one (p ∷ ps, v) es = refl

-- one edit more here: it takes what is there away, or the others do
pub taken_one : (e : Edit) (es : List Edit) → is_taken (e ∷ es) ≡ (is_taken_out e || is_taken es)
taken_one ([], Some t) es = refl
taken_one ([], None) es = refl
taken_one (p ∷ ps, v) es = refl

-- a change that is the only one, and of the place itself, is the last
pub whole_is : (front : List Edit) (e : Edit) → is_edited_whole (front ++ e ∷ []) ≡ true
    → front ++ e ∷ [] ≡ ([], e.1) ∷ []
whole_is [] ([], v) h = refl
whole_is [] (p ∷ ps, v) h = absurd (cc)
whole_is (([], v) ∷ []) e h = absurd (cc)
whole_is ((p ∷ ps, v) ∷ []) e h = absurd (cc)
whole_is (([], v) ∷ f ∷ fs) e h = absurd (cc)
whole_is ((p ∷ ps, v) ∷ f ∷ fs) e h = absurd (cc)

-- what is put at the place itself stands there
pub after_put : (t : Tree) (o : Option Tree) → place_after (([], Some t) ∷ []) o ≡ Some t
after_put t None = refl
after_put t (Some (L_tree ts)) = refl
after_put t (Some (M_tree fs)) = refl
after_put t (Some _) = refl

-- and where it is taken out nothing does
pub after_out : (o : Option Tree) → place_after (([], None) ∷ []) o ≡ None
after_out None = refl
after_out (Some (L_tree ts)) = refl
after_out (Some (M_tree fs)) = refl
after_out (Some _) = refl

-- a list in whose place nothing is put, and which isn't taken out
pub list_is : (es : List Edit) (ts out : List Tree) → put_here es ≡ None → is_taken es ≡ false
    → out ≡ elements (changed_elements es 0 (trees_of ts))
    ++ map (λ (p : ℕ × Tree). p.1) (elements_past_end (length ts) es)
    → Some (L_tree (trees_of out)) ≡ changed es (L_tree (trees_of ts))
list_is es ts out none stays is =
    let whole : List Tree = elements (changed_elements es 0 (trees_of ts))
    ++ map (λ (p : ℕ × Tree). p.1) (elements_past_end (length (elements (trees_of ts))) es) in
    ap (λ (l : List Tree). Some (L_tree (trees_of l)))
    (is ∙ ap (λ (l : List Tree). elements (changed_elements es 0 (trees_of ts))
    ++ map (λ (p : ℕ × Tree). p.1) (elements_past_end (length l) es)) (sym (elements-trees_of ts)))
    ∙ sym (ap (λ o. outcome o (is_taken es) (L_tree (trees_of whole))) none
    ∙ ap (λ b. outcome None b (L_tree (trees_of whole))) stays)
