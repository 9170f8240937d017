-- What paths choose of a list, element by element.
use Rattle.std.proofs.Common.{◌≡◌, refl, sym, ap, ◌∙◌, ℕ, suc, ◌+◌, ◌<◌, ◌≤◌, List, [], ◌∷◌, ◌++◌, take, length, Some, arith}
use Rattle.std.specs.Prelude.{option_to_list, slice_get}
use Rattle.std.proofs.lemmas.List.{append_assoc, append-nil, take_all}
use Rattle.alt_base.proofs.Lists.{length-front, take_one_more}
use Rattle.alt_value.specs.Tree.{Tree, trees_of, elements}
use Rattle.alt_expr.specs.declared.path.PathPart.{PathPart}
use Rattle.alt_expr.specs.declared.path.PathPart.TheVariants.{Index}
use Rattle.alt_expr.specs.Projected.{under, chosen, chosen_elements}
use Rattle.alt_expr.proofs.Picked.{elements-then}

-- what is chosen of elements from i on
abbrev pub walked : List (List PathPart) → ℕ → List Tree → List Tree
walked paths i [] = []
walked paths i (t ∷ ts) =
    option_to_list (chosen (under (Index i) paths) t) ++ walked paths (suc i) ts

-- the walk gives what the paths choose
walked-elements : (paths : List (List PathPart)) (i : ℕ) (ts : List Tree)
    → walked paths i ts ≡ elements (chosen_elements paths i (trees_of ts))
walked-elements paths i [] = refl
walked-elements paths i (t ∷ ts) =
    ap (λ (l : List Tree). option_to_list (chosen (under (Index i) paths) t) ++ l)
    (walked-elements paths (suc i) ts)
    ∙ sym (elements-then (chosen (under (Index i) paths) t)
    (chosen_elements paths (suc i) (trees_of ts)))

-- it goes on with what is chosen of one element more
walked-append : (paths : List (List PathPart)) (i n : ℕ) (ts : List Tree) (t : Tree)
    → n ≡ i + length ts
    → walked paths i (ts ++ t ∷ [])
    ≡ walked paths i ts ++ option_to_list (chosen (under (Index n) paths) t)
walked-append paths i n [] t e =
    append-nil (option_to_list (chosen (under (Index i) paths) t))
    ∙ ap (λ k. option_to_list (chosen (under (Index k) paths) t))
    (let same : i ≡ n = omega (arith, e) in same)
walked-append paths i n (s ∷ ts) t e =
    let rest : n ≡ suc i + length ts = omega (arith, e) in
    ap (λ (l : List Tree). option_to_list (chosen (under (Index i) paths) s) ++ l)
    (walked-append paths (suc i) n ts t rest)
    ∙ sym (append_assoc (option_to_list (chosen (under (Index i) paths) s))
    (walked paths (suc i) ts) (option_to_list (chosen (under (Index n) paths) t)))

-- a turn of the loop: one element more was looked at
pub list_more : (paths : List (List PathPart)) (ts : List Tree) (i : ℕ) (t : Tree)
    (before now : List Tree) → i < length ts → Some t ≡ slice_get ts i
    → before ≡ walked paths 0 (take i ts)
    → now ≡ before ++ option_to_list (chosen (under (Index i) paths) t)
    → now ≡ walked paths 0 (take (i + 1) ts)
list_more paths ts i t before now lt stands was put =
    let place : i ≡ 0 + length (take i ts) = omega (arith, length-front ts i (omega (arith, lt))) in
    put ∙ ap (λ (l : List Tree). l ++ option_to_list (chosen (under (Index i) paths) t)) was
    ∙ sym (ap (walked paths 0) (take_one_more ts i t stands)
    ∙ walked-append paths 0 i (take i ts) t place)

-- behind the last element it is what the paths choose of the list
pub list_all : (paths : List (List PathPart)) (ts : List Tree) (i : ℕ) (out : List Tree)
    → length ts ≤ i → out ≡ walked paths 0 (take i ts)
    → out ≡ elements (chosen_elements paths 0 (trees_of ts))
list_all paths ts i out le was =
    was ∙ ap (walked paths 0) (take_all i ts le) ∙ walked-elements paths 0 ts
