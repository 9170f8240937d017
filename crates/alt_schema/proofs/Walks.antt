-- Walks over the items of an array.
use Rattle.std.proofs.Common.{◌≡◌, ap, ◌∙◌, sym, ◌<◌, ◌+◌, ℕ, suc, List, ◌∷◌, ◌++◌, length, drop, get_or, append_assoc, add-one}
use Rattle.std.proofs.Math.Seq.{drop-cons}
use Rattle.serde_json.specs.Data.{Data}
use Rattle.serde_json.specs.View.{view, items_view}
use Rattle.serde_json.specs.declared.value.Value.{Value}
use Rattle.alt_schema.specs.Stated.{stated_by}

-- what one item more states is behind what those before it state
pub stated_more : {A : Type 0} (of : Data → List A) (vs : List Value) (i : ℕ) (v : Value)
    (old new all : List A) → i < length vs → v ≡ get_or vs i v
    → new ≡ old ++ of (view v) → old ++ stated_by of (items_view (drop i vs)) ≡ all → new
    ++ stated_by of (items_view (drop (i + 1) vs)) ≡ all
stated_more of vs i v old new all within at put so_far =
    let front : drop i vs ≡ v ∷ drop (suc i) vs = drop-cons vs i v within
    ∙ ap (λ y. y ∷ drop (suc i) vs) (sym at) in
    ap (λ xs. xs ++ stated_by of (items_view (drop (i + 1) vs))) put
    ∙ append_assoc old (of (view v)) (stated_by of (items_view (drop (i + 1) vs)))
    ∙ ap (λ n. old ++ (of (view v) ++ stated_by of (items_view (drop n vs)))) (add-one i)
    ∙ ap (λ ys. old ++ stated_by of (items_view ys)) (sym front) ∙ so_far
