-- What is shown of a list, element by element, and of a description, member by member.
use Rattle.std.proofs.Common.{◌≡◌, refl, sym, ap, ◌∙◌, ℕ, zero, suc, ◌+◌, ◌<◌, ◌≤◌, List, [], ◌∷◌, ◌++◌, map, take, length, get_or, arith, add-one}
use Rattle.std.proofs.lemmas.List.{map-append}
use Rattle.alt_base.proofs.Lists.{take_whole}
use Rattle.serde_json.specs.Data.{Data, item}
use Rattle.serde_json.specs.View.{view, items_view, items_of}
use Rattle.serde_json.specs.declared.value.Value.{Value}
use Rattle.alt_description.specs.Json.{items_by}

-- the items of what is shown of each element are those of the list
pub items_of-map : {A : Type 0} (shown : A → Data) (xs : List A) → items_of (map shown xs)
    ≡ items_by shown xs
items_of-map shown [] = refl
items_of-map shown (x ∷ xs) = ap (λ ds. item (shown x) ds) (items_of-map shown xs)

-- the same as the next, by the successor of a number
take_suc : {A : Type 0} (xs : List A) (i : ℕ) (x : A) → i < length xs → x ≡ get_or xs i x
    → take (suc i) xs ≡ take i xs ++ x ∷ []
take_suc [] i x h at = absurd (omega arith)
take_suc (y ∷ xs) zero x h at = ap (λ z. z ∷ []) (sym at)
take_suc (y ∷ xs) (suc i) x h at = ap (λ zs. y ∷ zs) (take_suc xs i x (omega arith) at)

-- one element more is the last of those taken
pub take_more : {A : Type 0} (xs : List A) (i : ℕ) (x : A) → i < length xs → x ≡ get_or xs i x
    → take (i + 1) xs ≡ take i xs ++ x ∷ []
take_more xs i x h at = ap (λ n. take n xs) (add-one i) ∙ take_suc xs i x h at

-- one more is shown
pub shown_more : {A : Type 0} (shown : A → Data) (xs : List A) (i : ℕ) (x : A) (vs : List Value)
    (v : Value) → i < length xs → x ≡ get_or xs i x
    → view v ≡ shown x → map view vs ≡ map shown (take i xs) → map view (vs ++ v ∷ [])
    ≡ map shown (take (i + 1) xs)
shown_more shown xs i x vs v within at here before =
    map-append view vs (v ∷ []) ∙ (λ j. before j ++ here j ∷ [])
    ∙ sym (ap (map shown) (take_more xs i x within at) ∙ map-append shown (take i xs) (x ∷ []))

-- all are shown
pub shown_whole : {A : Type 0} (shown : A → Data) (xs : List A) (i : ℕ) (vs : List Value)
    → length xs ≤ i → map view vs ≡ map shown (take i xs)
    → items_view vs ≡ items_by shown xs
shown_whole shown xs i vs end before = ap items_of (before ∙ ap (map shown) (take_whole xs i end))
    ∙ items_of-map shown xs
