-- What is written so far, with what is left to write, is the whole.
use Rattle.std.proofs.Common.{◌≡◌, refl, sym, ap, ◌∙◌, ℕ, zero, suc, ◌+◌, ◌≤◌, List, [], ◌∷◌, ◌++◌, map, drop, length, Some, arith, add-one, append_assoc}
use Rattle.std.specs.Prelude.{slice_get}
use Rattle.json.specs.Token.{Token, begin_object, end_object, begin_array, end_array, key}
use Rattle.json.specs.Tree.{json_tokens, items_tokens, members_tokens}
use Rattle.serde_json.specs.Data.{Data, string, Items}
use Rattle.serde_json.specs.View.{items_of}
use Rattle.serde_json.specs.Written.{outline, items_outline, members_outline}
use Rattle.alt_value.specs.Tree.{Tree, Pair, trees_of, fields_of}
use Rattle.alt_codec.specs.Writing.{strings, json_of, json_items, json_members, json_of_pairs}
use Rattle.alt_codec.proofs.Written.{items_of-texts, items_of-strings, items_of-trees}

-- the tokens of a tree
abbrev tokens_of : Data → List Token
tokens_of d = json_tokens (outline d)

-- elements, and the end of their array
abbrev pub elements_then_end : {A : Type 0} → (A → Data) → List A → List Token
elements_then_end write [] = end_array ∷ []
elements_then_end write (x ∷ xs) = tokens_of (write x) ++ elements_then_end write xs

-- pairs, and the end of their object
abbrev pub pairs_then_end : List Pair → List Token
pairs_then_end [] = end_object ∷ []
pairs_then_end (p ∷ ps) = key p.0 ∷ (tokens_of (json_of p.1) ++ pairs_then_end ps)

-- the elements and the end of an array that stands as a tree
abbrev array_tokens : Items → List Token
array_tokens ds = items_tokens (items_outline ds)

-- elements are written as those of the tree that they make
elements_tokens : {A : Type 0} (write : A → Data) (xs : List A)
    → elements_then_end write xs ≡ array_tokens (items_of (map write xs))
elements_tokens write [] = refl
elements_tokens write (x ∷ xs) = ap (λ ts. tokens_of (write x) ++ ts)
    (elements_tokens write xs)

-- so are texts
pub texts_tokens : (ss : List (List ℕ))
    → elements_then_end (λ s. string s) ss ≡ array_tokens (strings ss)
texts_tokens ss = elements_tokens (λ s. string s) ss
    ∙ ap array_tokens (items_of-strings ss)

-- and texts made of members
pub made_tokens : {A : Type 0} (f : A → List ℕ) (xs : List A)
    → elements_then_end (λ x. string (f x)) xs ≡ array_tokens (strings (map f xs))
made_tokens f xs = elements_tokens (λ x. string (f x)) xs
    ∙ ap array_tokens (items_of-texts f xs)

-- and values
pub trees_tokens : (ts : List Tree)
    → elements_then_end json_of ts ≡ array_tokens (json_items (trees_of ts))
trees_tokens ts = elements_tokens json_of ts
    ∙ ap array_tokens (items_of-trees ts)

-- and the pairs of an item
pairs_tokens : (ps : List Pair)
    → pairs_then_end ps ≡ members_tokens (members_outline (json_members (fields_of ps)))
pairs_tokens [] = refl
pairs_tokens (p ∷ ps) = ap (λ ts. key p.0 ∷ (tokens_of (json_of p.1) ++ ts))
    (pairs_tokens ps)

-- from a place on: the member there, and those behind it
drop_here : {A : Type 0} (xs : List A) (i : ℕ) (x : A) → Some x ≡ slice_get xs i
    → drop i xs ≡ x ∷ drop (suc i) xs
drop_here [] i x e = absurd (let f : ⊥ = cc in f)
drop_here (y ∷ xs) zero x e = let f : x ≡ y = cc in rw f refl
drop_here (y ∷ xs) (suc i) x e = drop_here xs i x e

-- none is left past the end
drop_past : {A : Type 0} (xs : List A) (i : ℕ) → length xs ≤ i → drop i xs ≡ []
drop_past [] zero h = refl
drop_past [] (suc i) h = refl
drop_past (x ∷ xs) zero h = absurd (omega arith)
drop_past (x ∷ xs) (suc i) h = drop_past xs i (omega arith)

-- one more element is written
pub element_more : {A : Type 0} (write : A → Data) (xs : List A) (i : ℕ) (x : A)
    (whole before after : List Token) → Some x ≡ slice_get xs i
    → whole ≡ before ++ elements_then_end write (drop i xs)
    → after ≡ before ++ tokens_of (write x)
    → whole ≡ after ++ elements_then_end write (drop (i + 1) xs)
element_more write xs i x whole before after here is more =
    let rest = elements_then_end write (drop (suc i) xs) in
    is
    ∙ ap (λ ys. before ++ elements_then_end write ys) (drop_here xs i x here)
    ∙ sym (append_assoc before (tokens_of (write x)) rest)
    ∙ ap (λ ts. ts ++ rest) (sym more)
    ∙ ap (λ j. after ++ elements_then_end write (drop j xs)) (sym (add-one i))

-- one more pair is written
pub pair_more : (ps : List Pair) (i : ℕ) (p : Pair) (whole before named after : List Token)
    → Some p ≡ slice_get ps i
    → whole ≡ before ++ pairs_then_end (drop i ps)
    → named ≡ before ++ key p.0 ∷ []
    → after ≡ named ++ tokens_of (json_of p.1)
    → whole ≡ after ++ pairs_then_end (drop (i + 1) ps)
pair_more ps i p whole before named after here is name more =
    let value = tokens_of (json_of p.1) in
    let rest = pairs_then_end (drop (suc i) ps) in
    is
    ∙ ap (λ qs. before ++ pairs_then_end qs) (drop_here ps i p here)
    ∙ sym (append_assoc before (key p.0 ∷ []) (value ++ rest))
    ∙ ap (λ ts. ts ++ (value ++ rest)) (sym name)
    ∙ sym (append_assoc named value rest)
    ∙ ap (λ ts. ts ++ rest) (sym more)
    ∙ ap (λ j. after ++ pairs_then_end (drop j ps)) (sym (add-one i))

-- all elements are written, as the array of a kind
pub array_whole : {A : Type 0} (write : A → Data) (xs : List A) (i : ℕ) (k : List ℕ)
    (old head opened before new all : List Token)
    → head ≡ old ++ begin_object ∷ key k ∷ []
    → opened ≡ head ++ begin_array ∷ []
    → opened ++ elements_then_end write xs ≡ before ++ elements_then_end write (drop i xs)
    → length xs ≤ i
    → elements_then_end write xs ≡ all
    → new ≡ before ++ end_array ∷ end_object ∷ []
    → new ≡ old ++ begin_object ∷ key k ∷ begin_array ∷ (all ++ end_object ∷ [])
array_whole write xs i k old head opened before new all begun array is past same end =
    let done = ap (λ ys. before ++ elements_then_end write ys) (drop_past xs i past) in
    end
    ∙ sym (append_assoc before (end_array ∷ []) (end_object ∷ []))
    ∙ ap (λ ts. ts ++ end_object ∷ []) (sym (is ∙ done))
    ∙ rw (same, array, begun) (simp append_assoc)

-- all pairs are written, as an object
pub object_whole : (ps : List Pair) (i : ℕ) (old opened before new : List Token)
    → opened ≡ old ++ begin_object ∷ []
    → opened ++ pairs_then_end ps ≡ before ++ pairs_then_end (drop i ps)
    → length ps ≤ i
    → new ≡ before ++ end_object ∷ []
    → new ≡ old ++ tokens_of (json_of_pairs ps)
object_whole ps i old opened before new begun is past end =
    end
    ∙ ap (λ qs. before ++ pairs_then_end qs) (sym (drop_past ps i past))
    ∙ sym is
    ∙ ap (λ ts. ts ++ pairs_then_end ps) begun
    ∙ append_assoc old (begin_object ∷ []) (pairs_then_end ps)
    ∙ ap (λ ts. old ++ begin_object ∷ ts) (pairs_tokens ps)
