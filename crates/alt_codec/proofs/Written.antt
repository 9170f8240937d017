-- What is written so far is what the elements so far are written as.
use Rattle.std.proofs.Common.{◌≡◌, refl, sym, ap, ◌∙◌, ℕ, zero, suc, ◌+◌, ◌≤◌, List, [], ◌∷◌, ◌++◌, map, take, length, Some, add-one, T, String, Global, string_bytes, rules}
use Rattle.std.specs.Prelude.{slice_get}
use Rattle.std.proofs.lemmas.List.{map-append}
use Rattle.std.proofs.lemmas.Cmp.{nat_list_cmp_total}
use Rattle.std.specs.declared.cmp.Ordering.TheVariants.{Less, Greater}
use Rattle.std.specs.Ordering.{nat_cmp, is_lt, ordering_reverse}
use Rattle.std.specs.Cmp.Lexicographic.{slice_cmp}
use Rattle.std.specs.FinMap.Entries.{below_all, is_sorted}
use Rattle.alt_base.proofs.Bools.{first_holds, second_holds}
use Rattle.alt_base.proofs.Lists.{take_whole, take_one_more}
use Rattle.alt_base.proofs.Orderings.{is_lt-holds}
use Rattle.serde_json.specs.Data.{Data, string, item, member, put}
use Rattle.serde_json.specs.View.{view, items_view, items_of}
use Rattle.serde_json.specs.declared.value.Value.{Value, String as Text, the_lemmas}
use Rattle.alt_value.specs.Members.{text_order}
use Rattle.alt_value.specs.Tree.{Tree, Pair, trees_of, fields_of}
use Rattle.alt_codec.specs.Writing.{strings, json_of, json_items, json_members}

-- a text is written, whose bytes are these
pub text_written : (s : String Global) (bytes : List ℕ) → string_bytes s ≡ bytes
    → view (Text s) ≡ string bytes
text_written s bytes e =
    let is : view (Text s) ≡ string (string_bytes s) = search (rules, the_lemmas) in
    is ∙ ap string e

-- one more element is written
pub written_more : {A : Type 0} (write : A → Data) (xs : List A) (i : ℕ) (x : A) (vs : List Value)
    (v : Value) → map view vs ≡ map write (take i xs)
    → Some x ≡ slice_get xs i → view v ≡ write x
    → map view (vs ++ v ∷ []) ≡ map write (take (i + 1) xs)
written_more write xs i x vs v before e here =
    map-append view vs (v ∷ [])
    ∙ ap (λ ds. ds ++ view v ∷ []) before
    ∙ ap (λ d. map write (take i xs) ++ d ∷ []) here
    ∙ sym (ap (map write) (take_one_more xs i x e) ∙ map-append write (take i xs) (x ∷ []))

-- all elements are written
pub written_whole : {A : Type 0} (write : A → Data) (xs : List A) (i : ℕ) (vs : List Value)
    → map view vs ≡ map write (take i xs)
    → length xs ≤ i → items_view vs ≡ items_of (map write xs)
written_whole write xs i vs before h = ap items_of (before ∙ ap (map write) (take_whole xs i h))

-- texts made of members are written as strings
pub items_of-texts : {A : Type 0} (f : A → List ℕ) (xs : List A)
    → items_of (map (λ x. string (f x)) xs) ≡ strings (map f xs)
items_of-texts f [] = refl
items_of-texts f (x ∷ xs) = ap (λ ds. item (string (f x)) ds) (items_of-texts f xs)

-- and so are texts
pub items_of-strings : (ss : List (List ℕ)) → items_of (map (λ s. string s) ss) ≡ strings ss
items_of-strings [] = refl
items_of-strings (s ∷ ss) = ap (λ ds. item (string s) ds) (items_of-strings ss)

-- and trees as elements
pub items_of-trees : (ts : List Tree) → items_of (map json_of ts) ≡ json_items (trees_of ts)
items_of-trees [] = refl
items_of-trees (t ∷ ts) = ap (λ ds. item (json_of t) ds) (items_of-trees ts)

-- a name below each is below the one at a place
below_there : (x : List ℕ) (ps : List Pair) (i : ℕ) (p : Pair) → T (below_all text_order x ps)
    → Some p ≡ slice_get ps i → text_order x p.0 ≡ Less
below_there x [] i p h e = absurd (let f : ⊥ = cc in f)
below_there x (q ∷ ps) zero p h e = let f : p ≡ q = cc in
    rw f (is_lt-holds (text_order x q.0)
    (first_holds (is_lt (text_order x q.0)) (below_all text_order x ps) h))
below_there x (q ∷ ps) (suc i) p h e = below_there x ps i p
    (second_holds (is_lt (text_order x q.0)) (below_all text_order x ps) h) e

-- a pair behind those before it
put_suc : (ps : List Pair) (i : ℕ) (p : Pair) → T (is_sorted text_order ps)
    → Some p ≡ slice_get ps i
    → put p.0 (json_of p.1) (json_members (fields_of (take i ps)))
    ≡ json_members (fields_of (take (suc i) ps))
put_suc [] i p h e = absurd (let f : ⊥ = cc in f)
put_suc (q ∷ ps) zero p h e = let f : p ≡ q = cc in rw f refl
put_suc (q ∷ ps) (suc i) p h e =
    let above : slice_cmp nat_cmp p.0 q.0 ≡ Greater =
    nat_list_cmp_total.antisymm p.0 q.0 ∙ ap ordering_reverse
    (below_there q.0 ps i p
    (first_holds (below_all text_order q.0 ps) (is_sorted text_order ps) h) e)
    in
    rw above (ap (λ ms. member q.0 (json_of q.1) ms)
    (put_suc ps i p (second_holds (below_all text_order q.0 ps) (is_sorted text_order ps) h) e))

-- one more pair is written, whose name is above those before it
pub put_more : (ps : List Pair) (i : ℕ) (p : Pair) → T (is_sorted text_order ps)
    → Some p ≡ slice_get ps i
    → put p.0 (json_of p.1) (json_members (fields_of (take i ps)))
    ≡ json_members (fields_of (take (i + 1) ps))
put_more ps i p h e = put_suc ps i p h e ∙ ap (λ j. json_members (fields_of (take j ps)))
    (sym (add-one i))

-- all pairs are written
pub put_whole : (ps : List Pair) (i : ℕ) → length ps ≤ i
    → json_members (fields_of (take i ps)) ≡ json_members (fields_of ps)
put_whole ps i h = ap (λ qs. json_members (fields_of qs)) (take_whole ps i h)
