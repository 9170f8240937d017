-- Pages of lists: what is taken of a list piece by piece, and what is left.
use Rattle.std.proofs.Common.{◌≡◌, sym, ap, ◌∙◌, ℕ, ◌-◌, ◌≤◌, nat_lt, List, [], ◌∷◌, ◌++◌, map, take, length, Option, Some, None, option_map, slice_get, arith}
use Rattle.std.specs.Prelude.{is_some}
use Rattle.std.specs.List.{last_or}
use Rattle.std.proofs.Math.Seq.{take-append_seam}
use Rattle.std.proofs.lemmas.List.{length-append, length-map, append_assoc}
use Rattle.std.proofs.lemmas.Option.{slice_get-map}
use Rattle.alt_base.proofs.Lists.{last_get, take_whole_and_nothing}
use Rattle.alt_base.proofs.Numbers.{from_is_found, below_is_found}

-- the last of a mapped list is the last of the list, mapped
pub last_mapped : {A B : Type 0} (f : A → B) (xs : List A)
    → option_map f (slice_get xs (length xs - 1)) ≡ last_or None (map f xs)
last_mapped f xs = sym (slice_get-map f xs (length xs - 1))
    ∙ ap (λ n. slice_get (map f xs) (n - 1)) (sym (length-map xs f)) ∙ last_get (map f xs)

-- the page is full, or nothing is left
pub data Ends {A : Type 0} (most : ℕ) (xs rest : List A) : Type 0 where
  is_full : length xs ≡ most → Ends most xs rest
  is_last : rest ≡ [] → length xs ≤ most → Ends most xs rest

-- a page that ends so is the first of all, as many as it takes
pub page_taken : {A : Type 0} (most : ℕ) (xs rest all : List A) → Ends most xs rest
    → xs ++ rest ≡ all → xs ≡ take most all
page_taken most xs rest all (is_full l) e = sym
    (ap (take most) (sym e) ∙ ap (λ n. take n (xs ++ rest)) (sym l) ∙ take-append_seam xs rest)
page_taken most xs rest all (is_last n l) e =
    sym (ap (take most) (sym e ∙ ap (λ ys. xs ++ ys) n) ∙ take_whole_and_nothing xs most l)

-- whether more is left, by the first of what is left
pub page_more : {A B : Type 0} (f : B → A) (o : Option B) (most : ℕ) (xs rest all : List A)
    → Ends most xs rest → xs ++ rest ≡ all → option_map f o ≡ slice_get rest 0
    → is_some o ≡ nat_lt most (length all)
page_more f None most xs [] all (is_full l) e at =
    from_is_found _ _ (let m : length (xs ++ []) ≡ length all = ap length e in
    omega (arith, length-append xs [], m, l))
page_more f None most xs (k ∷ rest) all (is_full l) e at = absurd (let g : ⊥ = cc in g)
page_more f (Some x) most xs [] all (is_full l) e at = absurd (let g : ⊥ = cc in g)
page_more f (Some x) most xs (k ∷ rest) all (is_full l) e at =
    below_is_found _ _ (let m : length (xs ++ k ∷ rest) ≡ length all = ap length e in
    omega (arith, length-append xs (k ∷ rest), m, l))
page_more f None most xs [] all (is_last n l) e at =
    from_is_found _ _ (let m : length (xs ++ []) ≡ length all = ap length e in
    omega (arith, length-append xs [], m, l))
page_more f (Some x) most xs [] all (is_last n l) e at = absurd (let g : ⊥ = cc in g)
page_more f o most xs (k ∷ rest) all (is_last n l) e at = absurd (let g : ⊥ = cc in g)

-- one more is taken
pub taken_more : {A : Type 0} (x : A) (xs more left rest all : List A) → left ≡ x ∷ rest
    → more ≡ xs ++ x ∷ [] → xs ++ left ≡ all → more ++ rest ≡ all
taken_more x xs more left rest all at is before =
    ap (λ l. l ++ rest) is ∙ append_assoc xs (x ∷ []) rest ∙ ap (λ l. xs ++ l) (sym at) ∙ before
