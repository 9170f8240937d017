-- Lists that rise, and one more at their end.
use Rattle.std.proofs.Common.{◌≡◌, refl, sym, ap, subst, ◌∙◌, ℕ, zero, suc, ◌+◌, ◌&&◌, T, List, [], ◌∷◌, ◌++◌, length, map, Some, arith}
use Rattle.std.specs.Prelude.{slice_get}
use Rattle.std.specs.Cmp.{IsTotalOrder}
use Rattle.std.specs.FinMap.Entries.{below_all, is_sorted, put}
use Rattle.std.specs.Ordering.{is_lt, ordering_reverse}
use Rattle.std.specs.declared.cmp.Ordering.{Ordering}
use Rattle.std.specs.declared.cmp.Ordering.TheVariants.{Less, Greater}
use Rattle.alt_base.proofs.Bools.{both_hold, first_holds, second_holds}
use Rattle.alt_base.proofs.Orderings.{less-holds, is_lt-holds}
use Rattle.alt_value.specs.Item.{IsItem, with_pair}
use Rattle.alt_value.specs.Members.{is_below_each, is_rising, IsSet, text_order, with_member}
use Rattle.alt_value.specs.Tree.{Tree, Pair}
use Rattle.alt_value.proofs.Texts.{text_total}

module _ {K : Type 0} (R : K → K → Ordering) (o : IsTotalOrder R) where
  below_front : (x : K) (xs ys : List K) → T (is_below_each R x (xs ++ ys))
      → T (is_below_each R x xs)
  below_front x [] ys h = tt
  below_front x (z ∷ xs) ys h =
      both_hold _ _ (first_holds _ _ h) (below_front x xs ys (second_holds _ _ h))

  below_last : (x : K) (xs : List K) (y : K) → T (is_below_each R x (xs ++ y ∷ [])) → R x y ≡ Less
  below_last x [] y h = is_lt-holds _ (first_holds _ _ h)
  below_last x (z ∷ xs) y h = below_last x xs y (second_holds _ _ h)

  below_more : (x : K) (xs : List K) (y : K) → T (is_below_each R x xs) → R x y ≡ Less
      → T (is_below_each R x (xs ++ y ∷ []))
  below_more x [] y h l = both_hold _ _ (less-holds _ l) tt
  below_more x (z ∷ xs) y h l =
      both_hold _ _ (first_holds _ _ h) (below_more x xs y (second_holds _ _ h) l)

  below_at : (x : K) (xs : List K) (i : ℕ) (l : K) → T (is_below_each R x xs)
      → Some l ≡ slice_get xs i → R x l ≡ Less
  below_at x [] i l h e = absurd (let f : ⊥ = cc in f)
  below_at x (z ∷ xs) zero l h e = let f : l ≡ z = cc in rw f (is_lt-holds _ (first_holds _ _ h))
  below_at x (z ∷ xs) (suc i) l h e = below_at x xs i l (second_holds _ _ h) e

  -- the first members of a set are a set
  pub rising_front : (xs ys : List K) → IsSet R (xs ++ ys) → IsSet R xs
  rising_front [] ys h = tt
  rising_front (x ∷ xs) ys h = both_hold _ _ (below_front x xs ys (first_holds _ _ h))
      (rising_front xs ys (second_holds _ _ h))

  -- one more that is above the last one
  pub rising_more : (xs : List K) (i : ℕ) (l y : K) → IsSet R xs → i + 1 ≡ length xs
      → Some l ≡ slice_get xs i → R l y ≡ Less → IsSet R (xs ++ y ∷ [])
  rising_more [] i l y h n e lt = absurd (omega (arith, n))
  rising_more (x ∷ []) zero l y h n e lt = let f : l ≡ x = cc in
      both_hold _ _ (below_more x [] y tt (ap (λ k. R k y) (sym f) ∙ lt)) tt
  rising_more (x ∷ []) (suc i) l y h n e lt = absurd (omega (arith, n))
  rising_more (x ∷ z ∷ xs) zero l y h n e lt = absurd (omega (arith, n))
  rising_more (x ∷ z ∷ xs) (suc i) l y h n e lt =
      both_hold _ _
      (below_more x (z ∷ xs) y (first_holds _ _ h) (o.trans x l y
      (below_at x (z ∷ xs) i l (first_holds _ _ h) e) lt))
      (rising_more (z ∷ xs) i l y (second_holds _ _ h) (omega (arith, n)) e lt)

  -- what goes on a rising list is above its last one
  pub above_last : (xs : List K) (i : ℕ) (l y : K) → IsSet R (xs ++ y ∷ [])
      → Some l ≡ slice_get xs i → R l y ≡ Less
  above_last [] i l y h e = absurd (let f : ⊥ = cc in f)
  above_last (x ∷ xs) zero l y h e =
      let f : l ≡ x = cc in rw f (below_last x xs y (first_holds _ _ h))
  above_last (x ∷ xs) (suc i) l y h e = above_last xs i l y (second_holds _ _ h) e

  -- a member above all others stands at the end
  pub with_member-last : (xs : List K) (y : K) → IsSet R (xs ++ y ∷ [])
      → with_member R y xs ≡ xs ++ y ∷ []
  with_member-last [] y h = refl
  with_member-last (x ∷ xs) y h =
      let above : R y x ≡ Greater = o.antisymm y x
      ∙ ap ordering_reverse (below_last x xs y (first_holds _ _ h)) in
      rw above (ap (λ zs. x ∷ zs) (with_member-last xs y (second_holds _ _ h)))

-- ---- maps

-- the names of pairs, and that they rise
abbrev names : List Pair → List (List ℕ)
names ps = map (λ p. p.0) ps

names_below : (x : List ℕ) (ps : List Pair) → is_below_each text_order x (names ps)
    ≡ below_all text_order x ps
names_below x [] = refl
names_below x (p ∷ ps) = ap (λ b. is_lt (text_order x p.0) && b) (names_below x ps)

names_rising : (ps : List Pair) → is_rising text_order (names ps) ≡ is_sorted text_order ps
names_rising [] = refl
names_rising (p ∷ ps) = rw (names_below p.0 ps, names_rising ps) refl

names_more : (ps : List Pair) (name : List ℕ) (t : Tree)
    → names (ps ++ (name, t) ∷ []) ≡ names ps ++ name ∷ []
names_more [] name t = refl
names_more (p ∷ ps) name t = ap (λ ns. p.0 ∷ ns) (names_more ps name t)

-- the pairs of a map are those whose names rise from above the empty one
item_from : (ps : List Pair) → IsSet text_order ([] ∷ names ps) → IsItem ps
item_from ps h = (
  subst T (names_rising ps) (second_holds _ _ h),
  subst T (names_below [] ps) (first_holds _ _ h),
)

-- items by the names of their pairs
item_to : (ps : List Pair) → IsItem ps → IsSet text_order ([] ∷ names ps)
item_to ps h = both_hold _ _ (subst T (sym (names_below [] ps)) h.1)
    (subst T (sym (names_rising ps)) h.0)

more_from : (ps : List Pair) (name : List ℕ) (t : Tree)
    → IsSet text_order (([] ∷ names ps) ++ name ∷ []) → IsItem (ps ++ (name, t) ∷ [])
more_from ps name t h = item_from (ps ++ (name, t) ∷ [])
    (subst (λ ns. IsSet text_order ([] ∷ ns)) (sym (names_more ps name t)) h)

more_to : (ps : List Pair) (name : List ℕ) (t : Tree) → IsItem (ps ++ (name, t) ∷ [])
    → IsSet text_order (([] ∷ names ps) ++ name ∷ [])
more_to ps name t h = subst (λ ns. IsSet text_order ([] ∷ ns)) (names_more ps name t)
    (item_to (ps ++ (name, t) ∷ []) h)

-- the name at a place
name_at : (ps : List Pair) (i : ℕ) (p : Pair) → Some p ≡ slice_get ps i
    → Some p.0 ≡ slice_get (names ps) i
name_at [] i p e = absurd (let f : ⊥ = cc in f)
name_at (q ∷ ps) zero p e = let f : p ≡ q = cc in ap (λ (r : Pair). Some r.0) f
name_at (q ∷ ps) (suc i) p e = name_at ps i p e

length-names : (ps : List Pair) → length (names ps) ≡ length ps
length-names [] = refl
length-names (p ∷ ps) = ap suc (length-names ps)

-- a name above the last one
pub item_more : (ps : List Pair) (i : ℕ) (l : Pair) (name : List ℕ) (t : Tree) → IsItem ps
    → i + 1 ≡ length ps → Some l ≡ slice_get ps i
    → text_order l.0 name ≡ Less → IsItem (ps ++ (name, t) ∷ [])
item_more ps i l name t h n e lt =
    more_from ps name t (rising_more text_order text_total ([] ∷ names ps) (suc i) l.0 name
    (item_to ps h) (omega (arith, n, length-names ps)) (name_at ps i l e) lt)

-- the first name is not empty
pub item_first : (ps : List Pair) (name : List ℕ) (t : Tree) → length ps ≡ 0
    → text_order [] name ≡ Less → IsItem (ps ++ (name, t) ∷ [])
item_first [] name t n lt = more_from [] name t
    (rising_more text_order text_total ([] ∷ []) 0 [] name tt refl refl lt)
item_first (p ∷ ps) name t n lt = absurd (omega (arith, n))

-- a next name is above the last one
pub name_above : (ps : List Pair) (i : ℕ) (l : Pair) (name : List ℕ) (t : Tree)
    → IsItem (ps ++ (name, t) ∷ []) → Some l ≡ slice_get ps i → text_order l.0 name ≡ Less
name_above ps i l name t h e = above_last text_order text_total ([] ∷ names ps) (suc i) l.0 name
    (more_to ps name t h) (name_at ps i l e)

-- and is none that is empty
pub name_some : (ps : List Pair) (name : List ℕ) (t : Tree) → IsItem (ps ++ (name, t) ∷ [])
    → text_order [] name ≡ Less
name_some ps name t h = above_last text_order text_total ([] ∷ names ps) 0 [] name
    (more_to ps name t h) refl

-- the value of the last name is of no concern
pub item_other : (ps : List Pair) (name : List ℕ) (t u : Tree) → IsItem (ps ++ (name, t) ∷ [])
    → IsItem (ps ++ (name, u) ∷ [])
item_other ps name t u h = more_from ps name u (more_to ps name t h)

-- the first of an item's pairs are an item
pub item_front : (ps qs : List Pair) → IsItem (ps ++ qs) → IsItem ps
item_front ps qs h =
    item_from ps (rising_front text_order text_total ([] ∷ names ps) (names qs)
    (subst (λ ns. IsSet text_order ([] ∷ ns)) (names_append ps qs) (item_to (ps ++ qs) h)))
  where
    names_append : (ps qs : List Pair) → names (ps ++ qs) ≡ names ps ++ names qs
    names_append [] qs = refl
    names_append (p ∷ ps) qs = ap (λ ns. p.0 ∷ ns) (names_append ps qs)

-- a pair that is put behind the others
put_last : (ps : List Pair) (name : List ℕ) (t : Tree) → IsSet text_order (names ps ++ name ∷ [])
    → put text_order name t ps ≡ ps ++ (name, t) ∷ []
put_last [] name t h = refl
put_last (p ∷ ps) name t h =
    let above : text_order name p.0 ≡ Greater =
    text_total.antisymm name p.0 ∙ ap ordering_reverse
    (below_last text_order text_total p.0 (names ps) name (first_holds _ _ h)) in
    rw above (ap (λ qs. p ∷ qs) (put_last ps name t (second_holds _ _ h)))

-- so a next name is put behind the others
pub with_pair-last : (ps : List Pair) (name : List ℕ) (t u : Tree) → IsItem (ps ++ (name, u) ∷ [])
    → with_pair name t ps ≡ ps ++ (name, t) ∷ []
with_pair-last ps name t u h = put_last ps name t (second_holds _ _ (more_to ps name u h))
