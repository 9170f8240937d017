-- The items of which an index is built after a step: those of before and the next ones.
use Rattle.std.proofs.Common.{◌≡◌, ◌≤◌, refl, sym, ap, subst, ◌∙◌, ℕ, zero, suc, Bool, true, false, cond, not, T, is_eq, is_lt, is_le, nat_le, List, [], ◌∷◌, map, take, length, Option, Some, None, All, arith}
use Rattle.std.proofs.lemmas.Bool.{leb-true}
use Rattle.std.proofs.lemmas.List.Elements.{All-cons, All-head, All-nil, All-tail, All-take}
use Rattle.std.specs.FinMap as finite
use Rattle.std.specs.FinMap.Entries.{below_all, find, find-where_key, is_sorted, is_sorted-where_key}
use Rattle.std.specs.List.{filter, last_or}
use Rattle.std.specs.Option.{option_map_or}
use Rattle.std.specs.Ordering.{eq_by_cmp, ordering_reverse}
use Rattle.std.specs.Prelude.{if◌then◌else◌}
use Rattle.std.specs.declared.cmp.Ordering.{Ordering}
use Rattle.std.specs.declared.cmp.Ordering.TheVariants.{Less, Equal, Greater}
use Rattle.alt_base.proofs.Bools.{both_hold, first_holds, second_holds}
use Rattle.alt_base.proofs.Orderings.{is_lt-holds}
use Rattle.alt_schema.specs.declared.schema.Built.{Built}
use Rattle.alt_schema.specs.declared.schema.Built.TheVariants.{Whole, UpTo}
use Rattle.alt_schema.specs.declared.schema.TableSchema.{TableSchema}
use Rattle.alt_value.specs.Members.{text_order}
use Rattle.alt_value.specs.Tree.{Pair}
use Rattle.alt_value.proofs.Texts.{text_total, text_apart}
use Rattle.alt_machine.specs.Building.{built_after, built_part, built_place, left_part, reaches}
use Rattle.alt_machine.specs.Lists.{key_attributes}
use Rattle.alt_machine.specs.State.{Texts}
use Rattle.alt_machine.specs.Valid.{IsStored}
use Rattle.alt_machine.specs.Writes.{with_item}
use Rattle.alt_machine.proofs.Building.{get-built_part}
use Rattle.alt_machine.proofs.BuiltKeys.{key_there}
use Rattle.alt_machine.proofs.Entries.{none_below}

-- items with their places
abbrev pub Placed : Type 0
Placed = List (List ℕ × List Pair)

-- ---- places in order

-- what is below a place that isn't above another is below that
below_to : (p q r : List ℕ) → text_order p q ≡ Less → is_le (text_order q r) ≡ true
    → is_le (text_order p r) ≡ true
below_to p q r low h = by (text_order q r) refl h
  where
    by : (o : Ordering) → text_order q r ≡ o → is_le o ≡ true → is_le (text_order p r) ≡ true
    by Less t g = ap is_le (text_total.trans p q r low t)
    by Equal t g = ap is_le (ap (text_order p) (sym (text_apart q r t)) ∙ low)
    by Greater t g = absurd (let f : ⊥ = cc in f)

module _ (d : TableSchema) where
  -- an index that is built of the item at a place is built of those before it
  reaches_below : (b : Built) (p q : List ℕ) → text_order p q ≡ Less → reaches d b q ≡ true
      → reaches d b p ≡ true
  reaches_below Whole p q low h = refl
  reaches_below (UpTo None) p q low h = absurd (let f : ⊥ = cc in f)
  reaches_below (UpTo (Some key)) p q low h = by (built_place d key) h
    where
      by : (o : Option (List ℕ)) → option_map_or (λ last. is_le (text_order q last)) o false ≡ true
          → option_map_or (λ last. is_le (text_order p last)) o false ≡ true
      by None g = absurd (let f : ⊥ = cc in f)
      by (Some last) g = below_to p q last low g

  -- so a place of which it is built is below one of which it isn't
  reached_before : (b : Built) (p q : List ℕ) → reaches d b p ≡ true → reaches d b q ≡ false
      → text_order p q ≡ Less
  reached_before b p q in_p off_q = by (text_order p q) refl
    where
      apart : true ≡ false → ⊥
      apart e = let f : ⊥ = cc in f

      by : (o : Ordering) → text_order p q ≡ o → o ≡ Less
      by Less t = refl
      by Equal t = absurd (apart (sym in_p ∙ ap (reaches d b) (text_apart p q t) ∙ off_q))
      by Greater t = absurd (apart (sym (reaches_below b q p
          (text_total.antisymm q p ∙ ap ordering_reverse t) in_p) ∙ off_q))

-- ---- lists in order

-- what is below one that is below all is below all
below_less : (q x : List ℕ) (es : Placed) → text_order q x ≡ Less → T (below_all text_order x es)
    → T (below_all text_order q es)
below_less q x [] low h = tt
below_less q x (e ∷ es) low h = both_hold (is_lt (text_order q e.0)) _
    (subst (λ o. T (is_lt o)) (sym (text_total.trans q x e.0 low
    (is_lt-holds (text_order x e.0) (first_holds (is_lt (text_order x e.0)) _ h)))) tt)
    (below_less q x es low (second_holds (is_lt (text_order x e.0)) _ h))

-- and below the first of them
below_taken : (x : List ℕ) (n : ℕ) (es : Placed) → T (below_all text_order x es)
    → T (below_all text_order x (take n es))
below_taken x zero es h = tt
below_taken x (suc n) [] h = tt
below_taken x (suc n) (e ∷ es) h = both_hold (is_lt (text_order x e.0)) _
    (first_holds (is_lt (text_order x e.0)) _ h)
    (below_taken x n es (second_holds (is_lt (text_order x e.0)) _ h))

-- and below the last
below_last : (x : List ℕ) (f : List ℕ × List Pair) (fs : Placed)
    → T (below_all text_order x (f ∷ fs)) → (e : List ℕ × List Pair)
    → last_or (Some f) fs ≡ Some e → text_order x e.0 ≡ Less
below_last x f [] h e is =
    let same : f ≡ e = cc in
    ap (λ (g : List ℕ × List Pair). text_order x g.0) (sym same)
    ∙ is_lt-holds (text_order x f.0) (first_holds (is_lt (text_order x f.0)) _ h)
below_last x f (g ∷ gs) h e is =
    below_last x g gs (second_holds (is_lt (text_order x f.0)) _ h) e is

-- the first of a list in order are in order
pub sorted_taken : (n : ℕ) (es : Placed) → T (is_sorted text_order es)
    → T (is_sorted text_order (take n es))
sorted_taken zero es h = tt
sorted_taken (suc n) [] h = tt
sorted_taken (suc n) (e ∷ es) h = both_hold (below_all text_order e.0 (take n es)) _
    (below_taken e.0 n es (first_holds (below_all text_order e.0 es) _ h))
    (sorted_taken n es (second_holds (below_all text_order e.0 es) _ h))

-- ---- the first of a list in order

-- the first so many entries of a list in order are those up to the last of them
find_take : (q : List ℕ) (es : Placed) (n : ℕ) (e : List ℕ × List Pair)
    → T (is_sorted text_order es) → last_or None (take n es) ≡ Some e
    → find text_order q (take n es)
    ≡ cond (is_le (text_order q e.0)) (find text_order q es) None
find_take q [] n e sorted is = absurd (nothing n is)
  where
    nothing : (k : ℕ) → last_or None (take k []) ≡ Some e → ⊥
    nothing zero g = let f : ⊥ = cc in f
    nothing (suc k) g = let f : ⊥ = cc in f
find_take q (x ∷ es) zero e sorted is = absurd (let f : ⊥ = cc in f)
find_take q (x ∷ es) (suc n) e sorted is = by (take n es) refl is
    (λ h. find_take q es n e (second_holds (below_all text_order x.0 es) _ sorted) h)
  where
    below : T (below_all text_order x.0 es)
    below = first_holds (below_all text_order x.0 es) _ sorted

    -- where that is the first alone
    alone : x ≡ e → cond (eq_by_cmp text_order q x.0) (Some x.1) None
        ≡ cond (is_le (text_order q e.0))
        (cond (eq_by_cmp text_order q x.0) (Some x.1) (find text_order q es)) None
    alone same = subst (λ (f : List ℕ × List Pair). cond (eq_by_cmp text_order q x.0) (Some x.1) None
        ≡ cond (is_le (text_order q f.0))
        (cond (eq_by_cmp text_order q x.0) (Some x.1) (find text_order q es)) None) same
        (at (text_order q x.0) refl)
      where
        at : (o : Ordering) → text_order q x.0 ≡ o → cond (is_eq o) (Some x.1) None
            ≡ cond (is_le o) (cond (is_eq o) (Some x.1) (find text_order q es)) None
        at Less t = sym (none_below q es (below_less q x.0 es t below))
        at Equal t = refl
        at Greater t = refl

    -- where others come behind it
    behind : (f : List ℕ × List Pair) (fs : Placed) → take n es ≡ f ∷ fs
        → last_or None (f ∷ fs) ≡ Some e
        → find text_order q (f ∷ fs) ≡ cond (is_le (text_order q e.0)) (find text_order q es) None
        → cond (eq_by_cmp text_order q x.0) (Some x.1) (find text_order q (f ∷ fs))
        ≡ cond (is_le (text_order q e.0))
        (cond (eq_by_cmp text_order q x.0) (Some x.1) (find text_order q es)) None
    behind f fs taken last rest = ap (cond (eq_by_cmp text_order q x.0) (Some x.1)) rest
        ∙ at (text_order q x.0) refl
      where
        low : text_order x.0 e.0 ≡ Less
        low = below_last x.0 f fs
            (subst (λ gs. T (below_all text_order x.0 gs)) taken (below_taken x.0 n es below)) e last

        at : (o : Ordering) → text_order q x.0 ≡ o
            → cond (is_eq o) (Some x.1) (cond (is_le (text_order q e.0)) (find text_order q es) None)
            ≡ cond (is_le (text_order q e.0)) (cond (is_eq o) (Some x.1) (find text_order q es)) None
        at Less t = refl
        at Equal t = ap (λ b. cond b (Some x.1) None)
            (sym (ap is_le (ap (λ p. text_order p e.0) (text_apart q x.0 t) ∙ low)))
        at Greater t = refl

    by : (fs : Placed) → take n es ≡ fs → last_or None (x ∷ fs) ≡ Some e
        → (last_or None (take n es) ≡ Some e → find text_order q (take n es)
        ≡ cond (is_le (text_order q e.0)) (find text_order q es) None)
        → cond (eq_by_cmp text_order q x.0) (Some x.1) (find text_order q (take n es))
        ≡ cond (is_le (text_order q e.0))
        (cond (eq_by_cmp text_order q x.0) (Some x.1) (find text_order q es)) None
    by [] taken last rest =
        ap (λ gs. cond (eq_by_cmp text_order q x.0) (Some x.1) (find text_order q gs)) taken
        ∙ alone (let same : x ≡ e = cc in same)
    by (f ∷ fs) taken last rest =
        ap (λ gs. cond (eq_by_cmp text_order q x.0) (Some x.1) (find text_order q gs)) taken
        ∙ behind f fs taken last (subst (λ gs. find text_order q gs
        ≡ cond (is_le (text_order q e.0)) (find text_order q es) None) taken
        (rest (ap (last_or None) taken ∙ last)))

-- ---- items with others

-- items with those too
abbrev pub with_all : Texts (List Pair) → Placed → Texts (List Pair)
with_all items [] = items
with_all items (e ∷ es) = with_all (with_item items e.0 (Some e.1)) es

-- the first of two that is there
abbrev or_else : Option (List Pair) → Option (List Pair) → Option (List Pair)
or_else None o = o
or_else (Some x) o = Some x

-- what stands there is one of those, or what stood
get-with_all : (items : Texts (List Pair)) (es : Placed) → T (is_sorted text_order es)
    → (q : List ℕ) → finite.get (with_all items es) q
    ≡ or_else (find text_order q es) (finite.get items q)
get-with_all items [] sorted q = refl
get-with_all items (e ∷ es) sorted q =
    get-with_all (with_item items e.0 (Some e.1)) es
    (second_holds (below_all text_order e.0 es) _ sorted) q
    ∙ ap (or_else (find text_order q es)) (finite.get-insert text_total items e.0 e.1 q)
    ∙ by (text_order q e.0) refl
  where
    by : (o : Ordering) → text_order q e.0 ≡ o
        → or_else (find text_order q es) (cond (is_eq o) (Some e.1) (finite.get items q))
        ≡ or_else (cond (is_eq o) (Some e.1) (find text_order q es)) (finite.get items q)
    by Less t = refl
    by Equal t = ap (λ o. or_else o (Some e.1)) (none_below q es
        (subst (λ n. T (below_all text_order n es)) (sym (text_apart q e.0 t))
        (first_holds (below_all text_order e.0 es) _ sorted)))
    by Greater t = refl

-- ---- a step

-- all of a list that has no more are taken
all_taken : (xs : Placed) (n : ℕ) → length xs ≤ n → take n xs ≡ xs
all_taken [] zero h = refl
all_taken [] (suc n) h = refl
all_taken (x ∷ xs) zero h = absurd (omega (arith, h))
all_taken (x ∷ xs) (suc n) h = ap (λ ys. x ∷ ys) (all_taken xs n (omega (arith, h)))

-- a list with a first element has a last one
last_there : (x : List ℕ × List Pair) (xs : Placed) → last_or (Some x) xs ≡ None → ⊥
last_there x [] e = let f : ⊥ = cc in f
last_there x (y ∷ ys) e = last_there y ys e

last_taken : (n : ℕ) (xs : Placed) → 1 ≤ n → 1 ≤ length xs → last_or None (take n xs) ≡ None → ⊥
last_taken zero xs h g e = omega (arith, h)
last_taken (suc n) [] h g e = omega (arith, g)
last_taken (suc n) (x ∷ xs) h g e = last_there x (take n xs) e

-- what holds of each holds of the last
last_has : (P : List ℕ × List Pair → Type 0) (x : List ℕ × List Pair) (xs : Placed) → P x
    → All P xs → (e : List ℕ × List Pair) → last_or (Some x) xs ≡ Some e → P e
last_has P x [] here h e is = subst P (let same : x ≡ e = cc in same) here
last_has P x (y ∷ ys) here h e is = last_has P y ys (All-head P y ys h) (All-tail P y ys h) e is

last_of : (P : List ℕ × List Pair → Type 0) (xs : Placed) → All P xs → (e : List ℕ × List Pair)
    → last_or None xs ≡ Some e → P e
last_of P [] h e is = absurd (let f : ⊥ = cc in f)
last_of P (x ∷ xs) h e is = last_has P x xs (All-head P x xs h) (All-tail P x xs h) e is

-- the last of what is made of each
last-map : (f : List ℕ × List Pair → List Pair) (x : List ℕ × List Pair) (xs : Placed)
    → (e : List ℕ × List Pair) → last_or (Some x) xs ≡ Some e
    → last_or (Some (f x)) (map f xs) ≡ Some (f e)
last-map f x [] e is = ap (λ o. Some (f o)) (let same : x ≡ e = cc in same)
last-map f x (y ∷ ys) e is = last-map f y ys e is

last_of-map : (f : List ℕ × List Pair → List Pair) (xs : Placed) (e : List ℕ × List Pair)
    → last_or None xs ≡ Some e → last_or None (map f xs) ≡ Some (f e)
last_of-map f [] e is = absurd (let g : ⊥ = cc in g)
last_of-map f (x ∷ xs) e is = last-map f x xs e is

module _ (d : TableSchema) (b : Built) where
  -- an item that is stored and of which an index isn't built
  abbrev IsLeft : List ℕ × List Pair → Type 0
  IsLeft e = IsStored d e.0 e.1 × (reaches d b e.0 ≡ false)

  are_left : (es : Placed) → All (λ (e : List ℕ × List Pair). IsStored d e.0 e.1) es
      → All IsLeft (filter (λ (e : List ℕ × List Pair). not (reaches d b e.0)) es)
  are_left [] h = All-nil IsLeft
  are_left (e ∷ es) h =
      let rest = are_left es (All-tail (λ (e : List ℕ × List Pair). IsStored d e.0 e.1) e es h) in
      elim (reaches d b e.0) as (λ c. reaches d b e.0 ≡ c → All IsLeft (cond (not c)
      (e ∷ filter (λ (e : List ℕ × List Pair). not (reaches d b e.0)) es)
      (filter (λ (e : List ℕ × List Pair). not (reaches d b e.0)) es))) [
        | true ↦ λ at. rest
        | false ↦ λ at. All-cons IsLeft e
            (filter (λ (e : List ℕ × List Pair). not (reaches d b e.0)) es)
            (All-head (λ (e : List ℕ × List Pair). IsStored d e.0 e.1) e es h, at) rest
      ] refl

  module _ (items : Texts (List Pair)) (most : ℕ) (some : 1 ≤ most)
      (stored : All (λ (e : List ℕ × List Pair). IsStored d e.0 e.1) (finite.entries items)) where
    abbrev more : Placed
    more = left_part d b items

    pub in_order : T (is_sorted text_order more)
    in_order = is_sorted-where_key text_order (λ q. not (reaches d b q)) (finite.entries items)
        (finite.entries_sorted items)

    find_left : (q : List ℕ)
        → find text_order q more ≡ cond (not (reaches d b q)) (finite.get items q) None
    find_left q = find-where_key text_order (λ p. not (reaches d b p)) q
        (λ x same. ap (λ p. not (reaches d b p)) (sym (text_apart q x same))) (finite.entries items)
        ∙ ap (λ o. cond (not (reaches d b q)) o None) (sym (finite.get-entries items q))

    -- an item of which it is built, or one that is left
    merged : (r : Bool) (o : Option (List Pair))
        → or_else (cond (not r) o None) (cond r o None) ≡ o
    merged true o = refl
    merged false None = refl
    merged false (Some x) = refl

    -- the same up to a place, which is behind those of which it is built
    merged_to : (r le : Bool) (o : Option (List Pair)) → (r ≡ true → le ≡ true)
        → or_else (cond le (cond (not r) o None) None) (cond r o None) ≡ cond le o None
    merged_to true true o h = refl
    merged_to true false o h = absurd (let e : false ≡ true = h refl in let f : ⊥ = cc in f)
    merged_to false true None h = refl
    merged_to false true (Some x) h = refl
    merged_to false false o h = refl

    abbrev key_of : List ℕ × List Pair → List Pair
    key_of e = key_attributes d None e.1

    -- where some are left after it
    to_place : (q : List ℕ) (e : List ℕ × List Pair) → last_or None (take most more) ≡ Some e
        → or_else (find text_order q (take most more)) (finite.get (built_part d b items) q)
        ≡ cond (reaches d (UpTo (last_or None (map key_of (take most more)))) q)
        (finite.get items q) None
    to_place q e last =
        let is : IsLeft e = last_of IsLeft (take most more)
        (All-take IsLeft most more (are_left (finite.entries items) stored)) e last in
        (λ j. or_else (find_take q more most e in_order last j) (get-built_part d b items q j))
        ∙ ap (λ o. or_else (cond (is_le (text_order q e.0)) o None)
        (cond (reaches d b q) (finite.get items q) None)) (find_left q)
        ∙ merged_to (reaches d b q) (is_le (text_order q e.0)) (finite.get items q)
        (λ r. ap is_le (reached_before d b q e.0 r is.1))
        ∙ ap (λ o. cond (option_map_or (λ to. is_le (text_order q to)) o false)
        (finite.get items q) None) (sym (key_there d e.0 e.1 is.0.stands))
        ∙ ap (λ o. cond (reaches d (UpTo o) q) (finite.get items q) None)
        (sym (last_of-map key_of (take most more) e last))

    -- What stands at a place among the items of which it is built after a step: what was before, or one of the next.
    pub get-built_after : (q : List ℕ)
        → finite.get (with_all (built_part d b items) (take most more)) q
        ≡ finite.get (built_part d (built_after d most more) items) q
    get-built_after q = get-with_all (built_part d b items) (take most more)
        (sorted_taken most more in_order) q
        ∙ by (nat_le (length more) most) refl
        ∙ sym (get-built_part d (built_after d most more) items q)
      where
        by : (c : Bool) → nat_le (length more) most ≡ c
            → or_else (find text_order q (take most more)) (finite.get (built_part d b items) q)
            ≡ cond (reaches d (if c then Whole
            else UpTo (last_or None (map key_of (take most more)))) q) (finite.get items q) None
        by true few =
            ap (λ es. or_else (find text_order q es) (finite.get (built_part d b items) q))
            (all_taken more most (leb-true (length more) most few))
            ∙ (λ j. or_else (find_left q j) (get-built_part d b items q j))
            ∙ merged (reaches d b q) (finite.get items q)
        by false many = by_last (last_or None (take most more)) refl
          where
            by_last : (o : Option (List ℕ × List Pair)) → last_or None (take most more) ≡ o
                → or_else (find text_order q (take most more)) (finite.get (built_part d b items) q)
                ≡ cond (reaches d (UpTo (last_or None (map key_of (take most more)))) q)
                (finite.get items q) None
            by_last None is = absurd (last_taken most more some
                (above most (length more) many) is)
              where
                above : (m n : ℕ) → nat_le n m ≡ false → 1 ≤ n
                above m n h = grind arith
            by_last (Some e) is = to_place q e is

    -- so these are the items with the next ones
    pub built_after-is : with_all (built_part d b items) (take most more)
        ≡ built_part d (built_after d most more) items
    built_after-is = finite.same_map text_total text_apart
        (with_all (built_part d b items) (take most more))
        (built_part d (built_after d most more) items) get-built_after
