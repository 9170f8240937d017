-- The items of a range beyond the last of those that a step gave are the others.
use Rattle.std.proofs.Common.{◌≡◌, ◌≢◌, refl, sym, ap, subst, ◌∙◌, cond, ℕ, ◌<◌, Bool, true, false, not, ◌&&◌, T, List, [], ◌∷◌, ◌++◌, map, reverse, take, drop, length, Option, Some, None, All, append_assoc, take-append-drop, arith}
use Rattle.std.specs.BTreeMap.Range.{entries_between, range_contains}
use Rattle.std.specs.Cmp.{both_ways}
use Rattle.std.specs.Cmp.Lexicographic.{nat_list_cmp_total}
use Rattle.std.specs.FinMap as finite
use Rattle.std.specs.FinMap.Entries.{below_all, is_sorted}
use Rattle.std.specs.List.{filter, drop-map}
use Rattle.std.specs.declared.cmp.Ordering.{Ordering}
use Rattle.std.specs.declared.cmp.Ordering.TheVariants.{Less, Equal, Greater}
use Rattle.std.specs.declared.ops.Bound.TheVariants.{Included}
use Rattle.std.specs.Ordering.{is_lt, is_le, ordering_reverse}
use Rattle.std.proofs.lemmas.List.{reverse-append}
use Rattle.std.proofs.lemmas.List.Elements.{All-nil, All-cons, All-head, All-tail, All-append, All-filter}
use Rattle.std.proofs.lemmas.List.Sorted.{All-permutation, IsPermutation-reverse}
use Rattle.std.proofs.lemmas.Bool.{and_parts, and_from}
use Rattle.alt_base.proofs.Bools.{first_holds as first, second_holds}
use Rattle.alt_base.proofs.Lists.{filter-all}
use Rattle.alt_keyorder.specs.Range.{IsInRange}
use Rattle.alt_machine.specs.Sources.{items_of}
use Rattle.alt_machine.specs.State.{Table}
use Rattle.alt_machine.specs.Walks.{end_bound, is_beyond, items_between, placed_items, turned}
use Rattle.alt_ops_query.specs.private.Ranges.{IsBeyond}
use Rattle.alt_ops_query.proofs.Lists.{filter_same, filter_both, filter-turned}
use Rattle.alt_value.specs.Members.{text_order}
use Rattle.alt_schema.specs.declared.schema.IndexSchema.{IndexSchema}
use Rattle.alt_value.specs.Tree.{Pair}

-- an item with its place
abbrev Entry : Type 0
Entry = List ℕ × List Pair

-- ---- a range, as a test and as a fact

-- what is at most isn't `Greater`
le_not : (o : Ordering) → is_le o ≡ true → o ≢ Greater
le_not Less e = λ f. cc
le_not Equal e = λ f. cc
le_not Greater e = absurd (let f : ⊥ = cc in f)

-- and what isn't `Greater` is at most
not_le : (o : Ordering) → o ≢ Greater → is_le o ≡ true
not_le Less h = refl
not_le Equal h = refl
not_le Greater h = absurd (h refl)

-- what is more is less the other way round
over_less : (o : Ordering) → not (is_le o) ≡ true → ordering_reverse o ≡ Less
over_less Less e = absurd (let f : ⊥ = cc in f)
over_less Equal e = absurd (let f : ⊥ = cc in f)
over_less Greater e = refl

-- and what is less the other way round is more
less_over : (o : Ordering) → ordering_reverse o ≡ Less → not (is_le o) ≡ true
less_over Less e = absurd (let f : ⊥ = cc in f)
less_over Equal e = absurd (let f : ⊥ = cc in f)
less_over Greater e = refl

-- a key that a range is told to contain is in it
pub contains_so : (from : List ℕ) (to : Option (List ℕ)) (key : List ℕ)
    → range_contains text_order (Included from) (end_bound to) key ≡ true → IsInRange from to key
contains_so from None key e = (le_not (text_order from key) (and_parts _ _ e).0, tt)
contains_so from (Some to) key e =
    let both = and_parts (is_le (text_order from key)) (not (is_le (text_order to key))) e in (
      le_not (text_order from key) both.0,
      nat_list_cmp_total.antisymm key to ∙ over_less (text_order to key) both.1,
    )

-- and a range is told to contain each key that is in it
pub so_contains : (from : List ℕ) (to : Option (List ℕ)) (key : List ℕ) → IsInRange from to key
    → range_contains text_order (Included from) (end_bound to) key ≡ true
so_contains from None key h = and_from (is_le (text_order from key)) true
    (not_le (text_order from key) h.0) refl
so_contains from (Some to) key h =
    and_from (is_le (text_order from key)) (not (is_le (text_order to key)))
    (not_le (text_order from key) h.0)
    (less_over (text_order to key) (sym (nat_list_cmp_total.antisymm key to) ∙ h.1))

-- the test of the part beyond a place is both tests
pub contains_beyond : (forward : Bool) (place : Option (List ℕ)) (from : List ℕ)
    (to : Option (List ℕ)) (first : List ℕ) (last : Option (List ℕ))
    → IsBeyond forward place from to first last → (key : List ℕ)
    → range_contains text_order (Included first) (end_bound last) key
    ≡ (range_contains text_order (Included from) (end_bound to) key && is_beyond forward place key)
contains_beyond forward place from to first last beyond key = both_ways _ _
    (λ e.
    let both = (beyond key).0 (contains_so first last key e) in
    and_from _ _ (so_contains from to key both.0) both.1)
    (λ e.
    let both = and_parts _ _ e in
    so_contains first last key ((beyond key).1 (contains_so from to key both.0, both.1)))

-- ---- places in the order of a walk

-- a place is beyond another
abbrev After : Bool → Entry → Entry → Type 0
After forward e x = is_beyond forward (Some e.0) x.0 ≡ true

-- each entry is beyond those before it
AreOrdered : Bool → List Entry → Type 0
AreOrdered forward [] = Unit {0}
AreOrdered forward (e ∷ es) = All (After forward e) es × AreOrdered forward es

-- a key below the entries of a list is below each of them
all_below : (key : List ℕ) (es : List Entry) → T (below_all text_order key es)
    → All (λ x. is_lt (text_order key x.0) ≡ true) es
all_below key [] h = All-nil (λ (x : Entry). is_lt (text_order key x.0) ≡ true)
all_below key (e ∷ es) h = All-cons (λ (x : Entry). is_lt (text_order key x.0) ≡ true) e es
    (is_so (is_lt (text_order key e.0)) (first _ _ h))
    (all_below key es (second_holds (is_lt (text_order key e.0)) _ h))
  where
    is_so : (b : Bool) → T b → b ≡ true
    is_so true t = refl
    is_so false t = absurd t

-- entries whose places rise are in the order of a walk forward
sorted_ordered : (es : List Entry) → T (is_sorted text_order es) → AreOrdered true es
unfolding AreOrdered
sorted_ordered [] h = tt
sorted_ordered (e ∷ es) h = (
  all_below e.0 es (first _ (is_sorted text_order es) h),
  sorted_ordered es (second_holds (below_all text_order e.0 es) _ h),
)

-- entries in order stay so with one more that is beyond all of them
ordered_push : (forward : Bool) (xs : List Entry) (e : Entry) → AreOrdered forward xs
    → All (λ x. After forward x e) xs → AreOrdered forward (xs ++ e ∷ [])
unfolding AreOrdered
ordered_push forward [] e h all = (All-nil _, tt)
ordered_push forward (x ∷ xs) e h all = (
  All-append (After forward x) xs (e ∷ []) h.0
      (All-cons (After forward x) e [] (All-head (λ y. After forward y e) x xs all) (All-nil _)),
  ordered_push forward xs e h.1 (All-tail (λ y. After forward y e) x xs all),
)

-- turned round they are in the order of a walk backward
ordered_reverse : (es : List Entry) → AreOrdered true es → AreOrdered false (reverse es)
unfolding AreOrdered
ordered_reverse [] h = tt
ordered_reverse (e ∷ es) h = subst (AreOrdered false) (sym (reverse-append (e ∷ []) es))
    (ordered_push false (reverse es) e (ordered_reverse es h.1)
    (All-permutation (λ x. After false x e) es (reverse es) (IsPermutation-reverse es) h.0))

-- in either direction they are in its order
ordered_turned : (forward : Bool) (es : List Entry) → AreOrdered true es
    → AreOrdered forward (turned forward es)
ordered_turned true es h = h
ordered_turned false es h = ordered_reverse es h

-- those of them that pass a test are in order too
ordered_filter : (forward : Bool) (p : Entry → Bool) (es : List Entry) → AreOrdered forward es
    → AreOrdered forward (filter p es)
unfolding AreOrdered
ordered_filter forward p [] h = tt
ordered_filter forward p (e ∷ es) h = by (p e) (ordered_filter forward p es h.1)
    (All-filter p (After forward e) es h.0)
  where
    by : (b : Bool) → AreOrdered forward (filter p es) → All (After forward e) (filter p es)
        → AreOrdered forward (cond b (e ∷ filter p es) (filter p es))
    by true rest all = (all, rest)
    by false rest all = rest

-- ---- what is beyond one of them

-- an order that is told to be below isn't the other way round
reverse_not : (o : Ordering) → is_lt o ≡ true → is_lt (ordering_reverse o) ≡ false
reverse_not Less e = refl
reverse_not Equal e = absurd (let f : ⊥ = cc in f)
reverse_not Greater e = absurd (let f : ⊥ = cc in f)

-- an order that is the same the other way round isn't below
self_not : (o : Ordering) → o ≡ ordering_reverse o → is_lt o ≡ false
self_not Less e = absurd (let f : ⊥ = cc in f)
self_not Equal e = refl
self_not Greater e = refl

-- a place isn't beyond one that is beyond it
not_back : (forward : Bool) (x e : Entry) → After forward x e
    → is_beyond forward (Some e.0) x.0 ≡ false
not_back true x e h = ap is_lt (nat_list_cmp_total.antisymm e.0 x.0)
    ∙ reverse_not (text_order x.0 e.0) h
not_back false x e h = ap is_lt (nat_list_cmp_total.antisymm x.0 e.0)
    ∙ reverse_not (text_order e.0 x.0) h

-- and it isn't beyond itself
not_self : (forward : Bool) (e : Entry) → is_beyond forward (Some e.0) e.0 ≡ false
not_self true e = self_not (text_order e.0 e.0) (nat_list_cmp_total.antisymm e.0 e.0)
not_self false e = self_not (text_order e.0 e.0) (nat_list_cmp_total.antisymm e.0 e.0)

-- an entry of a list is beyond one that all of the list are beyond
middle : (forward : Bool) (x : Entry) (xs : List Entry) (e : Entry) (ys : List Entry)
    → All (After forward x) (xs ++ e ∷ ys) → After forward x e
middle forward x [] e ys all = All-head (After forward x) e ys all
middle forward x (z ∷ xs) e ys all =
    middle forward x xs e ys (All-tail (After forward x) z (xs ++ e ∷ ys) all)

-- of an ordered list it is what stands behind it
beyond_is : (forward : Bool) (xs : List Entry) (e : Entry) (ys : List Entry)
    → AreOrdered forward (xs ++ e ∷ ys)
    → filter (λ x. is_beyond forward (Some e.0) x.0) (xs ++ e ∷ ys) ≡ ys
unfolding AreOrdered
beyond_is forward [] e ys h =
    ap (λ b. cond b (e ∷ filter (λ x. is_beyond forward (Some e.0) x.0) ys)
    (filter (λ x. is_beyond forward (Some e.0) x.0) ys)) (not_self forward e)
    ∙ filter-all (λ x. is_beyond forward (Some e.0) x.0) ys h.0
beyond_is forward (x ∷ xs) e ys h =
    ap (λ b. cond b (x ∷ filter (λ z. is_beyond forward (Some e.0) z.0) (xs ++ e ∷ ys))
    (filter (λ z. is_beyond forward (Some e.0) z.0) (xs ++ e ∷ ys)))
    (not_back forward x e (middle forward x xs e ys h.0))
    ∙ beyond_is forward xs e ys h.1

-- ---- the last of a step

-- a list that isn't empty has a last element
pub record HasLast {A : Type 0} (xs : List A) : Type 0 where
  pub front : List A
  pub last : A
  pub is : xs ≡ front ++ last ∷ []

-- that is any list of one element or more
pub has_last : {A : Type 0} (xs : List A) → 0 < length xs → HasLast xs
has_last [] h = absurd (omega arith)
has_last (x ∷ []) h = record { front = []; last = x; is = refl }
has_last (x ∷ y ∷ ys) h =
    let rest = has_last (y ∷ ys) (omega arith) in
    record { front = x ∷ rest.front; last = rest.last; is = ap (λ l. x ∷ l) rest.is }

-- the entries of a range, in the order of a walk
unfoldable pub walked : Table → Option IndexSchema → List ℕ → Option (List ℕ) → Bool → List Entry
walked t i from to forward =
    turned forward (entries_between text_order (Included from) (end_bound to) (placed_items t i))

-- the items of a range are those of its entries, in the order of a walk
pub items_walked : (t : Table) (i : Option IndexSchema) (from : List ℕ) (to : Option (List ℕ))
    (forward : Bool)
    → items_between t i from to forward ≡ map (λ e. e.1) (walked t i from to forward)
unfolding walked
items_walked t i from to forward = refl

module _ (t : Table) (i : Option IndexSchema) (forward : Bool) (from : List ℕ)
    (to : Option (List ℕ)) (first : List ℕ)
    (last : Option (List ℕ)) where
  -- The part of a range beyond the last of the first so many of its items has the others.
  pub rest_is : (n : ℕ) (e : Entry) (front : List Entry)
      → take n (walked t i from to forward) ≡ front ++ e ∷ []
      → IsBeyond forward (Some e.0) from to first last
      → items_between t i first last forward ≡ drop n (items_between t i from to forward)
  unfolding walked
  rest_is n e front step beyond =
      let es : List Entry = placed_items t i in
      let all : List Entry = walked t i from to forward in
      let whole : all ≡ front ++ e ∷ drop n all =
      sym (take-append-drop n all) ∙ ap (λ l. l ++ drop n all) step
      ∙ append_assoc front (e ∷ []) (drop n all) in
      let ordered : AreOrdered forward all =
      ordered_turned forward (entries_between text_order (Included from) (end_bound to) es)
      (ordered_filter true (λ x. range_contains text_order (Included from) (end_bound to) x.0) es
      (sorted_ordered es (finite.entries_sorted (items_of t i)))) in
      ap (λ l. map (λ x. x.1) (turned forward l))
      (filter_same (λ x. range_contains text_order (Included first) (end_bound last) x.0)
      (λ x. range_contains text_order (Included from) (end_bound to) x.0
      && is_beyond forward (Some e.0) x.0) es (all_same
      (λ x. range_contains text_order (Included first) (end_bound last) x.0
      ≡ (range_contains text_order (Included from) (end_bound to) x.0
      && is_beyond forward (Some e.0) x.0)) es
      (λ x. contains_beyond forward (Some e.0) from to first last
      beyond x.0))
      ∙ filter_both (λ x. range_contains text_order (Included from) (end_bound to) x.0)
      (λ x. is_beyond forward (Some e.0) x.0) es)
      ∙ ap (map (λ x. x.1)) (filter-turned (λ x. is_beyond forward (Some e.0) x.0) forward
      (entries_between text_order (Included from) (end_bound to) es)
      ∙ ap (filter (λ x. is_beyond forward (Some e.0) x.0)) whole
      ∙ beyond_is forward front e (drop n all) (subst (AreOrdered forward) whole ordered))
      ∙ sym (drop-map (λ x. x.1) n all)
    where
      all_same : (P : Entry → Type 0) (xs : List Entry) → ((x : Entry) → P x) → All P xs
      all_same P [] h = All-nil P
      all_same P (x ∷ xs) h = All-cons P x xs (h x) (all_same P xs h)
