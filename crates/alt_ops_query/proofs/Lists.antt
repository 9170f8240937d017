-- A walk over a range of places gives the list that a request asks for, where the range holds its items.
use Rattle.std.proofs.Common.{◌≡◌, refl, sym, ap, ◌∙◌, cond, ℕ, Bool, true, false, ◌&&◌, T, List, [], ◌∷◌, ◌++◌, map, reverse, Option, Some, None, All, append-nil}
use Rattle.std.specs.BTreeMap.Range.{range_contains}
use Rattle.std.specs.FinMap as finite
use Rattle.std.specs.FinMap.Entries.{below_all, find, is_sorted}
use Rattle.std.specs.List.{filter}
use Rattle.std.specs.Ordering.{eq_by_cmp}
use Rattle.std.specs.declared.ops.Bound.TheVariants.{Included}
use Rattle.std.proofs.lemmas.List.{reverse-append}
use Rattle.std.proofs.lemmas.List.Elements.{All-nil, All-cons, All-head, All-tail, filter-append}
use Rattle.alt_base.proofs.Bools.{first_holds, second_holds}
use Rattle.alt_cells.proofs.CellLaws.{key_total}
use Rattle.alt_cells.proofs.Entries.{find_below}
use Rattle.alt_cells.proofs.SameKeys.{key_itself, one_key}
use Rattle.alt_machine.specs.Lists.{listed}
use Rattle.alt_machine.specs.Sources.{items_of}
use Rattle.alt_machine.specs.State.{Table}
use Rattle.alt_machine.specs.Walks.{end_bound, is_beyond, items_between, placed_items, turned}
use Rattle.alt_ops_query.specs.Places.{HoldsListed, MayStand}
use Rattle.alt_schema.specs.declared.schema.IndexSchema.{IndexSchema}
use Rattle.alt_value.specs.Members.{text_order}
use Rattle.alt_value.specs.Tree.{Pair}

-- ---- filters

-- tests that agree on each element choose the same
pub filter_same : {A : Type 0} (p q : A → Bool) (xs : List A) → All (λ x. p x ≡ q x) xs
    → filter p xs ≡ filter q xs
filter_same p q [] all = refl
filter_same p q (x ∷ xs) all =
    let head = All-head (λ y. p y ≡ q y) x xs all in
    let rest = filter_same p q xs (All-tail (λ y. p y ≡ q y) x xs all) in
    λ i. cond (head i) (x ∷ rest i) (rest i)

-- what passes both tests passes the second of what passed the first
pub filter_both : {A : Type 0} (p q : A → Bool) (xs : List A)
    → filter (λ x. p x && q x) xs ≡ filter q (filter p xs)
filter_both p q [] = refl
filter_both p q (x ∷ xs) = by (p x) (filter_both p q xs)
  where
    by : (b : Bool) → filter (λ y. p y && q y) xs ≡ filter q (filter p xs)
        → cond (b && q x) (x ∷ filter (λ y. p y && q y) xs) (filter (λ y. p y && q y) xs)
        ≡ filter q (cond b (x ∷ filter p xs) (filter p xs))
    by true rest = ap (λ l. cond (q x) (x ∷ l) l) rest
    by false rest = rest

-- what passes of a reversed list is what passes of the list, reversed
filter-reverse : {A : Type 0} (p : A → Bool) (xs : List A)
    → filter p (reverse xs) ≡ reverse (filter p xs)
filter-reverse p [] = refl
filter-reverse p (x ∷ xs) = ap (filter p) (reverse-append (x ∷ []) xs)
    ∙ filter-append p (reverse xs) (x ∷ [])
    ∙ ap (λ l. l ++ cond (p x) (x ∷ []) []) (filter-reverse p xs) ∙ by (p x)
  where
    by : (b : Bool) → reverse (filter p xs) ++ cond b (x ∷ []) []
        ≡ reverse (cond b (x ∷ filter p xs) (filter p xs))
    by true = sym (reverse-append (x ∷ []) (filter p xs))
    by false = append-nil (reverse (filter p xs))

-- a walk the other way passes the same tests
pub filter-turned : {A : Type 0} (p : A → Bool) (forward : Bool) (xs : List A)
    → turned forward (filter p xs) ≡ filter p (turned forward xs)
filter-turned p true xs = refl
filter-turned p false xs = sym (filter-reverse p xs)

-- a test of the items of entries
items-filter : (test : List Pair → Bool) (es : List (List ℕ × List Pair))
    → map (λ e. e.1) (filter (λ e. test e.1) es) ≡ filter test (map (λ e. e.1) es)
items-filter test [] = refl
items-filter test (e ∷ es) = by (test e.1) (items-filter test es)
  where
    by : (b : Bool) → map (λ x. x.1) (filter (λ x. test x.1) es) ≡ filter test (map (λ x. x.1) es)
        → map (λ x. x.1) (cond b (e ∷ filter (λ x. test x.1) es) (filter (λ x. test x.1) es))
        ≡ cond b (e.1 ∷ filter test (map (λ x. x.1) es)) (filter test (map (λ x. x.1) es))
    by true rest = ap (λ l. e.1 ∷ l) rest
    by false rest = rest

-- ---- entries

-- what holds of each that is found holds of each entry
pub each_entry : (P : List ℕ × List Pair → Type 0) (es : List (List ℕ × List Pair))
    → T (is_sorted text_order es)
    → ((place : List ℕ) (item : List Pair) → find text_order place es ≡ Some item
    → P (place, item)) → All P es
each_entry P [] sorted found = All-nil P
each_entry P (e ∷ es) sorted found = All-cons P e es
    (found e.0 e.1 (ap (λ b. cond b (Some e.1) (find text_order e.0 es)) (key_itself e.0)))
    (each_entry P es (second_holds (below_all text_order e.0 es) _ sorted)
    (λ place item at. found place item (later place item at (eq_by_cmp text_order place e.0) refl)))
  where
    later : (place : List ℕ) (item : List Pair) → find text_order place es ≡ Some item → (b : Bool)
        → eq_by_cmp text_order place e.0 ≡ b → find text_order place (e ∷ es) ≡ Some item
    later place item at true same = absurd (let no : None ≡ Some item =
        sym (find_below text_order key_total e.0 es
        (first_holds _ (is_sorted text_order es) sorted))
        ∙ ap (λ q. find text_order q es) (sym (one_key place e.0 same)) ∙ at in cc no)
    later place item at false differs =
        ap (λ b. cond b (Some e.1) (find text_order place es)) differs ∙ at

-- ---- the list

module _ (t : Table) (i : Option IndexSchema) (stands : (place : List ℕ) (item : List Pair)
    → finite.get (items_of t i) place ≡ Some item → MayStand t.description i place item) where
  -- the range holds exactly the items of the list, as far as they are there
  pub items_between-listed : (forward : Bool) (start : Option (List ℕ)) (test : List Pair → Bool)
      (from : List ℕ) (to : Option (List ℕ))
      → HoldsListed forward start test t.description i from to
      → items_between t i from to forward ≡ listed forward start test t i
  items_between-listed forward start test from to holds =
      let es : List (List ℕ × List Pair) = placed_items t i in
      let agree = each_entry (λ e. range_contains text_order (Included from) (end_bound to) e.0
      ≡ (is_beyond forward start e.0 && test e.1)) es (finite.entries_sorted (items_of t i))
      (λ place item at. holds place item
      (stands place item (finite.get-entries (items_of t i) place ∙ at))) in
      ap (λ l. map (λ e. e.1) (turned forward l)) (filter_same _ _ es agree
      ∙ filter_both (λ e. is_beyond forward start e.0) (λ e. test e.1) es)
      ∙ ap (map (λ e. e.1)) (filter-turned (λ e. test e.1) forward
      (filter (λ e. is_beyond forward start e.0) es)
      ∙ ap (filter (λ e. test e.1)) (filter-turned (λ e. is_beyond forward start e.0) forward es))
      ∙ items-filter test (filter (λ e. is_beyond forward start e.0) (turned forward es))
