-- Lists that rise by their names: those that pass a test behind a name, each from the one before.
use Rattle.std.proofs.Common.{◌≡◌, refl, sym, ap, subst, ◌∙◌, ℕ, Bool, true, false, cond, T, List, [], ◌∷◌, map, Some, None, option_map, slice_get}
use Rattle.std.proofs.lemmas.Option.{same_Some}
use Rattle.std.specs.Bool.{passes}
use Rattle.std.specs.List.{filter, find}
use Rattle.std.specs.declared.cmp.Ordering.TheVariants.{Less}
use Rattle.std.specs.Ordering.{is_lt}
use Rattle.std.specs.Cmp.{tied_itself}
use Rattle.std.specs.FinMap.Entries.{is_sorted, below_all}
use Rattle.alt_base.proofs.Bools.{both_hold, first_holds, holds_true, second_holds}
use Rattle.alt_base.proofs.Orderings.{less-holds, is_lt-holds, not_lt_either}
use Rattle.alt_value.specs.Members.{text_order}
use Rattle.alt_value.proofs.Texts.{text_total}

-- a key below another is below all that are above that
below_less : {X : Type 0} (last k : List ℕ) (es : List (List ℕ × X)) → text_order last k ≡ Less
    → T (below_all text_order k es) → T (below_all text_order last es)
below_less last k [] l h = h
below_less last k (e ∷ es) l h = both_hold _ _
    (less-holds _ (text_total.trans last k e.0 l (is_lt-holds _ (first_holds _ _ h))))
    (below_less last k es l (second_holds _ _ h))

-- ---- the first

-- the first that passes a test is the first of all that pass
pub find-filter : {X : Type 0} (p : X → Bool) (xs : List X) → find p xs ≡ slice_get (filter p xs) 0
find-filter p [] = refl
find-filter p (x ∷ xs) = by (p x) (find-filter p xs)
  where
    by : (b : Bool) → find p xs ≡ slice_get (filter p xs) 0
        → cond b (Some x) (find p xs) ≡ slice_get (cond b (x ∷ filter p xs) (filter p xs)) 0
    by true rest = refl
    by false rest = rest

-- what is found passes the test
pub found_passes : {X : Type 0} (p : X → Bool) (x : X) (xs : List X)
    → find p xs ≡ Some x → p x ≡ true
found_passes p x [] e = absurd (let no : None ≡ Some x = e in cc no)
found_passes p x (y ∷ xs) e = by (p y) refl e (found_passes p x xs)
  where
    by : (b : Bool) → p y ≡ b → cond b (Some y) (find p xs) ≡ Some x
        → (find p xs ≡ Some x → p x ≡ true) → p x ≡ true
    by true same e rest = ap p (sym (same_Some y x e)) ∙ same
    by false same e rest = rest e

module _ {X : Type 0} (name : X → List ℕ) where
  -- each beside its name
  abbrev pub keyed : List X → List (List ℕ × X)
  keyed xs = map (λ x. (name x, x)) xs

  -- their names rise
  abbrev pub Rises : List X → Type 0
  Rises xs = T (is_sorted text_order (keyed xs))

  -- the first whose name passes is found by its key
  pub find-keyed : (g : List ℕ → Bool) (xs : List X)
      → option_map (λ e. e.1) (find (λ e. g e.0) (keyed xs)) ≡ find (λ x. g (name x)) xs
  find-keyed g [] = refl
  find-keyed g (x ∷ xs) = by (g (name x)) (find-keyed g xs)
    where
      by : (b : Bool)
          → option_map (λ (e : List ℕ × X). e.1) (find (λ e. g e.0) (keyed xs))
          ≡ find (λ x. g (name x)) xs
          → option_map (λ (e : List ℕ × X). e.1)
          (cond b (Some (name x, x)) (find (λ e. g e.0) (keyed xs)))
          ≡ cond b (Some x) (find (λ x. g (name x)) xs)
      by true rest = refl
      by false rest = rest

  -- a test of whether the name is behind another, and of what has it, which nothing passes whose name isn't behind
  module _ (test : Bool → X → Bool) (off : (x : X) → test false x ≡ false) where
    abbrev is_behind : List ℕ → X → Bool
    is_behind last x = is_lt (text_order last (name x))

    abbrev listed : List ℕ → X → Bool
    listed last x = test (is_behind last x) x

    abbrev chosen : List ℕ → List X → List X
    chosen last xs = filter (listed last) xs

    -- behind a name that is below all
    above : (k : List ℕ) (xs : List X) → T (below_all text_order k (keyed xs))
        → chosen k xs ≡ filter (test true) xs
    above k [] h = refl
    above k (x ∷ xs) h =
        let lt : is_behind k x ≡ true = holds_true _ (first_holds _ _ h) in
        let rest = above k xs (second_holds _ _ h) in
        (λ i. cond (test (lt i) x) (x ∷ rest i) (rest i))

    above_less : (last k : List ℕ) (xs : List X) → text_order last k ≡ Less
        → T (below_all text_order k (keyed xs)) → chosen last xs ≡ chosen k xs
    above_less last k xs l h = above last xs (below_less last k (keyed xs) l h) ∙ sym (above k xs h)

    itself : (x : X) → listed (name x) x ≡ false
    itself x = ap (λ r. test (is_lt r) x) (tied_itself text_total (name x)) ∙ off x

    -- what isn't behind a name isn't behind a larger one
    not_behind : (last k : List ℕ) (y : X) → text_order last k ≡ Less → is_behind last y ≡ false
        → is_behind k y ≡ false
    not_behind last k y l e = not_lt_either _ _ (λ m. text_total.trans last k (name y) l m) e

    passed_over : (last k : List ℕ) (y : X) → text_order last k ≡ Less → listed last y ≡ false
        → listed k y ≡ false
    passed_over last k y l e = by (is_behind last y) refl
      where
        by : (b : Bool) → is_behind last y ≡ b → listed k y ≡ false
        by false same = ap (λ c. test c y) (not_behind last k y l same) ∙ off y
        by true same = by_next (is_behind k y) refl
          where
            by_next : (c : Bool) → is_behind k y ≡ c → listed k y ≡ false
            by_next false other = ap (λ c. test c y) other ∙ off y
            by_next true other = ap (λ c. test c y) (other ∙ sym same) ∙ e

    -- one behind a name
    behind_name : (last : List ℕ) (x : X) → listed last x ≡ true → text_order last (name x) ≡ Less
    behind_name last x e = by (is_behind last x) refl
      where
        by : (b : Bool) → is_behind last x ≡ b → text_order last (name x) ≡ Less
        by true same = is_lt-holds _ (passes _ same)
        by false same = absurd (let no : false ≡ true =
            sym (ap (λ c. test c x) same ∙ off x) ∙ e in cc no)

    -- the first of them, and then those behind it
    abbrev Next : List ℕ → X → List X → Type 0
    Next last x xs = (text_order last (name x) ≡ Less) × (chosen last xs ≡ x ∷ chosen (name x) xs)

    here_next : (last : List ℕ) (x : X) (xs : List X) → Rises (x ∷ xs) → listed last x ≡ true
        → Next last x (x ∷ xs)
    here_next last x xs s e =
        let l = behind_name last x e in (
          l,
          ap (λ b. cond b (x ∷ chosen last xs) (chosen last xs)) e
              ∙ ap (λ zs. x ∷ zs) (above_less last (name x) xs l (first_holds _ _ s))
              ∙ sym (ap (λ b. x ∷ cond b (x ∷ chosen (name x) xs) (chosen (name x) xs)) (itself x)),
        )

    later_next : (last : List ℕ) (x y : X) (xs : List X) → listed last y ≡ false → Next last x xs
        → Next last x (y ∷ xs)
    later_next last x y xs e n = (
      n.0,
      ap (λ b. cond b (y ∷ chosen last xs) (chosen last xs)) e ∙ n.1
          ∙ sym (ap (λ b. x ∷ cond b (y ∷ chosen (name x) xs) (chosen (name x) xs))
          (passed_over last (name x) y n.0 e)),
    )

    next : (last : List ℕ) (x : X) (xs : List X) → Rises xs → find (listed last) xs ≡ Some x
        → Next last x xs
    next last x [] s e = absurd (let no : None ≡ Some x = e in cc no)
    next last x (y ∷ xs) s e = by (listed last y) refl e (next last x xs (second_holds _ _ s))
      where
        by : (b : Bool) → listed last y ≡ b → cond b (Some y) (find (listed last) xs) ≡ Some x
            → (find (listed last) xs ≡ Some x → Next last x xs) → Next last x (y ∷ xs)
        by true same found rest = subst (λ z. Next last z (y ∷ xs)) (same_Some y x found)
            (here_next last y xs s same)
        by false same found rest = later_next last x y xs same (rest found)

    pub chosen_next : (last : List ℕ) (x : X) (xs : List X) → Rises xs
        → find (listed last) xs ≡ Some x → chosen last xs ≡ x ∷ chosen (name x) xs
    chosen_next last x xs s e = (next last x xs s e).1

    -- ---- a walk from one name to the next

    -- the next name is of one that passes the test
    pub walk_found : (last : List ℕ) (x : X) (xs : List X) → find (is_behind last) xs ≡ Some x
        → test true x ≡ true → find (listed last) xs ≡ Some x
    walk_found last x [] e is = e
    walk_found last x (y ∷ xs) e is = by (is_behind last y) refl e (λ f. walk_found last x xs f is)
      where
        by : (b : Bool) → is_behind last y ≡ b
            → cond b (Some y) (find (is_behind last) xs) ≡ Some x
            → (find (is_behind last) xs ≡ Some x → find (listed last) xs ≡ Some x)
            → cond (listed last y) (Some y) (find (listed last) xs) ≡ Some x
        by true same found rest =
            let one : y ≡ x = same_Some y x found in
            ap (λ b. cond b (Some y) (find (listed last) xs))
            (ap (λ b. test b y) same ∙ ap (test true) one ∙ is) ∙ found
        by false same found rest =
            ap (λ b. cond b (Some y) (find (listed last) xs)) (ap (λ b. test b y) same ∙ off y)
            ∙ rest found

    -- or of one that doesn't, and then the walk goes on behind it
    chosen_on : (last : List ℕ) (x : X) (xs : List X) → Rises xs
        → find (is_behind last) xs ≡ Some x → test true x ≡ false
        → chosen last xs ≡ chosen (name x) xs
    chosen_on last x [] s e is = refl
    chosen_on last x (y ∷ xs) s e is =
        by (is_behind last y) refl e (λ f. chosen_on last x xs (second_holds _ _ s) f is)
      where
        by : (b : Bool) → is_behind last y ≡ b
            → cond b (Some y) (find (is_behind last) xs) ≡ Some x
            → (find (is_behind last) xs ≡ Some x → chosen last xs ≡ chosen (name x) xs)
            → cond (listed last y) (y ∷ chosen last xs) (chosen last xs)
            ≡ cond (listed (name x) y) (y ∷ chosen (name x) xs) (chosen (name x) xs)
        by true same found rest =
            let one : y ≡ x = same_Some y x found in
            ap (λ b. cond b (y ∷ chosen last xs) (chosen last xs))
            (ap (λ b. test b y) same ∙ ap (test true) one ∙ is)
            ∙ above_less last (name y) xs (is_lt-holds _ (passes _ same)) (first_holds _ _ s)
            ∙ sym (ap (λ b. cond b (y ∷ chosen (name y) xs) (chosen (name y) xs)) (itself y))
            ∙ ap (λ z. cond (listed (name z) y) (y ∷ chosen (name z) xs) (chosen (name z) xs)) one
        by false same found rest =
            let l : text_order last (name x) ≡ Less =
            is_lt-holds _ (passes _ (found_passes (is_behind last) x xs found)) in
            ap (λ b. cond b (y ∷ chosen last xs) (chosen last xs)) (ap (λ b. test b y) same ∙ off y)
            ∙ rest found
            ∙ sym (ap (λ b. cond b (y ∷ chosen (name x) xs) (chosen (name x) xs))
            (ap (λ b. test b y) (not_behind last (name x) y l same) ∙ off y))

    pub walk_on : (last : List ℕ) (x : X) (xs : List X) → Rises xs
        → find (is_behind last) xs ≡ Some x → test true x ≡ false
        → find (listed last) xs ≡ find (listed (name x)) xs
    walk_on last x xs s e is = find-filter (listed last) xs
        ∙ ap (λ zs. slice_get zs 0) (chosen_on last x xs s e is)
        ∙ sym (find-filter (listed (name x)) xs)

    -- or there is none
    pub walk_none : (last : List ℕ) (xs : List X) → find (is_behind last) xs ≡ None
        → find (listed last) xs ≡ None
    walk_none last [] e = refl
    walk_none last (y ∷ xs) e = by (is_behind last y) refl e (walk_none last xs)
      where
        by : (b : Bool) → is_behind last y ≡ b
            → cond b (Some y) (find (is_behind last) xs) ≡ None
            → (find (is_behind last) xs ≡ None → find (listed last) xs ≡ None)
            → cond (listed last y) (Some y) (find (listed last) xs) ≡ None
        by true same found rest = absurd (let no : Some y ≡ None = found in cc no)
        by false same found rest =
            ap (λ b. cond b (Some y) (find (listed last) xs)) (ap (λ b. test b y) same ∙ off y)
            ∙ rest found

-- ---- entries beside what is made of them

module _ {X Y : Type 0} (f : List ℕ × X → Y) where
  abbrev each : List (List ℕ × X) → List (List ℕ × Y)
  each es = map (λ e. (e.0, f e)) es

  below-each : (k : List ℕ) (es : List (List ℕ × X)) → T (below_all text_order k es)
      → T (below_all text_order k (each es))
  below-each k [] h = h
  below-each k (e ∷ es) h = both_hold _ _ (first_holds _ _ h) (below-each k es (second_holds _ _ h))

  -- entries that rise by their keys rise as they are listed
  pub sorted-each : (es : List (List ℕ × X)) → T (is_sorted text_order es)
      → T (is_sorted text_order (each es))
  sorted-each [] h = h
  sorted-each (e ∷ es) h =
      both_hold _ _ (below-each e.0 es (first_holds _ _ h)) (sorted-each es (second_holds _ _ h))
