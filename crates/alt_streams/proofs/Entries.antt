-- What is found among the entries of a finite map by texts, which rise by their keys.
use Rattle.std.proofs.Common.{◌≡◌, refl, sym, ap, ◌∙◌, ℕ, Bool, true, false, cond, T, List, [], ◌∷◌, map, Some, None}
use Rattle.std.proofs.lemmas.Option.{same_Some}
use Rattle.std.specs.List.{filter, find}
use Rattle.std.specs.Ordering.{eq_by_cmp, is_eq}
use Rattle.std.specs.FinMap.Entries.{find as at_key, is_sorted, below_all}
use Rattle.alt_base.proofs.Bools.{first_holds, second_holds}
use Rattle.alt_base.proofs.Orderings.{is_lt-holds}
use Rattle.alt_value.specs.Members.{text_order}
use Rattle.alt_value.proofs.TextTies.{text_itself, one_text}

module _ {X : Type 0} where
  -- a key below all isn't found
  find_below : (q : List ℕ) (es : List (List ℕ × X)) → T (below_all text_order q es)
      → at_key text_order q es ≡ None
  find_below q [] h = refl
  find_below q (e ∷ es) h =
      ap (λ r. cond (is_eq r) (Some e.1) (at_key text_order q es))
      (is_lt-holds _ (first_holds _ _ h))
      ∙ find_below q es (second_holds _ _ h)

  -- what is found behind an entry is found with it
  pub behind : (e : List ℕ × X) (es : List (List ℕ × X)) → T (is_sorted text_order (e ∷ es))
      → (k : List ℕ) (x : X) → at_key text_order k es ≡ Some x
      → at_key text_order k (e ∷ es) ≡ Some x
  behind e es sorted k x at = by (eq_by_cmp text_order k e.0) refl
    where
      by : (b : Bool) → eq_by_cmp text_order k e.0 ≡ b
          → cond b (Some e.1) (at_key text_order k es) ≡ Some x
      by true same =
          absurd (let no : None ≡ Some x = sym (find_below e.0 es (first_holds _ _ sorted))
          ∙ ap (λ q. at_key text_order q es) (sym (one_text k e.0 same)) ∙ at in cc no)
      by false other = at

  -- an entry is found by its key
  pub here : (e : List ℕ × X) (es : List (List ℕ × X))
      → at_key text_order e.0 (e ∷ es) ≡ Some e.1
  here e es = ap (λ b. cond b (Some e.1) (at_key text_order e.0 es)) (text_itself e.0)

  module _ (p : X → Bool) where
    -- those that pass a test stand at one key
    abbrev Only : List ℕ → List (List ℕ × X) → Type 0
    Only k es = (j : List ℕ) (y : X) → at_key text_order j es ≡ Some y → p y ≡ true → j ≡ k

    only_behind : (k : List ℕ) (e : List ℕ × X) (es : List (List ℕ × X))
        → T (is_sorted text_order (e ∷ es)) → Only k (e ∷ es) → Only k es
    only_behind k e es sorted only j y at is = only j y (behind e es sorted j y at) is

    by_test : (k : List ℕ) (x : X) (e : List ℕ × X) (es : List (List ℕ × X))
        → at_key text_order k (e ∷ es) ≡ Some x → p x ≡ true → Only k (e ∷ es)
        → (at_key text_order k es ≡ Some x → find p (map (λ e. e.1) es) ≡ Some x)
        → (b : Bool) → p e.1 ≡ b → cond b (Some e.1) (find p (map (λ e. e.1) es)) ≡ Some x
    by_test k x e es at is only rest true same = sym (here e es)
        ∙ ap (λ q. at_key text_order q (e ∷ es)) (only e.0 e.1 (here e es) same) ∙ at
    by_test k x e es at is only rest false same = by_key (eq_by_cmp text_order k e.0) refl at
      where
        by_key : (b : Bool) → eq_by_cmp text_order k e.0 ≡ b
            → cond b (Some e.1) (at_key text_order k es) ≡ Some x
            → find p (map (λ e. e.1) es) ≡ Some x
        by_key true tied here_so = absurd (let one : e.1 ≡ x = same_Some _ _ here_so in
            let no : false ≡ true = sym same ∙ ap p one ∙ is in cc no)
        by_key false other there = rest there

    -- where one passes a test, and only at its key, it is the first
    pub found_only : (k : List ℕ) (x : X) (es : List (List ℕ × X)) → T (is_sorted text_order es)
        → at_key text_order k es ≡ Some x → p x ≡ true → Only k es
        → find p (map (λ e. e.1) es) ≡ Some x
    found_only k x [] sorted at is only = absurd (let no : None ≡ Some x = at in cc no)
    found_only k x (e ∷ es) sorted at is only = by_test k x e es at is only
        (λ there. found_only k x es (second_holds _ _ sorted) there is
        (only_behind k e es sorted only))
        (p e.1) refl

    -- where none passes it, there is none
    pub found_none : (es : List (List ℕ × X)) → T (is_sorted text_order es)
        → ((j : List ℕ) (y : X) → at_key text_order j es ≡ Some y → p y ≡ true → ⊥)
        → find p (map (λ e. e.1) es) ≡ None
    found_none [] sorted never = refl
    found_none (e ∷ es) sorted never = by (p e.1) refl
        (found_none es (second_holds _ _ sorted)
        (λ j y at is. never j y (behind e es sorted j y at) is))
      where
        by : (b : Bool) → p e.1 ≡ b → find p (map (λ e. e.1) es) ≡ None
            → cond b (Some e.1) (find p (map (λ e. e.1) es)) ≡ None
        by true same rest = absurd (never e.0 e.1 (here e es) same)
        by false same rest = rest

  -- tests that agree on all that is found choose the same
  pub chosen_alike : (p q : X → Bool) (es : List (List ℕ × X)) → T (is_sorted text_order es)
      → ((j : List ℕ) (y : X) → at_key text_order j es ≡ Some y → p y ≡ q y)
      → filter p (map (λ e. e.1) es) ≡ filter q (map (λ e. e.1) es)
  chosen_alike p q [] sorted alike = refl
  chosen_alike p q (e ∷ es) sorted alike =
      let rest = chosen_alike p q es (second_holds _ _ sorted)
      (λ j y at. alike j y (behind e es sorted j y at)) in
      (λ i. cond (alike e.0 e.1 (here e es) i) (e.1 ∷ rest i) (rest i))
