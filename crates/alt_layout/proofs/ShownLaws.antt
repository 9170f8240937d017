-- The rows that are shown, in the order of their keys.
use Rattle.std.proofs.Common.{◌≡◌, ◌-◌, ◌∷◌, ◌++◌, ℕ, Bool, true, false, cond, T, List, [], reverse, Option, Some, None, refl, sym, ap, subst, ◌∙◌, arith}
use Rattle.std.proofs.lemmas.List.{append-nil, reverse-append}
use Rattle.std.proofs.lemmas.List.Elements.{filter_map-append}
use Rattle.std.specs.Prelude.{if◌then◌else◌, option_and_then, option_map}
use Rattle.std.specs.FinMap.{entries, entries_sorted, get, get-entries, get-from_sorted}
use Rattle.std.specs.FinMap.Entries.{find, is_sorted, below_all}
use Rattle.std.specs.List.{filter, cons_option}
use Rattle.std.specs.Ordering.{eq_by_cmp, is_eq}
use Rattle.alt_base.proofs.Bools.{both_hold, first_holds, second_holds}
use Rattle.alt_base.proofs.Orderings.{is_eq-holds}
use Rattle.alt_cells.specs.Changes.{Columns}
use Rattle.alt_cells.specs.Keys.{key_cmp}
use Rattle.alt_cells.specs.Shown.{row_shown}
use Rattle.alt_cells.specs.Walks.{turned}
use Rattle.alt_cells.proofs.CellLaws.{key_total, key_exact}
use Rattle.alt_cells.proofs.Entries.{find_below}
use Rattle.alt_layout.specs.Layout.{Layout, entry_by, shown_of, shown, shown_rows}

-- ---- entries whose rows show something

module _ {X : Type 0} (f : X → Option Columns) where
  -- a key below all
  below-shown : (k : List ℕ) (es : List (List ℕ × X)) → T (below_all key_cmp k es)
      → T (below_all key_cmp k (shown_of f es))
  below-shown k [] h = tt
  below-shown k (e ∷ es) h = by (below-shown k es (second_holds _ _ h)) (f e.1)
    where
      by : T (below_all key_cmp k (shown_of f es)) → (o : Option Columns) → T (below_all key_cmp k
          (cons_option (option_map (λ c. (e.0, c)) o) (shown_of f es)))
      by rest None = rest
      by rest (Some c) = both_hold _ _ (first_holds _ _ h) rest

  -- they are in order
  pub is_sorted-shown : (es : List (List ℕ × X)) → T (is_sorted key_cmp es)
      → T (is_sorted key_cmp (shown_of f es))
  is_sorted-shown [] h = tt
  is_sorted-shown (e ∷ es) h = by (is_sorted-shown es (second_holds _ _ h)) (f e.1)
    where
      by : T (is_sorted key_cmp (shown_of f es)) → (o : Option Columns) → T (is_sorted key_cmp
          (cons_option (option_map (λ c. (e.0, c)) o) (shown_of f es)))
      by rest None = rest
      by rest (Some c) = both_hold _ _ (below-shown e.0 es (first_holds _ _ h)) rest

  -- and are found by their keys
  pub find-shown : (q : List ℕ) (es : List (List ℕ × X)) → T (is_sorted key_cmp es)
      → find key_cmp q (shown_of f es) ≡ option_and_then f (find key_cmp q es)
  find-shown q [] h = refl
  find-shown q (e ∷ es) h =
      by (find-shown q es (second_holds _ _ h)) (f e.1) refl (eq_by_cmp key_cmp q e.0) refl
    where
      none : eq_by_cmp key_cmp q e.0 ≡ true → find key_cmp q (shown_of f es) ≡ None
      none tied = ap (λ (k : List ℕ). find key_cmp k (shown_of f es))
          (key_exact q e.0 (is_eq-holds _ (subst T (sym tied) tt)))
          ∙ find_below key_cmp key_total e.0 (shown_of f es)
          (below-shown e.0 es (first_holds _ _ h))

      by : find key_cmp q (shown_of f es) ≡ option_and_then f (find key_cmp q es)
          → (o : Option Columns) → f e.1 ≡ o → (b : Bool) → eq_by_cmp key_cmp q e.0 ≡ b
          → find key_cmp q (cons_option (option_map (λ c. (e.0, c)) o) (shown_of f es))
          ≡ option_and_then f (cond b (Some e.1) (find key_cmp q es))
      by rest None is false other = rest
      by rest None is true tied = none tied ∙ sym is
      by rest (Some c) is false other =
          ap (λ b. cond b (Some c) (find key_cmp q (shown_of f es))) other
          ∙ rest
      by rest (Some c) is true tied =
          ap (λ b. cond b (Some c) (find key_cmp q (shown_of f es))) tied
          ∙ sym is

  -- those in a range of keys
  pub shown-filter : (p : List ℕ → Bool) (es : List (List ℕ × X))
      → shown_of f (filter (λ e. p e.0) es) ≡ filter (λ e. p e.0) (shown_of f es)
  shown-filter p [] = refl
  shown-filter p (e ∷ es) = by (shown-filter p es) (p e.0) refl (f e.1) refl
    where
      by : shown_of f (filter (λ e. p e.0) es) ≡ filter (λ e. p e.0) (shown_of f es)
          → (b : Bool) → p e.0 ≡ b → (o : Option Columns) → f e.1 ≡ o
          → shown_of f (if b then e ∷ filter (λ e. p e.0) es else filter (λ e. p e.0) es)
          ≡ filter (λ e. p e.0) (cons_option (option_map (λ c. (e.0, c)) o) (shown_of f es))
      by rest true is None non = ap (λ o. cons_option (option_map (λ c. (e.0, c)) o)
          (shown_of f (filter (λ e. p e.0) es))) non ∙ rest
      by rest true is (Some c) yes_some = ap (λ o. cons_option (option_map (λ c. (e.0, c)) o)
          (shown_of f (filter (λ e. p e.0) es))) yes_some
          ∙ ap (λ l. (e.0, c) ∷ l) (rest)
          ∙ sym (ap (λ b. if b then (e.0, c) ∷ filter (λ e. p e.0) (shown_of f es)
          else filter (λ e. p e.0) (shown_of f es)) is)
      by rest false is None non = rest
      by rest false is (Some c) yes_some = rest
          ∙ sym (ap (λ b. if b then (e.0, c) ∷ filter (λ e. p e.0) (shown_of f es)
          else filter (λ e. p e.0) (shown_of f es)) is)

  -- from the back
  shown-reverse : (es : List (List ℕ × X)) → shown_of f (reverse es) ≡ reverse (shown_of f es)
  shown-reverse [] = refl
  shown-reverse (e ∷ es) =
      ap (shown_of f) (reverse-append (e ∷ []) es)
      ∙ filter_map-append (entry_by f) (reverse es) (e ∷ [])
      ∙ ap (λ l. l ++ shown_of f (e ∷ [])) (shown-reverse es) ∙ by (f e.1)
    where
      by : (o : Option Columns) → reverse (shown_of f es)
          ++ cons_option (option_map (λ c. (e.0, c)) o) []
          ≡ reverse (cons_option (option_map (λ c. (e.0, c)) o) (shown_of f es))
      by None = append-nil (reverse (shown_of f es))
      by (Some c) = sym (reverse-append ((e.0, c) ∷ []) (shown_of f es))

  -- either way
  pub shown-turned : (forward : Bool) (es : List (List ℕ × X))
      → shown_of f (turned forward es) ≡ turned forward (shown_of f es)
  shown-turned true es = refl
  shown-turned false es = shown-reverse es

-- ---- the rows of a layout

-- the rows that a family shows are found by their keys
pub get-shown_rows : (l : Layout) (family : ℕ) (key : List ℕ)
    → get (shown_rows l family) key ≡ shown l family key
unfolding shown_rows
get-shown_rows l family key =
    get-from_sorted key_cmp _ key
    (is_sorted-shown row_shown (entries (l.rows family)) (entries_sorted (l.rows family)))
    ∙ find-shown row_shown key (entries (l.rows family)) (entries_sorted (l.rows family))
    ∙ ap (option_and_then row_shown) (sym (get-entries (l.rows family) key))
