-- The names at which two items differ, found place by place.
use Rattle.std.proofs.Common.{◌≡◌, ◌<◌, ◌+◌, ◌⊎◌, inl, inr, refl, sym, ap, subst, ◌∙◌, ℕ, zero, suc, Bool, true, false, cond, List, [], ◌∷◌, ◌++◌, map, length, take, get_or, slice_get, Option, Some, None, Bor, add-one, arith}
use Rattle.std.proofs.Math.Seq.{take-length}
use Rattle.std.proofs.lemmas.Bool.{false≢true, or_right}
use Rattle.std.proofs.lemmas.List.Folds.{list_any-append}
use Rattle.std.proofs.lemmas.Slice.Eq.{bytes_eq-Decides}
use Rattle.std.specs.Prelude.{◌||◌, is_some, unwrap_or}
use Rattle.std.specs.List.{list_any}
use Rattle.std.specs.Ordering.{eq_by_cmp}
use Rattle.std.specs.Str.{bytes_eq}
use Rattle.alt_base.proofs.Bools.{neither_first, neither_second}
use Rattle.alt_base.proofs.Lists.{bytes_eq-itself}
use Rattle.alt_schema.specs.Indexes.{stands_among_names}
use Rattle.alt_value.specs.Item.{IsItem, at_name}
use Rattle.alt_value.specs.Members.{text_order}
use Rattle.alt_value.specs.Tree.{Tree, Pair}
use Rattle.alt_value.proofs.TextTies.{text_ties}
use Rattle.alt_views.specs.private.Changed.{AreAlikeBeside}

-- ---- names that pass a test

-- Where an element passes, one of the list does.
pub passes_here : {A B : Type 0} (f : A → B) (test : B → Bool) (xs : List A) (k : ℕ) (d : A)
    → k < length xs → test (f (get_or xs k d)) ≡ true → list_any test (map f xs) ≡ true
passes_here f test [] k d within passes = absurd (omega (arith, within))
passes_here f test (x ∷ xs) zero d within passes =
    ap (λ b. b || list_any test (map f xs)) passes
passes_here f test (x ∷ xs) (suc k) d within passes = or_right (test (f x)) _
    (passes_here f test xs k d (omega (arith, within)) passes)

-- ---- names at which items differ

-- the names as they are told
abbrev pub told : List (Bor (List ℕ)) → List (List ℕ)
told names = map (λ n. n.now) names

-- an attribute at a name that isn't among these has the property
abbrev pub HoldsBeside : List (List ℕ) → (List ℕ → Tree → Type 0) → List Pair → Type 0
HoldsBeside names P ps =
    (q : List ℕ) (t : Tree) → stands_among_names names q ≡ false → at_name q ps ≡ Some t → P q t

-- what is found in one place more was found before or stands there
found_more : (ps : List Pair) (k : ℕ) (e : Pair) (q : List ℕ) (t : Tree)
    → slice_get ps k ≡ Some e → at_name q (take (suc k) ps) ≡ Some t
    → (at_name q (take k ps) ≡ Some t) ⊎ ((q ≡ e.0) × (e.1 ≡ t))
found_more [] k e q t at found = absurd (let no : None ≡ Some e = at in cc no)
found_more (p ∷ ps) zero e q t at found =
    let here : p ≡ e = ap (λ o. unwrap_or o p) at in
    subst (λ (x : Pair). (None ≡ Some t) ⊎ ((q ≡ x.0) × (x.1 ≡ t))) here
    (by (eq_by_cmp text_order q p.0) refl found)
  where
    by : (b : Bool) → eq_by_cmp text_order q p.0 ≡ b → cond b (Some p.1) None ≡ Some t
        → (None ≡ Some t) ⊎ ((q ≡ p.0) × (p.1 ≡ t))
    by true tie found =
        let same : bytes_eq q p.0 ≡ true = sym (text_ties q p.0) ∙ tie in
        inr ((grind (arith, same, bytes_eq-Decides)), ap (λ o. unwrap_or o p.1) found)
    by false tie found = inl found
found_more (p ∷ ps) (suc k) e q t at found =
    by (λ found. found_more ps k e q t at found) (eq_by_cmp text_order q p.0) found
  where
    by : (at_name q (take (suc k) ps) ≡ Some t
        → (at_name q (take k ps) ≡ Some t) ⊎ ((q ≡ e.0) × (e.1 ≡ t)))
        → (b : Bool) → cond b (Some p.1) (at_name q (take (suc k) ps)) ≡ Some t
        → (cond b (Some p.1) (at_name q (take k ps)) ≡ Some t) ⊎ ((q ≡ e.0) × (e.1 ≡ t))
    by rest true found = inl found
    by rest false found = rest found

module _ (names : List (List ℕ)) (P : List ℕ → Tree → Type 0) where
  -- a name more leaves fewer
  pub beside-more : (ps : List Pair) (n : List ℕ) → HoldsBeside names P ps
      → HoldsBeside (names ++ n ∷ []) P ps
  beside-more ps n h = λ q t free found. h q t
      (neither_first (stands_among_names names q) _
      (sym (list_any-append (λ other. bytes_eq other q) names (n ∷ [])) ∙ free)) found

  module _ (ps : List Pair) (k : ℕ) (e : Pair) (at : Some e ≡ slice_get ps k)
      (h : HoldsBeside names P (take k ps)) where
    -- an attribute more has the property
    pub holds-more : P e.0 e.1 → HoldsBeside names P (take (k + 1) ps)
    holds-more here = λ q t free found.
        by q t free (found_more ps k e q t (sym at)
        (subst (λ n. at_name q (take n ps) ≡ Some t) (add-one k) found))
      where
        by : (q : List ℕ) (t : Tree) → stands_among_names names q ≡ false
            → (at_name q (take k ps) ≡ Some t) ⊎ ((q ≡ e.0) × (e.1 ≡ t)) → P q t
        by q t free (inl before) = h q t free before
        by q t free (inr is) = subst (λ v. P q v) is.1 (subst (λ n. P n e.1) (sym is.0) here)

    -- or its name is told
    pub told-more : HoldsBeside (names ++ e.0 ∷ []) P (take (k + 1) ps)
    told-more = λ q t free found.
        by q t (sym (list_any-append (λ other. bytes_eq other q) names (e.0 ∷ [])) ∙ free)
        (found_more ps k e q t (sym at)
        (subst (λ n. at_name q (take n ps) ≡ Some t) (add-one k) found))
      where
        by : (q : List ℕ) (t : Tree) → (stands_among_names names q || (bytes_eq e.0 q || false)) ≡ false
            → (at_name q (take k ps) ≡ Some t) ⊎ ((q ≡ e.0) × (e.1 ≡ t)) → P q t
        by q t free (inl before) = h q t (neither_first (stands_among_names names q) _ free) before
        by q t free (inr is) = absurd (false≢true
            (sym (neither_first (bytes_eq e.0 q) _ (neither_second (stands_among_names names q) _ free))
            ∙ ap (bytes_eq e.0) is.0 ∙ bytes_eq-itself e.0))

-- the old item has the value that the new one has at a name
abbrev pub IsOld : List Pair → List ℕ → Tree → Type 0
IsOld old q t = at_name q old ≡ Some t

-- the new item has one at it
abbrev pub IsNamed : List Pair → List ℕ → Tree → Type 0
IsNamed new q t = is_some (at_name q new) ≡ true

-- Items of which each has what the other has beside these names are alike there.
pub alike_beside : (names : List (List ℕ)) (old new : List Pair) (k m : ℕ) → IsItem old
    → IsItem new → length new ≡ m → length old ≡ k → HoldsBeside names (IsOld old) (take m new)
    → HoldsBeside names (IsNamed new) (take k old) → AreAlikeBeside names old new
alike_beside names old new k m old_item new_item all_new all_old stays named = record {
  old_item = old_item;
  new_item = new_item;
  values = λ q free. by q free (at_name q new) refl (at_name q old) refl;
}
  where
    by : (q : List ℕ) → stands_among_names names q ≡ false → (n : Option Tree) → at_name q new ≡ n
        → (o : Option Tree) → at_name q old ≡ o → at_name q old ≡ at_name q new
    by q free (Some t) is o was = stays q t free
        (ap (at_name q) (ap (λ x. take x new) (sym all_new) ∙ take-length new) ∙ is) ∙ sym is
    by q free None is None was = was ∙ sym is
    by q free None is (Some t) was = absurd (false≢true (ap is_some (sym is) ∙ named q t free
        (ap (at_name q) (ap (λ x. take x old) (sym all_old) ∙ take-length old) ∙ was)))
