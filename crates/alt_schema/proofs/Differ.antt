-- Whether names differ: from a place of a list on, and with one more behind.
use Rattle.std.proofs.Common.{◌≡◌, refl, sym, ap, ◌∙◌, ◌<◌, ◌+◌, ℕ, suc, true, false, not, ◌&&◌, ◌||◌, List, [], ◌∷◌, ◌++◌, length, drop, get_or, add-one}
use Rattle.std.specs.Cmp.Lexicographic.{nat_list_eq_equiv}
use Rattle.std.specs.List.{list_any}
use Rattle.std.specs.Str.{bytes_eq}
use Rattle.std.proofs.Math.Seq.{drop-cons}
use Rattle.std.proofs.lemmas.List.Folds.{list_any-append}
use Rattle.std.proofs.lemmas.Bool.{or_parts, or_from, not-true}
use Rattle.std.specs.Cmp.{first_so, second_so}
use Rattle.alt_schema.specs.Rules.{is_defined, all_differ}
use Rattle.alt_description.specs.declared.schema.KeyAttr.{KeyAttr}

module _ {A : Type 0} (name : A → List ℕ) where
  at_front : (xs ys : List A) (i : ℕ) (x : A) → i < length xs → x ≡ get_or xs i x → drop i xs ++ ys
      ≡ x ∷ (drop (i + 1) xs ++ ys)
  at_front xs ys i x within at =
      ap (λ zs. zs ++ ys) (drop-cons xs i x within) ∙ ap (λ y. y ∷ (drop (suc i) xs ++ ys)) (sym at)
      ∙ ap (λ n. x ∷ (drop n xs ++ ys)) (sym (add-one i))

  -- one whose name comes again
  pub same_again : (xs ys : List A) (i : ℕ) (x : A) → i < length xs → x ≡ get_or xs i x
      → (list_any (λ y. bytes_eq (name y) (name x)) (drop (i + 1) xs)
      || list_any (λ y. bytes_eq (name y) (name x)) ys) ≡ true
      → all_differ name (drop i xs ++ ys) ≡ false
  same_again xs ys i x within at again =
      ap (all_differ name) (at_front xs ys i x within at)
      ∙ ap (λ b. not b && all_differ name (drop (i + 1) xs ++ ys))
      (list_any-append (λ y. bytes_eq (name y) (name x)) (drop (i + 1) xs) ys ∙ again)

  -- one whose name doesn't
  pub other_name : (xs ys : List A) (i : ℕ) (x : A) → i < length xs → x ≡ get_or xs i x
      → (list_any (λ y. bytes_eq (name y) (name x)) (drop (i + 1) xs)
      || list_any (λ y. bytes_eq (name y) (name x)) ys) ≡ false
      → all_differ name (drop i xs ++ ys) ≡ all_differ name (drop (i + 1) xs ++ ys)
  other_name xs ys i x within at other =
      ap (all_differ name) (at_front xs ys i x within at)
      ∙ ap (λ b. not b && all_differ name (drop (i + 1) xs ++ ys))
      (list_any-append (λ y. bytes_eq (name y) (name x)) (drop (i + 1) xs) ys ∙ other)

-- ---- definitions, one behind others

-- one more whose name is new
pub differ_more : (before : List KeyAttr) (d : KeyAttr) → all_differ (λ k. k.name) before ≡ true
    → is_defined before d.name ≡ false
    → all_differ (λ k. k.name) (before ++ d ∷ []) ≡ true
differ_more [] d h new = refl
differ_more (b ∷ before) d h new =
    let e = or_parts (bytes_eq b.name d.name) (is_defined before d.name) new in
    let none : list_any (λ y. bytes_eq y.name b.name) (before ++ d ∷ []) ≡ false =
    last_other before b d (not-true _ (first_so _ _ h)) e.0 in
    λ j. not (none j) && differ_more before d (second_so _ _ h) e.1 j
  where
    last_other : (xs : List KeyAttr) (b d : KeyAttr) → list_any (λ y. bytes_eq y.name b.name) xs
        ≡ false → bytes_eq b.name d.name ≡ false
        → list_any (λ y. bytes_eq y.name b.name) (xs ++ d ∷ []) ≡ false
    last_other [] b d h e = or_from _ false (nat_list_eq_equiv.symm d.name b.name ∙ e) refl
    last_other (x ∷ xs) b d h e =
        let f = or_parts (bytes_eq x.name b.name)
        (list_any (λ y. bytes_eq y.name b.name) xs) h in
        or_from _ _ f.0 (last_other xs b d f.1 e)

-- the name of one that follows isn't that of one before
pub not_before : (before : List KeyAttr) (d : KeyAttr) (ds : List KeyAttr)
    → all_differ (λ k. k.name) (before ++ d ∷ ds) ≡ true → is_defined before d.name ≡ false
not_before [] d ds h = refl
not_before (b ∷ before) d ds h =
    or_from _ _ (nat_list_eq_equiv.symm b.name d.name
    ∙ later before b d ds (not-true _ (first_so _ _ h))) (not_before before d ds (second_so _ _ h))
  where
    later : (xs : List KeyAttr) (b d : KeyAttr) (ds : List KeyAttr)
        → list_any (λ y. bytes_eq y.name b.name) (xs ++ d ∷ ds) ≡ false → bytes_eq d.name b.name
        ≡ false
    later [] b d ds h = (or_parts (bytes_eq d.name b.name)
        (list_any (λ y. bytes_eq y.name b.name) ds) h).0
    later (x ∷ xs) b d ds h = later xs b d ds
        (or_parts (bytes_eq x.name b.name)
        (list_any (λ y. bytes_eq y.name b.name) (xs ++ d ∷ ds)) h).1
