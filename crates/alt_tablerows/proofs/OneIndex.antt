-- One index of a list: the one that passes a test, and the one of a family.
use Rattle.std.proofs.Common.{◌≡◌, ◌≢◌, refl, sym, ap, subst, ◌∙◌, ℕ, zero, suc, ◌≤◌, ◌<◌, ◌+◌, Bool, true, false, cond, List, [], ◌∷◌, ◌++◌, length, map as each, Some, None, get_or, take, slice_get, All, AllPairs, arith}
use Rattle.std.proofs.lemmas.Bool.{false≢true}
use Rattle.std.proofs.lemmas.List.{take_more}
use Rattle.std.proofs.lemmas.List.Elements.{All-head, All-tail}
use Rattle.std.proofs.lemmas.Option.{same_Some}
use Rattle.std.specs.List.{filter, find}
use Rattle.alt_machine.proofs.Inserted.{head_pairs, tail_pairs}
use Rattle.alt_schema.specs.declared.schema.IndexSchema.{IndexSchema}

-- ---- one that passes

module _ {A : Type 0} (p : A → Bool) where
  -- the first that passes stands there
  pub found_at : (xs : List A) (x : A) → find p xs ≡ Some x
      → (n : ℕ) × (slice_get xs n ≡ Some x) × (p x ≡ true)
  found_at [] x e = absurd (let no : ⊥ = cc in no)
  found_at (y ∷ ys) x e = by (λ f. found_at ys x f) (p y) refl e
    where
      by : (find p ys ≡ Some x → (n : ℕ) × (slice_get ys n ≡ Some x) × (p x ≡ true)) → (b : Bool)
          → p y ≡ b → cond b (Some y) (find p ys) ≡ Some x
          → (n : ℕ) × (slice_get (y ∷ ys) n ≡ Some x) × (p x ≡ true)
      by later true c f = (0, f, subst (λ z. p z ≡ true) (same_Some y x f) c)
      by later false c f = let (n, at, passes) = later f in (suc n, at, passes)

  -- where none in front passes, the first that passes is one that does
  pub found_next : (xs : List A) (k : ℕ) (x d : A) → k < length xs → find p (take k xs) ≡ None
      → x ≡ get_or xs k d → p x ≡ true → find p xs ≡ Some x
  found_next [] k x d within none at e = absurd (omega (arith, within))
  found_next (y ∷ ys) zero x d within none at e =
      ap (λ b. cond b (Some y) (find p ys)) (ap p (sym at) ∙ e) ∙ ap Some (sym at)
  found_next (y ∷ ys) (suc k) x d within none at e =
      by (λ h. found_next ys k x d (omega (arith, within)) h at e) (p y) none
    where
      by : (find p (take k ys) ≡ None → find p ys ≡ Some x) → (b : Bool)
          → cond b (Some y) (find p (take k ys)) ≡ None → cond b (Some y) (find p ys) ≡ Some x
      by later true h = absurd (let no : ⊥ = cc in no)
      by later false h = later h

  -- and none does up to one that doesn't
  pub none_next : (xs : List A) (k : ℕ) (x d : A) → k < length xs → find p (take k xs) ≡ None
      → x ≡ get_or xs k d → p x ≡ false → find p (take (k + 1) xs) ≡ None
  none_next xs k x d within none at e = ap (find p) (take_more xs k d within)
      ∙ none_both (take k xs) none (ap p (sym at) ∙ e)
    where
      none_both : (ys : List A) → find p ys ≡ None → p (get_or xs k d) ≡ false
          → find p (ys ++ get_or xs k d ∷ []) ≡ None
      none_both [] h fails = ap (λ b. cond b (Some (get_or xs k d)) None) fails
      none_both (y ∷ ys) h fails = by (λ g. none_both ys g fails) (p y) h
        where
          by : (find p ys ≡ None → find p (ys ++ get_or xs k d ∷ []) ≡ None) → (b : Bool)
              → cond b (Some y) (find p ys) ≡ None
              → cond b (Some y) (find p (ys ++ get_or xs k d ∷ [])) ≡ None
          by later true g = absurd (let f : ⊥ = cc in f)
          by later false g = later g

  -- what passes is one of those that do
  pub passes_counted : (xs : List A) (n : ℕ) (x : A) → slice_get xs n ≡ Some x → p x ≡ true
      → 1 ≤ length (filter p xs)
  passes_counted [] n x at e = absurd (let no : ⊥ = cc in no)
  passes_counted (y ∷ ys) n x at e = by (λ k f. passes_counted ys k x f e) n at (p y) refl
    where
      by : ((k : ℕ) → slice_get ys k ≡ Some x → 1 ≤ length (filter p ys)) → (k : ℕ)
          → slice_get (y ∷ ys) k ≡ Some x → (b : Bool) → p y ≡ b
          → 1 ≤ length (cond b (y ∷ filter p ys) (filter p ys))
      by later k f true c = omega arith
      by later zero f false c = absurd (false≢true (sym c ∙ ap p (same_Some y x f) ∙ e))
      by later (suc k) f false c = later k f

  -- where no two pass, what passes is the first that does
  pub only_one : (xs : List A) → length (filter p xs) ≤ 1 → (x : A) → find p xs ≡ Some x → (n : ℕ)
      (z : A) → slice_get xs n ≡ Some z → p z ≡ true → z ≡ x
  only_one [] few x e n z at passes = absurd (let no : ⊥ = cc in no)
  only_one (y ∷ ys) few x e n z at passes =
      by (λ h f k g. only_one ys h x f k z g passes) n at (p y) refl few e
    where
      by : (length (filter p ys) ≤ 1 → find p ys ≡ Some x → (k : ℕ) → slice_get ys k ≡ Some z → z ≡ x)
          → (k : ℕ) → slice_get (y ∷ ys) k ≡ Some z → (b : Bool) → p y ≡ b
          → length (cond b (y ∷ filter p ys) (filter p ys)) ≤ 1
          → cond b (Some y) (find p ys) ≡ Some x → z ≡ x
      by later zero g true c h f = sym (same_Some y z g) ∙ same_Some y x f
      by later (suc k) g true c h f =
          absurd (omega (arith, h, passes_counted ys k z g passes))
      by later zero g false c h f = absurd (false≢true (sym c ∙ ap p (same_Some y z g) ∙ passes))
      by later (suc k) g false c h f = later h f k g

-- what stands in a list stands in it behind another
pub behind_any : {A : Type 0} (xs ys : List A) (n : ℕ) (x : A) → slice_get ys n ≡ Some x
    → (m : ℕ) × (slice_get (xs ++ ys) m ≡ Some x)
behind_any [] ys n x at = (n, at)
behind_any (z ∷ zs) ys n x at = let (m, here) = behind_any zs ys n x at in (suc m, here)

-- ---- one of a family

abbrev pub family_in : IndexSchema → ℕ
family_in i = i.family

-- what holds of each family holds of that at a place
family_holds : (P : ℕ → Type 0) (is : List IndexSchema) (n : ℕ) (i : IndexSchema)
    → All P (each family_in is) → slice_get is n ≡ Some i → P i.family
family_holds P [] n i all at = absurd (let no : ⊥ = cc in no)
family_holds P (x ∷ xs) zero i all at =
    subst (λ (y : IndexSchema). P y.family) (same_Some x i at)
    (All-head P x.family (each family_in xs) all)
family_holds P (x ∷ xs) (suc n) i all at =
    family_holds P xs n i (All-tail P x.family (each family_in xs) all) at

-- where no two indexes have one family, those that have one are one
pub one_of_family : (is : List IndexSchema) → AllPairs (λ f g. f ≢ g) (each family_in is)
    → (n m : ℕ) (x y : IndexSchema) → slice_get is n ≡ Some x → slice_get is m ≡ Some y
    → x.family ≡ y.family → x ≡ y
one_of_family [] apart n m x y at_x at_y same = absurd (let no : ⊥ = cc in no)
one_of_family (z ∷ zs) apart zero zero x y at_x at_y same =
    sym (same_Some z x at_x) ∙ same_Some z y at_y
one_of_family (z ∷ zs) apart zero (suc m) x y at_x at_y same =
    absurd (family_holds (λ g. z.family ≢ g) zs m y
    (head_pairs (λ f g. f ≢ g) z.family (each family_in zs) apart) at_y
    (ap family_in (same_Some z x at_x) ∙ same))
one_of_family (z ∷ zs) apart (suc n) zero x y at_x at_y same =
    absurd (family_holds (λ g. z.family ≢ g) zs n x
    (head_pairs (λ f g. f ≢ g) z.family (each family_in zs) apart) at_x
    (ap family_in (same_Some z y at_y) ∙ sym same))
one_of_family (z ∷ zs) apart (suc n) (suc m) x y at_x at_y same =
    one_of_family zs (tail_pairs (λ f g. f ≢ g) z.family (each family_in zs) apart) n m x y at_x
    at_y same
