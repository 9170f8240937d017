-- The place of the first of two lists' elements that passes a test.
use Rattle.std.proofs.Common.{◌≡◌, refl, sym, ap, subst, ◌∙◌, ℕ, suc, ◌+◌, ◌<◌, Bool, true, false, cond, not, nat_lt, List, [], ◌∷◌, ◌++◌, length, Option, Some, None, option_map, arith, slice_get, ◌&&◌}
use Rattle.std.specs.Prelude.{IfSome, unwrap_or}
use Rattle.std.specs.List.{position, position_or_len}
use Rattle.std.proofs.lemmas.Bool.{ltb-true}
use Rattle.std.proofs.lemmas.Bool.Decides.{nat_tests}
use Rattle.std.proofs.lemmas.Grind.{common_steps}
use Rattle.alt_schema.specs.Bare.{is_whole}
use Rattle.alt_schema.specs.Indexes.{indexes, is_named, is_read_as}
use Rattle.alt_schema.specs.declared.schema.TableSchema.{TableSchema}
use Rattle.alt_views.specs.Readable.{CanRead}

-- the place in both lists, from those in each
abbrev pub in_both : Option ℕ → ℕ → Option ℕ → Option ℕ
in_both (Some i) n r = Some i
in_both None n r = option_map (λ i. n + i) r

module _ {X : Type 0} (p : X → Bool) where
  -- a place in a list, with one more in front
  later : (a n : ℕ) → cond (nat_lt (1 + a) (suc n)) (Some (1 + a)) None
      ≡ option_map suc (cond (nat_lt a n) (Some a) None)
  later a n = grind (arith, nat_tests, common_steps)

  position-cons : (x : X) (xs : List X) → position p (x ∷ xs)
      ≡ cond (p x) (Some 0) (option_map suc (position p xs))
  position-cons x xs =
      elim (p x) as (λ b. cond (nat_lt (cond (not b) (1 + position_or_len p xs) 0)
      (suc (length xs))) (Some (cond (not b) (1 + position_or_len p xs) 0)) None
      ≡ cond b (Some 0) (option_map suc (position p xs))) [
        | true ↦ grind (arith, nat_tests)
        | false ↦ later (position_or_len p xs) (length xs)
      ]

  shifted : (o r : Option ℕ) (n : ℕ) → option_map suc (in_both o n r)
      ≡ in_both (option_map suc o) (suc n) r
  shifted (Some i) r n = refl
  shifted None (Some j) n = ap Some (omega arith)
  shifted None None n = refl

  -- the place in two lists, one behind the other
  pub position-append : (xs ys : List X) → position p (xs ++ ys)
      ≡ in_both (position p xs) (length xs) (position p ys)
  position-append [] ys = elim (position p ys) as (λ r. r ≡ option_map (λ i. 0 + i) r)
      [ Some i ↦ ap Some (omega arith) | None ↦ refl ]
  position-append (x ∷ xs) ys =
      position-cons x (xs ++ ys) ∙ ap (λ r. cond (p x) (Some 0) (option_map suc r))
      (position-append xs ys)
      ∙ (elim (p x) as (λ b. cond b (Some 0)
      (option_map suc (in_both (position p xs) (length xs) (position p ys)))
      ≡ in_both (cond b (Some 0) (option_map suc (position p xs))) (suc (length xs))
      (position p ys)) [
        | true ↦ refl
        | false ↦ shifted (position p xs) (position p ys) (length xs)
      ]) ∙ ap (λ r. in_both r (suc (length xs)) (position p ys)) (sym (position-cons x xs))

  -- the place in the first list, where there is one
  pub position_left : (xs ys l : List X) (r : Option ℕ) (i : ℕ) → l ≡ xs → r ≡ position p l → r
      ≡ Some i → Some i ≡ position p (xs ++ ys)
  position_left xs ys l r i same is at =
      sym (position-append xs ys ∙ ap (λ o. in_both o (length xs) (position p ys))
      (ap (position p) (sym same) ∙ sym is ∙ at))

  -- else the one in the second
  pub position_right : (xs ys l m : List X) (r q : Option ℕ) → l ≡ xs → r ≡ position p l → r ≡ None
      → m ≡ ys → q ≡ position p m
      → position p (xs ++ ys) ≡ in_both None (length l) q
  position_right xs ys l m r q same is none same' is' =
      position-append xs ys ∙ (λ j. in_both (((ap (position p) (sym same) ∙ sym is ∙ none) j))
      (length (sym same j)) ((ap (position p) (sym same') ∙ sym is') j))

-- a place that is found is below the length
place_below : {X : Type 0} (p : X → Bool) (xs : List X) (i : ℕ) → position p xs ≡ Some i
    → i < length xs
place_below p xs i e =
    let n = position_or_len p xs in
    elim (nat_lt n (length xs)) as (λ b. nat_lt n (length xs) ≡ b → cond b (Some n) None ≡ Some i
    → i < length xs) [
      | true ↦ λ t s.
          let same : n ≡ i = ap (λ (o : Option ℕ). unwrap_or o n) s in
          let P : ℕ → Type 0 = λ m. m < length xs in
          subst P same (ltb-true n (length xs) t)
      | false ↦ λ t s. absurd (let f : ⊥ = cc in f)
    ] refl e

-- the number that was found, if one was
pub found_within : {X : Type 0} (p : X → Bool) (xs : List X) (r : Option ℕ) → r ≡ position p xs
    → IfSome r (λ i. i < length xs)
found_within p xs None e = tt
found_within p xs (Some i) e = place_below p xs i (sym e)

module _ {X : Type 0} (p : X → Bool) where
  -- what stands at a place that is found passes
  pub place_passes : (xs : List X) (i : ℕ) (x : X) → position p xs ≡ Some i
      → slice_get xs i ≡ Some x → p x ≡ true
  place_passes [] i x e at = absurd (let f : ⊥ = cc in f)
  place_passes (y ∷ ys) i x e at =
      by (λ k here next. place_passes ys k x here next) (p y) refl
      (sym (position-cons p y ys) ∙ e)
    where
      behind : ((k : ℕ) → position p ys ≡ Some k → slice_get ys k ≡ Some x → p x ≡ true)
          → (o : Option ℕ) → position p ys ≡ o → option_map suc o ≡ Some i → p x ≡ true
      behind further None here f = absurd (let g : ⊥ = cc in g)
      behind further (Some k) here f =
          let same : suc k ≡ i = ap (λ (o : Option ℕ). unwrap_or o 0) f in
          further k here (subst (λ n. slice_get (y ∷ ys) n ≡ Some x) (sym same) at)

      by : ((k : ℕ) → position p ys ≡ Some k → slice_get ys k ≡ Some x → p x ≡ true)
          → (b : Bool) → p y ≡ b → cond b (Some 0) (option_map suc (position p ys)) ≡ Some i
          → p x ≡ true
      by further true c f =
          let first : 0 ≡ i = ap (λ (o : Option ℕ). unwrap_or o 0) f in
          let here : Some y ≡ Some x =
          subst (λ n. slice_get (y ∷ ys) n ≡ Some x) (sym first) at in
          subst (λ z. p z ≡ true) (ap (λ (o : Option X). unwrap_or o y) here) c
      by further false c f = behind further (position p ys) refl f

-- An index that is found by its name can be read.
pub found_read : (d : TableSchema) (name : List ℕ) (r : Option ℕ)
    → r ≡ position (is_read_as name) (indexes d) → IfSome r (λ number. CanRead d number)
found_read d name None e = tt
found_read d name (Some number) e = (
  place_below (is_read_as name) (indexes d) number (sym e),
  λ i at. read (is_named name i) (is_whole i.built)
      (place_passes (is_read_as name) (indexes d) number i (sym e) at),
)
  where
    read : (a b : Bool) → (a && b) ≡ true → b ≡ true
    read true b h = h
    read false b h = absurd (let f : ⊥ = cc in f)
