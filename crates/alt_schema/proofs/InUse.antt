-- The names that key schemas use, put to a map one after another.
use Rattle.std.proofs.Common.{◌≡◌, refl, sym, ap, ◌∙◌, ℕ, suc, ◌+◌, ◌<◌, ◌≤◌, Bool, true, false, ◌&&◌, ◌||◌, List, ◌∷◌, length, drop, get_or, None, is_some, add-one}
use Rattle.std.proofs.Math.Seq.{drop-cons}
use Rattle.std.specs.List.{list_any, list_all}
use Rattle.std.proofs.lemmas.List.{drop_all}
use Rattle.std.proofs.Math.Bool.{or-false}
use Rattle.alt_schema.specs.Named.{kind_at, AreOf, HasMore}
use Rattle.alt_schema.specs.Rules.{is_used_in_any_schema, is_defined, in_each_schema}
use Rattle.alt_schema.specs.declared.named.Kinds.{Kinds}
use Rattle.alt_schema.specs.declared.stated.Stated.{Stated}
use Rattle.alt_schema.proofs.NamedLemmas.{is_some-kind_defined}

or_assoc : (a b c : Bool) → ((a || b) || c) ≡ (a || (b || c))
or_assoc true b c = refl
or_assoc false b c = refl

-- what another has besides, and a third besides that
pub has_more-both : (a b c : Kinds) (s t : List ℕ → Bool) → HasMore a b s → HasMore b c t
    → HasMore a c (λ name. s name || t name)
has_more-both a b c s t p q = λ name.
    q name ∙ ap (λ x. x || t name) (p name) ∙ or_assoc (is_some (kind_at a name)) (s name) (t name)

module _ {A : Type 0} (ok : A → Bool) (uses : List ℕ → A → Bool) where
  -- All before a place are well, and the map has what they use.
  pub record Goes (initial now : Kinds) (xs : List A) (i : ℕ) : Type 0 where
    pub well : list_all ok xs ≡ list_all ok (drop i xs)
    pub used : (name : List ℕ)
        → (is_some (kind_at now name) || list_any (uses name) (drop i xs))
        ≡ (is_some (kind_at initial name) || list_any (uses name) xs)

  -- at the first place
  pub goes_first : (initial : Kinds) (xs : List A) → Goes initial initial xs 0
  goes_first initial xs = record { well = refl; used = λ name. refl }

  -- those from a place on begin with the one there
  front : (xs : List A) (i : ℕ) (x : A) → i < length xs → x ≡ get_or xs i x
      → drop i xs ≡ x ∷ drop (i + 1) xs
  front xs i x within at =
      drop-cons xs i x within ∙ ap (λ y. y ∷ drop (suc i) xs) (sym at)
      ∙ ap (λ n. x ∷ drop n xs) (sym (add-one i))

  -- one more that is well
  pub goes_on : (initial old new : Kinds) (xs : List A) (i : ℕ) (x : A) → i < length xs
      → x ≡ get_or xs i x → ok x ≡ true → HasMore old new (λ name. uses name x)
      → Goes initial old xs i → Goes initial new xs (i + 1)
  goes_on initial old new xs i x within at well more g = record {
    well =
        g.well ∙ ap (list_all ok) (front xs i x within at)
        ∙ ap (λ b. b && list_all ok (drop (i + 1) xs)) well;
    used = λ name.
        ap (λ b. b || list_any (uses name) (drop (i + 1) xs)) (more name)
        ∙ or_assoc (is_some (kind_at old name)) (uses name x)
        (list_any (uses name) (drop (i + 1) xs))
        ∙ ap (λ ys. is_some (kind_at old name) || list_any (uses name) ys)
        (sym (front xs i x within at))
        ∙ g.used name;
  }

  -- one that isn't
  pub goes_no_further : (initial old : Kinds) (xs : List A) (i : ℕ) (x : A) → i < length xs
      → x ≡ get_or xs i x → ok x ≡ false → Goes initial old xs i → false ≡ list_all ok xs
  goes_no_further initial old xs i x within at bad g =
      sym (g.well ∙ ap (list_all ok) (front xs i x within at)
      ∙ ap (λ b. b && list_all ok (drop (i + 1) xs)) bad)

  -- at the end
  pub goes_all : (initial now : Kinds) (xs : List A) (i : ℕ) → length xs ≤ i
      → Goes initial now xs i → true ≡ list_all ok xs
  goes_all initial now xs i end g = sym (g.well ∙ ap (list_all ok) (drop_all i xs end))

  -- so the map has what they all use
  pub goes_used : (initial now : Kinds) (xs : List A) (i : ℕ) → length xs ≤ i
      → Goes initial now xs i → HasMore initial now (λ name. list_any (uses name) xs)
  goes_used initial now xs i end g = λ name.
      sym (or-false (is_some (kind_at now name)))
      ∙ ap (λ ys. is_some (kind_at now name) || list_any (uses name) ys)
      (sym (drop_all i xs end))
      ∙ g.used name

-- ---- the names that are used, beside those that are defined

and_true : (a : Bool) → a ≡ (a && true)
and_true true = refl
and_true false = refl

and_false : (a : Bool) → false ≡ (a && false)
and_false true = refl
and_false false = refl

module _ (b : Stated) (kinds : Kinds) (are : AreOf kinds b.definitions) where
  -- to have a kind is to be defined
  schemas_same : in_each_schema (list_all (λ e. is_some (kind_at kinds e.name))) b
      ≡ in_each_schema (list_all (λ e. is_defined b.definitions e.name)) b
  schemas_same = λ j. in_each_schema (list_all (λ e. same e.name j)) b
    where
      same : (name : List ℕ) → is_some (kind_at kinds name) ≡ is_defined b.definitions name
      same name = ap is_some (are name) ∙ is_some-kind_defined b.definitions name

  -- where each name that is used has a kind
  pub all_have_kinds : (none used : Kinds) → ((name : List ℕ) → kind_at none name ≡ None)
      → HasMore none used (is_used_in_any_schema b)
      → true ≡ in_each_schema (list_all (λ e. is_some (kind_at kinds e.name))) b
      → list_all (λ d. is_some (kind_at used d.name)) b.definitions
      ≡ (list_all (λ d. is_used_in_any_schema b d.name) b.definitions
      && in_each_schema (list_all (λ e. is_defined b.definitions e.name)) b)
  all_have_kinds none used empty more all =
      (λ j. list_all (λ d. same d.name j) b.definitions)
      ∙ and_true (list_all (λ d. is_used_in_any_schema b d.name) b.definitions)
      ∙ ap (λ t. list_all (λ d. is_used_in_any_schema b d.name) b.definitions && t) (all ∙ schemas_same)
    where
      same : (name : List ℕ) → is_some (kind_at used name) ≡ is_used_in_any_schema b name
      same name = more name ∙ ap (λ o. is_some o || is_used_in_any_schema b name) (empty name)

  -- where one hasn't
  pub one_has_none : false ≡ in_each_schema (list_all (λ e. is_some (kind_at kinds e.name))) b
      → false ≡ (list_all (λ d. is_used_in_any_schema b d.name) b.definitions
      && in_each_schema (list_all (λ e. is_defined b.definitions e.name)) b)
  one_has_none none =
      and_false (list_all (λ d. is_used_in_any_schema b d.name) b.definitions)
      ∙ ap (λ t. list_all (λ d. is_used_in_any_schema b d.name) b.definitions && t) (none ∙ schemas_same)
