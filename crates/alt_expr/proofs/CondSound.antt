-- A condition that is read was derived, and its tree is the phrase's.
use Rattle.std.proofs.Common.{◌≡◌, refl, sym, ap, ◌∙◌, ℕ, zero, suc, inl, inr, List, [], ◌∷◌, ◌++◌, length, drop, Some, append_assoc}
use Rattle.std.proofs.lemmas.Bool.{cases_Bool}
use Rattle.alt_expr.specs.Tokens.{Tok, key, mark}
use Rattle.alt_expr.specs.Given.{Given}
use Rattle.alt_expr.specs.declared.token.Keyword.{Keyword}
use Rattle.alt_expr.specs.declared.token.Keyword.TheVariants as k
use Rattle.alt_expr.specs.declared.token.Mark.TheVariants as m
use Rattle.alt_expr.specs.declared.cond.Comparison.TheVariants as c
use Rattle.alt_expr.specs.declared.cond.Cond.{Cond}
use Rattle.alt_expr.specs.declared.cond.Cond.TheVariants as cond
use Rattle.alt_expr.specs.CondGrammar.{at, CondPhrase, last, either, AndPhrase, final, both, NotPhrase, negated, group, test, cond_toks, and_toks, not_toks, any_of, conjunction_of, cond_trees, and_trees, not_tree, cond_tree}
use Rattle.alt_expr.specs.Reader.{Parser, sees_mark, sees_key, after_mark, after_key}
use Rattle.alt_expr.proofs.Seen.{Derived, then_some, some_pair, mark_seen, key_seen}
use Rattle.alt_expr.proofs.PathFound.{bracketed}
use Rattle.alt_expr.proofs.TestSound.{test_sound}
use Rattle.alt_expr.specs.CondReader as r
use Rattle.alt_expr.specs.CondReader.{joined_by_keyword, joined_from}

-- members that were read behind others, with commas or words between
pub record Members {D : Type 0} (toks : D → List Tok) (trees : D → List Cond) (found : List Cond)
    (i : List Tok) (xs : List Cond) (rest : List Tok) : Type 0 where
  pub by : D
  pub tokens : i ≡ toks by ++ rest
  pub stands : xs ≡ found ++ trees by

-- a list of members, by the reader of one
module _ (one : Parser Cond) {D : Type 0} (toks : D → List Tok) (tree : D → Cond)
    (sound : (i : List Tok) (x : Cond) (rest : List Tok) → one i ≡ Some (x, rest)
    → Derived toks tree i x rest)
    {E : Type 0} (all_toks : E → List Tok) (trees : E → List Cond) (j : Keyword) (only : D → E)
    (more : D → E → E)
    (only_toks : (d : D) → all_toks (only d) ≡ toks d)
    (more_toks : (d : D) (e : E) → all_toks (more d e) ≡ toks d ++ key j ∷ all_toks e)
    (only_trees : (d : D) → trees (only d) ≡ tree d ∷ [])
    (more_trees : (d : D) (e : E) → trees (more d e) ≡ tree d ∷ trees e) where
  members_sound : (turns : ℕ) (found : List Cond) (i : List Tok) (xs : List Cond) (rest : List Tok)
      → joined_from one j turns found i ≡ Some (xs, rest) → Members all_toks trees found i xs rest
  unfolding joined_from after_key
  members_sound zero found i xs rest h = absurd (cc)
  members_sound (suc n) found i xs rest h =
      let a = then_some (one i) _ _ h in
      let d = sound i _ _ a.1 in
      elim (cases_Bool (sees_key j a.0.1)) [
        | inl seen ↦
            let b = members_sound n (found ++ a.0.0 ∷ []) (drop 1 a.0.1) xs rest
            (simp seen at a.2) in
            record {
              by = more d.by b.by;
              tokens = d.tokens ∙ ap (λ t. toks d.by ++ t)
                  (key_seen j _ seen ∙ ap (λ t. key j ∷ t) b.tokens)
                  ∙ sym (append_assoc (toks d.by) (key j ∷ all_toks b.by) rest)
                  ∙ ap (λ t. t ++ rest) (sym (more_toks d.by b.by));
              stands = b.stands ∙ append_assoc found (a.0.0 ∷ []) (trees b.by)
                  ∙ ap (λ t. found ++ t ∷ trees b.by) d.stands
                  ∙ ap (λ t. found ++ t) (sym (more_trees d.by b.by));
            }
        | inr none ↦
            let e = some_pair _ _ (simp none at a.2) in
            record { by = only d.by; tokens = d.tokens ∙ ap (λ t. toks d.by ++ t) e.1 ∙ ap (λ t. t ++ rest) (sym (only_toks d.by)); stands = sym e.0 ∙ ap (λ t. found ++ t ∷ []) d.stands ∙ ap (λ t. found ++ t) (sym (only_trees d.by)) }
      ]

  module _ (wrap whole : List Cond → Cond) (one_whole : (d : D) → whole (trees (only d)) ≡ tree d)
      (more_whole : (d : D) (e : E) → whole (trees (more d e)) ≡ wrap (trees (more d e))) where
    pub joined_sound : (i : List Tok) (x : Cond) (rest : List Tok)
        → joined_by_keyword one j wrap i ≡ Some (x, rest) → Derived all_toks (λ e. whole (trees e)) i x rest
    unfolding joined_by_keyword after_key
    joined_sound i x rest h =
        let a = then_some (one i) _ _ h in
        let d = sound i _ _ a.1 in
        elim (cases_Bool (sees_key j a.0.1)) [
          | inl seen ↦
              let c = then_some (joined_from one j (length i) (a.0.0 ∷ []) (drop 1 a.0.1)) _ _
              (simp seen at a.2) in
              let b = members_sound (length i) (a.0.0 ∷ []) (drop 1 a.0.1) c.0.0 c.0.1 c.1 in
              let e = some_pair _ _ c.2 in
              record {
                by = more d.by b.by;
                tokens = d.tokens ∙ ap (λ t. toks d.by ++ t)
                    (key_seen j _ seen ∙ ap (λ t. key j ∷ t)
                    (b.tokens ∙ ap (λ t. all_toks b.by ++ t) e.1))
                    ∙ sym (append_assoc (toks d.by) (key j ∷ all_toks b.by) rest)
                    ∙ ap (λ t. t ++ rest) (sym (more_toks d.by b.by));
                stands = sym e.0
                    ∙ ap wrap (b.stands ∙ ap (λ t. t ∷ trees b.by) d.stands
                    ∙ sym (more_trees d.by b.by)) ∙ sym (more_whole d.by b.by);
              }
          | inr none ↦
              let e = some_pair _ _ (simp none at a.2) in
              record { by = only d.by; tokens = d.tokens ∙ ap (λ t. toks d.by ++ t) e.1 ∙ ap (λ t. t ++ rest) (sym (only_toks d.by)); stands = sym e.0 ∙ d.stands ∙ sym (one_whole d.by) }
        ]

-- the tree of an AND
abbrev pub and_tree : Given → AndPhrase → Cond
and_tree g a = conjunction_of (and_trees g a)

-- the tree of an AND of two and more is that of all of them
all_more : (g : Given) (d : NotPhrase) (a : AndPhrase)
    → conjunction_of (and_trees g (both d a)) ≡ cond.All (and_trees g (both d a))
all_more g d (final e) = refl
all_more g d (both e a) = refl

any_more : (g : Given) (a : AndPhrase) (o : CondPhrase)
    → any_of (cond_trees g (either a o)) ≡ cond.Any (cond_trees g (either a o))
any_more g a (last b) = refl
any_more g a (either b o) = refl

all_sound : (g : Given) (f : Parser Cond)
    → ((i : List Tok) (x : Cond) (rest : List Tok) → f i ≡ Some (x, rest)
    → Derived not_toks (not_tree g) i x rest)
    → (i : List Tok) (x : Cond) (rest : List Tok) → r.all f i ≡ Some (x, rest)
    → Derived and_toks (and_tree g) i x rest
unfolding r.all
all_sound g f sound i x rest h =
    joined_sound f not_toks (not_tree g) sound and_toks (and_trees g) k.And final both (λ d. refl)
    (λ d e. refl) (λ d. refl) (λ d e. refl) cond.All conjunction_of (λ d. refl) (all_more g) i x rest h

-- an OR that was read was derived
pub any_sound : (g : Given) (f : Parser Cond)
    → ((i : List Tok) (x : Cond) (rest : List Tok) → f i ≡ Some (x, rest)
    → Derived not_toks (not_tree g) i x rest)
    → (i : List Tok) (x : Cond) (rest : List Tok) → r.any f i ≡ Some (x, rest)
    → Derived cond_toks (cond_tree g) i x rest
unfolding r.any
any_sound g f sound i x rest h =
    joined_sound (r.all f) and_toks (and_tree g) (all_sound g f sound) cond_toks
    (cond_trees g) k.Or last either (λ d. refl) (λ d e. refl) (λ d. refl)
    (λ d e. refl) cond.Any any_of (λ d. refl) (any_more g) i x rest h

-- a phrase that was read was derived
pub one_sound : (g : Given) (n : ℕ) (i : List Tok) (x : Cond) (rest : List Tok)
    → r.one g n i ≡ Some (x, rest) → Derived not_toks (not_tree g) i x rest
unfolding r.one r.prim after_key after_mark
one_sound g zero i x rest h = absurd (cc)
one_sound g (suc n) i x rest h = elim (cases_Bool (sees_key k.Not i)) [
  | inl seen ↦
      let a = then_some (r.one g n (drop 1 i)) _ _ (simp seen at h) in
      let e = some_pair _ _ a.2 in
      let d = one_sound g n (drop 1 i) _ _ a.1 in
      record { by = negated d.by; tokens = key_seen k.Not i seen ∙ ap (λ t. key k.Not ∷ t) (d.tokens ∙ ap (λ t. not_toks d.by ++ t) e.1); stands = sym e.0 ∙ ap cond.Not d.stands }
  | inr no_key ↦ elim (cases_Bool (sees_mark m.LeftRound i)) [
    | inl seen ↦
        let d = bracketed cond_toks (cond_tree g) (r.any (r.one g n))
        (any_sound g (r.one g n) (λ j y t. one_sound g n j y t)) (drop 1 i) x rest
        (simp (no_key, seen) at h) in
        record { by = group d.by; tokens = mark_seen m.LeftRound i seen ∙ ap (λ t. mark m.LeftRound ∷ t) d.tokens; stands = d.stands }
    | inr none ↦
        let d = test_sound g i x rest (simp (no_key, none) at h) in
        record { by = test d.by; tokens = d.tokens; stands = d.stands }
  ]
]
