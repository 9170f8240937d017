-- What a look at the next tokens tells of them, and what both halves of a reader gave.
use Rattle.std.proofs.Common.{◌≡◌, refl, ap, ◌∙◌, ℕ, true, inl, inr, List, [], ◌∷◌, ◌++◌, drop, Some, None, unwrap_or, rules}
use denote.Enum.Bare.{same_true}
use Rattle.std.proofs.lemmas.Bool.{and_parts, cases_Bool}
use Rattle.alt_base.proofs.Lists.{bytes_eq-true}
use Rattle.alt_expr.specs.contracts.token.Keyword as keywords
use Rattle.alt_expr.specs.contracts.token.Mark as marks
use Rattle.alt_expr.specs.Tokens.{Tok, key, word, mark, same_mark, same_keyword}
use Rattle.alt_expr.specs.declared.token.Keyword.{Keyword}
use Rattle.alt_expr.specs.declared.token.Mark.{Mark}
use Rattle.alt_expr.specs.declared.token.Mark.TheVariants as m
use Rattle.alt_expr.specs.Reader.{ParseOutcome, Parser, parse_and_then, sees_mark, sees_key, calls, expect, expect_key}

-- a phrase of what stands in front of the rest, whose tree is x
pub record Derived {D T : Type 0} (toks : D → List Tok) (tree : D → T) (i : List Tok) (x : T)
    (rest : List Tok) : Type 0 where
  pub by : D
  pub tokens : i ≡ toks by ++ rest
  pub stands : x ≡ tree by

-- both halves of a reader that read something
pub then_some : {A B : Type 0} (o : ParseOutcome A) (f : A → Parser B) (q : B × List Tok)
    → parse_and_then o f ≡ Some q → (p : A × List Tok) × (o ≡ Some p) × (f p.0 p.1 ≡ Some q)
then_some None f q h = absurd (cc)
then_some (Some p) f q h = (p, refl, h)

-- pairs that are equal as options are equal in both parts
pub some_pair : {A B : Type 0} (p q : A × B) → Some p ≡ Some q → (p.0 ≡ q.0) × (p.1 ≡ q.1)
some_pair p q h = let e : p ≡ q = ap (λ o. unwrap_or o p) h in (ap (λ x. x.0) e, ap (λ x. x.1) e)

-- marks that are told to be the same are
same_marks : (a b : Mark) → same_mark a b ≡ true → a ≡ b
same_marks a b h = same_true marks.the_type (search rules) a b h

same_keywords : (a b : Keyword) → same_keyword a b ≡ true → a ≡ b
same_keywords a b h = same_true keywords.the_type (search rules) a b h

-- the mark that was seen is the next token
pub mark_seen : (m : Mark) (i : List Tok) → sees_mark m i ≡ true → i ≡ mark m ∷ drop 1 i
unfolding sees_mark
mark_seen m [] h = absurd (cc)
mark_seen m (mark n ∷ i) h = ap (λ x. mark x ∷ i) (same_marks n m h)
mark_seen m (_ ∷ i) h = absurd (cc)

-- the keyword that was seen is the next token
pub key_seen : (j : Keyword) (i : List Tok) → sees_key j i ≡ true → i ≡ key j ∷ drop 1 i
unfolding sees_key
key_seen j [] h = absurd (cc)
key_seen j (key n ∷ i) h = ap (λ x. key x ∷ i) (same_keywords n j h)
key_seen j (_ ∷ i) h = absurd (cc)

-- the mark that was expected was the next token
pub expected : (m : Mark) (i : List Tok) (u : Unit {0}) (rest : List Tok)
    → expect m i ≡ Some (u, rest) → i ≡ mark m ∷ rest
unfolding expect
expected m i u rest h = elim (cases_Bool (sees_mark m i)) [
  | inl seen ↦ let g = rw seen at h in mark_seen m i seen ∙ ap (λ x. mark m ∷ x) (some_pair _ _ g).1
  | inr none ↦ let g = rw none at h in absurd (cc)
]

-- the keyword that was expected was the next token
pub expected_key : (j : Keyword) (i : List Tok) (u : Unit {0}) (rest : List Tok)
    → expect_key j i ≡ Some (u, rest) → i ≡ key j ∷ rest
unfolding expect_key
expected_key j i u rest h = elim (cases_Bool (sees_key j i)) [
  | inl seen ↦ let g = rw seen at h in key_seen j i seen ∙ ap (λ x. key j ∷ x) (some_pair _ _ g).1
  | inr none ↦ let g = rw none at h in absurd (cc)
]

-- a call that was seen: the function's name and a bracket
pub called : (name : List ℕ) (i : List Tok) → calls name i ≡ true
    → i ≡ word name ∷ mark m.LeftRound ∷ drop 2 i
unfolding calls
called name [] h = absurd (cc)
called name (word w ∷ i) h =
    let e = and_parts _ _ h in
    ap (λ x. word x ∷ i) (bytes_eq-true w name e.0)
    ∙ ap (λ t. word name ∷ t) (mark_seen m.LeftRound i e.1)
called name (_ ∷ i) h = absurd (cc)
