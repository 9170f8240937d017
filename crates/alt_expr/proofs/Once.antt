-- A text has one list of tokens.
use Rattle.std.proofs.Common.{◌≡◌, refl, sym, ap, subst, ◌∙◌, ℕ, zero, suc, ◌≤◌, inl, inr, Bool, true, false, List, [], ◌∷◌, take, drop, Option, Some, None, arith}
use Rattle.std.proofs.lemmas.Bool.{cases_order}
use Rattle.alt_expr.specs.Tokens.{Tok}
use Rattle.alt_expr.specs.Spelling.{spelled_token, TokenStands, NoneStands, skip}
use Rattle.alt_expr.specs.Lexed.{Lexes}

differ : (x : Tok) (o : Option Tok) → o ≡ Some x → o ≡ None → ⊥
differ x o p q = cc

some_same : (a b : Tok) → Some a ≡ Some b → a ≡ b
some_same a b h = cc

-- the longest token that stands at the front is one, of one length
one_token : (text : List ℕ) (m n : ℕ) (t u : Tok) → TokenStands text m t → TokenStands text n u
    → (m ≡ n) × (t ≡ u)
one_token text m n t u a b = elim (cases_order m n) [
  | inl same ↦
      (same, some_same t u (sym a.spells ∙ ap (λ k. spelled_token (take k text)) same ∙ b.spells))
  | inr (inl below) ↦
      absurd (differ u (spelled_token (take n text)) b.spells (a.longest n below b.within))
  | inr (inr above) ↦
      absurd (differ t (spelled_token (take m text)) a.spells (b.longest m above a.within))
]

nothing_stands : (text : List ℕ) (n : ℕ) (t : Tok) → TokenStands text n t → NoneStands text → ⊥
nothing_stands text n t s none = differ t (spelled_token (take n text)) s.spells (none n s.within)

empty_spells : (n : ℕ) (t : Tok) → TokenStands [] n t → ⊥
empty_spells zero t s = differ t None s.spells refl
empty_spells (suc n) t s = let w : suc n ≤ 0 = s.within in absurd (omega arith)

none_at_end : (text : List ℕ) (n : ℕ) (t : Tok) → TokenStands text n t → text ≡ [] → ⊥
none_at_end text n t s e = empty_spells n t (subst (λ x. TokenStands x n t) e s)

-- the tokens of a text, and whether they reach its end, are told by the text
pub tokens_once : (text : List ℕ) (ts us : List Tok) (v w : Bool) → Lexes text ts v
    → Lexes text us w → (ts ≡ us) × (v ≡ w)
tokens_once text [] [] true true a b = (refl, refl)
tokens_once text [] [] true false a b = absurd (b.0 a)
tokens_once text [] [] false true a b = absurd (a.0 b)
tokens_once text [] [] false false a b = (refl, refl)
tokens_once text [] (u ∷ us) true w a b = absurd (none_at_end (skip text) b.0 u b.1 a)
tokens_once text [] (u ∷ us) false w a b = absurd (nothing_stands (skip text) b.0 u b.1 a.1)
tokens_once text (t ∷ ts) [] v true a b = absurd (none_at_end (skip text) a.0 t a.1 b)
tokens_once text (t ∷ ts) [] v false a b = absurd (nothing_stands (skip text) a.0 t a.1 b.1)
tokens_once text (t ∷ ts) (u ∷ us) v w a b =
    let same = one_token (skip text) a.0 b.0 t u a.1 b.1 in
    let next : Lexes (drop b.0 (skip text)) ts v =
    subst (λ n. Lexes (drop n (skip text)) ts v) same.0 a.2 in
    let rest = tokens_once (drop b.0 (skip text)) ts us v w next b.2 in
    (ap (λ x. x ∷ ts) same.1 ∙ ap (λ xs. u ∷ xs) rest.0, rest.1)
