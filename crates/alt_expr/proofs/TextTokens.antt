-- Each text has tokens.
use Rattle.std.proofs.Common.{◌≡◌, refl, ap, ℕ, zero, suc, ◌≤◌, ◌⊎◌, inl, inr, true, false, List, [], ◌∷◌, length, take, drop, Option, Some, None, arith, length-drop}
use Rattle.alt_base.proofs.Lists.{length-zero}
use Rattle.alt_expr.specs.Look.{found, kind_tok}
use Rattle.alt_expr.specs.Spelling.{skip}
use Rattle.alt_expr.specs.Told.{TextTokens}
use Rattle.alt_expr.specs.declared.lexer.Kind.{Kind}
use Rattle.alt_expr.proofs.Longest.{stands_of, none_of, skip_fits}
use Rattle.alt_expr.proofs.Tokenized.{stands_some}

empty : (xs : List ℕ) → (xs ≡ []) ⊎ (xs ≡ [] → ⊥)
empty [] = inl refl
empty (x ∷ xs) = inr (λ e. let n : suc (length xs) ≡ 0 = ap length e in absurd (omega (arith, n)))

at_end : (text : List ℕ) → skip text ≡ [] → TextTokens text
at_end text e = record { toks = []; whole = true; lexes = e }

-- behind its separators, where a text isn't at its end
module _ (text : List ℕ) (more : skip text ≡ [] → ⊥) where
  cut_off : found (skip text) ≡ None → TextTokens text
  cut_off none = record { toks = []; whole = false; lexes = (more, none_of (skip text) none) }

  one_on : (kind : Kind) (n : ℕ) → found (skip text) ≡ Some (kind, n)
      → TextTokens (drop n (skip text)) → TextTokens text
  one_on kind n is rest = record {
    toks = kind_tok kind (take n (skip text)) ∷ rest.toks;
    whole = rest.whole;
    lexes = (n, stands_of (skip text) kind n is, rest.lexes);
  }

-- each token takes some of a text
shorter : (text : List ℕ) (kind : Kind) (n m : ℕ) → found (skip text) ≡ Some (kind, n)
    → length text ≤ suc m → length (drop n (skip text)) ≤ m
shorter text kind n m is fits =
    let stands = stands_of (skip text) kind n is in
    let some = stands_some (skip text) n (kind_tok kind (take n (skip text))) stands in
    let within = stands.within in
    omega (arith, fits, some, within, length-drop n (skip text), skip_fits text)

-- one look, and then the rest
looked : (m : ℕ) (text : List ℕ) → length text ≤ suc m
    → ((rest : List ℕ) → length rest ≤ m → TextTokens rest)
    → (skip text ≡ []) ⊎ (skip text ≡ [] → ⊥) → (o : Option (Kind × ℕ)) → found (skip text) ≡ o
    → TextTokens text
looked m text fits again (inl e) o is = at_end text e
looked m text fits again (inr more) None is = cut_off text more is
looked m text fits again (inr more) (Some p) is = one_on text more p.0 p.1 is
    (again (drop p.1 (skip text)) (shorter text p.0 p.1 m is fits))

lexed : (m : ℕ) (text : List ℕ) → length text ≤ m → TextTokens text
lexed zero text fits = at_end text (length-zero (skip text) (omega (arith, fits, skip_fits text)))
lexed (suc m) text fits = looked m text fits (lexed m) (empty (skip text)) (found (skip text)) refl

-- each text has tokens, up to its end or to what begins none
pub tokens_of : (text : List ℕ) → TextTokens text
tokens_of text = lexed (length text) text (omega arith)
