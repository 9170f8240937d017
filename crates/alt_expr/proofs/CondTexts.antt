-- Each text is a condition or has a first fault.
use Rattle.std.proofs.Common.{◌≡◌, refl, sym, ap, ◌∙◌, ℕ, suc, List, [], ◌∷◌, length, Option, Some, None, arith}
use Rattle.alt_expr.specs.CondReader.{any, one}
use Rattle.alt_expr.specs.Given.{Given}
use Rattle.alt_expr.specs.Languages.{conditions}
use Rattle.alt_expr.specs.Told.{Told}
use Rattle.alt_expr.specs.Tokens.{Tok}
use Rattle.alt_expr.specs.declared.cond.Cond.{Cond}
use Rattle.alt_expr.specs.declared.fault.ExprFault.TheVariants as fault
use Rattle.alt_expr.proofs.CondWhole.{read_all, read_part, read_none, unique, never_repeats}
use Rattle.alt_expr.proofs.Texts.{ReadAs, as_tree, as_none, text_told}

-- the tokens that are read to the end, or aren't
read : (g : Given) (toks : List Tok) → ReadAs conditions g toks
read g toks = by (any (one g (length toks)) toks) refl
  where
    by : (o : Option (Cond × List Tok)) → any (one g (length toks)) toks ≡ o
        → ReadAs conditions g toks
    by None e = as_none conditions g toks
        (read_none g toks (length toks) fault.Syntax refl (λ other. (e, refl)))
    by (Some (t, [])) e = as_tree conditions g toks t (read_all g toks (length toks) t e)
    by (Some (t, x ∷ xs)) e = as_none conditions g toks
        (read_part g toks (length toks) t (x ∷ xs) refl e
        (λ none. let n : suc (length xs) ≡ 0 = ap length none in absurd (omega (arith, n))))

-- the condition that a text is over what is given, or its first fault
pub condition_of : (g : Given) (text : List ℕ) → Told conditions g text
condition_of g text = text_told conditions g (unique g)
    (λ d e same. never_repeats d ∙ sym (never_repeats e)) (read g) text
