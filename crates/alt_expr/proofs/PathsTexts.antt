-- Each text is a projection or has a first fault.
use Rattle.std.proofs.Common.{◌≡◌, refl, sym, ap, ◌∙◌, ℕ, suc, List, [], ◌∷◌, length, Option, Some, None, arith}
use Rattle.alt_expr.specs.Given.{Given}
use Rattle.alt_expr.specs.Languages.{projections}
use Rattle.alt_expr.specs.Reader.{comma_separated, path}
use Rattle.alt_expr.specs.Told.{Told}
use Rattle.alt_expr.specs.Tokens.{Tok}
use Rattle.alt_expr.specs.declared.fault.ExprFault.TheVariants as fault
use Rattle.alt_expr.specs.declared.path.PathPart.{PathPart}
use Rattle.alt_expr.proofs.PathsWhole.{read_all, read_part, read_none, unique, never_repeats}
use Rattle.alt_expr.proofs.Texts.{ReadAs, as_tree, as_none, text_told}

-- the tokens that are read to the end, or aren't
read : (g : Given) (toks : List Tok) → ReadAs projections g toks
read g toks = by (comma_separated (path g.names) toks) refl
  where
    by : (o : Option (List (List PathPart) × List Tok)) → comma_separated (path g.names) toks ≡ o
        → ReadAs projections g toks
    by None e = as_none projections g toks (read_none g toks fault.Syntax (λ other. (e, refl)))
    by (Some (t, [])) e = as_tree projections g toks t (read_all g toks t e)
    by (Some (t, x ∷ xs)) e = as_none projections g toks (read_part g toks t (x ∷ xs) e
        (λ none. let n : suc (length xs) ≡ 0 = ap length none in absurd (omega (arith, n))))

-- the paths that a text is over what is given, or its first fault
pub paths_of : (g : Given) (text : List ℕ) → Told projections g text
paths_of g text = text_told projections g (unique g)
    (λ d e same. never_repeats d ∙ sym (never_repeats e)) (read g) text
