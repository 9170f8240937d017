-- Each text is an update or has a first fault.
use Rattle.std.proofs.Common.{◌≡◌, refl, sym, ◌∙◌, ℕ, List, Option, Some, None}
use Rattle.alt_expr.specs.Given.{Given}
use Rattle.alt_expr.specs.Told.{Told}
use Rattle.alt_expr.specs.Tokens.{Tok}
use Rattle.alt_expr.specs.UpdateGrammar.{UpdatePhrase}
use Rattle.alt_expr.specs.UpdateLanguage.{updates}
use Rattle.alt_expr.specs.UpdateReader.{update}
use Rattle.alt_expr.specs.declared.fault.ExprFault.TheVariants as fault
use Rattle.alt_expr.specs.declared.update.Action.{Action}
use Rattle.alt_expr.proofs.Texts.{ReadAs, as_tree, as_none, text_told}
use Rattle.alt_expr.proofs.UpdateWhole.{read_all, read_none, unique, repeats_by}

-- the tokens that are read to the end, or aren't
read : (g : Given) (toks : List Tok) → ReadAs updates g toks
read g toks = by (update g toks) refl
  where
    by : (o : Option (List Action × List Tok)) → update g toks ≡ o → ReadAs updates g toks
    by None e = as_none updates g toks (read_none g toks fault.Syntax (λ other. (e, refl)))
    by (Some (xs, rest)) e = as_tree updates g toks xs (read_all g toks xs rest e)

-- phrases of the same tokens repeat a clause both, or neither does
same_clauses : (d e : UpdatePhrase) → updates.toks d ≡ updates.toks e
    → updates.repeats d ≡ updates.repeats e
same_clauses d e same =
    sym (repeats_by d (updates.toks d) refl) ∙ repeats_by e (updates.toks d) same

-- the update that a text is over what is given, or its first fault
pub update_of : (g : Given) (text : List ℕ) → Told updates g text
update_of g text = text_told updates g (unique g) same_clauses (read g) text
