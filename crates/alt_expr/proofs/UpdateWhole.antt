-- Updates: from the reader to the grammar.
use Rattle.std.proofs.Common.{◌≡◌, ◌≢◌, refl, sym, ap, ◌∙◌, List, Some, None, Ok, Err}
use Rattle.std.proofs.lemmas.Option.{none-some}
use Rattle.std.specs.List.{list_any}
use Rattle.alt_expr.specs.Tokens.{Tok}
use Rattle.alt_expr.specs.Given.{Given}
use Rattle.alt_expr.specs.Read.{ReadsWhole}
use Rattle.alt_expr.specs.UpdateGrammar.{UpdatePhrase}
use Rattle.alt_expr.specs.UpdateLanguage.{updates, is_long_action, clause_keys, targets_overlap}
use Rattle.alt_expr.specs.declared.fault.ExprFault.{ExprFault}
use Rattle.alt_expr.specs.declared.fault.ExprFault.TheVariants as fault
use Rattle.alt_expr.specs.declared.update.Action.{Action}
use Rattle.alt_expr.proofs.Parsing.{whole_tree, whole_none}
use Rattle.alt_expr.proofs.Seen.{some_pair}
use Rattle.alt_expr.specs.UpdateKeys.{is_twice}
use Rattle.alt_expr.specs.UpdateReader.{update}
use Rattle.alt_expr.proofs.UpdateComplete.{update_read}
use Rattle.alt_expr.proofs.UpdateKeywords.{repeats_is}
use Rattle.alt_expr.proofs.UpdateSound.{update_sound}

module _ (g : Given) (toks : List Tok) where
  -- what is read is the tree
  pub read_all : (xs : List Action) (rest : List Tok) → update g toks ≡ Some (xs, rest)
      → ReadsWhole updates g toks (Ok xs)
  unfolding updates
  read_all xs rest h = let d = update_sound g toks xs rest h in
      whole_tree updates g toks xs (d.by, d.tokens, d.stands)

  -- what isn't read isn't of the grammar
  pub read_none : (f : ExprFault)
      → (f ≢ fault.NoMemory → (update g toks ≡ None) × (f ≡ fault.Syntax))
      → ReadsWhole updates g toks (Err f)
  unfolding updates
  read_none f h =
      whole_none updates g toks f (λ other. let e = h other in
      (e.1, λ p. absurd (none-some _ (sym e.0 ∙ ap (update g) p.1 ∙ update_read g p.0))))

-- tokens have one tree
pub unique : (g : Given) (d e : UpdatePhrase) → updates.toks d ≡ updates.toks e
    → updates.tree g d ≡ updates.tree g e
unfolding updates
unique g d e same = (some_pair _ _ (sym (update_read g d) ∙ ap (update g) same ∙ update_read g e)).0

-- whether a clause stands twice is told by the tokens
pub repeats_by : (d : UpdatePhrase) (toks : List Tok) → toks ≡ updates.toks d
    → list_any (is_twice toks) clause_keys ≡ updates.repeats d
unfolding updates
repeats_by d toks is = ap (λ ts. list_any (is_twice ts) clause_keys) is ∙ repeats_is d

-- the language's test for crowded trees is whether an action is too long
pub crowded_is : (xs : List Action) → updates.is_crowded xs ≡ list_any is_long_action xs
unfolding updates
crowded_is xs = refl

-- its test for overlaps is that of the actions' targets
pub overlaps_is : (xs : List Action) → updates.overlaps xs ≡ targets_overlap xs
unfolding updates
overlaps_is xs = refl
