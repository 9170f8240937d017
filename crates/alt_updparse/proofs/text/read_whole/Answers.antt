-- What the reader gives of all tokens is what the grammar gives.
use Rattle.std.proofs.Common.{subst, List, map, Ok, Err}
use Rattle.std.specs.Prelude.{Result}
use Rattle.alt_expr.specs.Tokens.{Tok, tok_of}
use Rattle.alt_expr.specs.Lookups.{given_by_lookups}
use Rattle.alt_expr.specs.Given.{Given}
use Rattle.alt_expr.specs.Reader.{left, ReadsExpression}
use Rattle.alt_expr.specs.Read.{ReadsWhole}
use Rattle.alt_expr.specs.UpdateLanguage.{updates}
use Rattle.alt_expr.specs.declared.fault.ExprFault.{ExprFault}
use Rattle.alt_expr.specs.declared.update.Action.{Action}
use Rattle.alt_expr.specs.UpdateReader.{update}
use Rattle.alt_expr.proofs.UpdateWhole.{read_all, read_none}
use Rattle.alt_updparse.proofs.text.read_whole.Goals as goal

read_to : (g : Given) (toks : List Tok) (r : Result (List Action) ExprFault) (rest : List Tok)
    → ReadsExpression (update g toks) r rest → ReadsWhole updates g toks r
read_to g toks (Ok xs) rest h = read_all g toks xs rest h
read_to g toks (Err f) rest h = read_none g toks f h

pub returns : goal.returns
returns c =
    let g = given_by_lookups c.args.given.now in
    read_to g (map tok_of c.args.tokens.now) c.update.result (left c.update.new.tokens)
    (subst (λ i. ReadsExpression (update g i) c.update.result (left c.update.new.tokens)) c.new-cursor.ensures
    c.update.ensures)
