-- What the reader gives of all tokens is what the grammar gives.
use Rattle.std.proofs.Common.{◌≡◌, ap, subst, [], map, length, Some, None, arith}
use Rattle.alt_base.proofs.Lists.{length-zero}
use Rattle.alt_expr.specs.Tokens.{tok_of}
use Rattle.alt_expr.specs.Lookups.{names_alone}
use Rattle.alt_expr.specs.NamesGiven.{given_names}
use Rattle.alt_expr.specs.Reader.{left, comma_separated, path}
use Rattle.alt_expr.proofs.PathsWhole.{read_all, read_part, read_none}
use Rattle.alt_projection.proofs.text.read_whole.Goals as goal

pub returns-in-Err : goal.returns-in-Err
returns-in-Err c =
    let g = names_alone (given_names c.args.names.now) in
    read_none g (map tok_of c.args.tokens.now) c.in-Err.fault
    (λ other. let h = c.in-Err.ensures other in
    (subst (λ i. comma_separated (path g.names) i ≡ None) c.new-cursor.ensures h.0, h.1))

pub returns-then-len-ne0 : goal.returns-then-len-ne0
returns-then-len-ne0 c =
    let g = names_alone (given_names c.args.names.now) in
    let rest = left c.read_paths.new.tokens in
    read_part g (map tok_of c.args.tokens.now) c.in-Ok.paths rest
    (subst (λ i. comma_separated (path g.names) i ≡ Some (c.in-Ok.paths, rest)) c.new-cursor.ensures
    c.in-Ok.ensures)
    (λ none. let e = ap length none in omega (arith, e, c.len.ensures, c.if-len-ne0.true))

pub returns-else-len-ne0 : goal.returns-else-len-ne0
returns-else-len-ne0 c =
    let g = names_alone (given_names c.args.names.now) in
    let toks = map tok_of c.args.tokens.now in
    let rest = left c.read_paths.new.tokens in
    let none : rest ≡ [] = length-zero rest (omega (arith, c.len.ensures, c.if-len-ne0.false)) in
    let h = subst (λ i. comma_separated (path g.names) i ≡ Some (c.in-Ok.paths, rest)) c.new-cursor.ensures
    c.in-Ok.ensures in
    read_all g toks c.in-Ok.paths
    (subst (λ r. comma_separated (path g.names) toks ≡ Some (c.in-Ok.paths, r)) none h)
