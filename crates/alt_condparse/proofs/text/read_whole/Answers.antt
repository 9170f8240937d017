-- What the reader gives of all tokens is what the grammar gives.
use Rattle.std.proofs.Common.{◌≡◌, ℕ, sym, ap, subst, [], map, length, Some, None, arith}
use Rattle.std.proofs.lemmas.List.{length-map}
use Rattle.alt_base.proofs.Lists.{length-zero}
use Rattle.alt_expr.specs.Tokens.{tok_of}
use Rattle.alt_expr.specs.Lookups.{given_by_lookups}
use Rattle.alt_expr.specs.Reader.{left}
use Rattle.alt_expr.specs.CondReader.{any, one}
use Rattle.alt_expr.proofs.CondWhole.{read_all, read_part, read_none}
use Rattle.alt_condparse.proofs.text.read_whole.Goals as goal

pub returns-in-Err : goal.returns-in-Err
returns-in-Err c =
    let g = given_by_lookups c.args.given.now in
    let toks = map tok_of c.args.tokens.now in
    let n : ℕ = length c.args.tokens.now in
    read_none g toks n c.in-Err.fault (sym (length-map c.args.tokens.now tok_of))
    (λ other. let h = c.in-Err.ensures other in
    (subst (λ i. any (one g n) i ≡ None) c.new-cursor.ensures h.0, h.1))

pub returns-then-len-ne0 : goal.returns-then-len-ne0
returns-then-len-ne0 c =
    let g = given_by_lookups c.args.given.now in
    let toks = map tok_of c.args.tokens.now in
    let n : ℕ = length c.args.tokens.now in
    let rest = left c.any.new.tokens in
    read_part g toks n c.in-Ok.condition rest (sym (length-map c.args.tokens.now tok_of))
    (subst (λ i. any (one g n) i ≡ Some (c.in-Ok.condition, rest)) c.new-cursor.ensures
    c.in-Ok.ensures)
    (λ none. let e = ap length none in omega (arith, e, c.len.ensures, c.if-len-ne0.true))

pub returns-else-len-ne0 : goal.returns-else-len-ne0
returns-else-len-ne0 c =
    let g = given_by_lookups c.args.given.now in
    let toks = map tok_of c.args.tokens.now in
    let n : ℕ = length c.args.tokens.now in
    let rest = left c.any.new.tokens in
    let none : rest ≡ [] = length-zero rest (omega (arith, c.len.ensures, c.if-len-ne0.false)) in
    let h = subst (λ i. any (one g n) i ≡ Some (c.in-Ok.condition, rest)) c.new-cursor.ensures
    c.in-Ok.ensures in
    read_all g toks n c.in-Ok.condition
    (subst (λ r. any (one g n) toks ≡ Some (c.in-Ok.condition, r)) none h)
