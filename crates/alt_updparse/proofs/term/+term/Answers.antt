-- Each level is one less.
use Rattle.std.proofs.Common.{◌≡◌, sym, ◌∙◌, ap, true, false, rules, arith}
use Rattle.std.specs.Prelude.{codes}
use Rattle.std.proofs.lemmas.Grind.{common_steps}
use Rattle.alt_expr.specs.Reader.{left, calls}
use Rattle.alt_expr.specs.Lookups.{given_by_lookups}
use Rattle.alt_expr.proofs.Turns.{deeper}
use Rattle.alt_expr.specs.UpdateReader.{term}
use Rattle.alt_updparse.proofs.term.+term.Goals as goal

pub term-returns-then-depth-eq0 : goal.term-returns-then-depth-eq0
unfolding term
term-returns-then-depth-eq0 t c =
    let e = (let none : c.args.depth ≡ 0 = omega arith in
    ap (λ n. term (given_by_lookups c.args.given.now) n (left c.args.tokens.now)) none) in
    first_of (search rules, grind (arith, common_steps))

pub term-returns-then-calls : goal.term-returns-then-calls
unfolding term
term-returns-then-calls t c =
    let e = deeper (λ n. term (given_by_lookups c.args.given.now) n (left c.args.tokens.now)) c.args.depth
    (omega arith) in
    let seen : calls (codes "if_not_exists") (left c.args.tokens.now) ≡ true = sym c.calls.ensures
    ∙ c.if-calls.true in
    first_of (search rules, grind (arith, common_steps))

pub term-returns-then-calls-2 : goal.term-returns-then-calls-2
unfolding term
term-returns-then-calls-2 t c =
    let e = deeper (λ n. term (given_by_lookups c.args.given.now) n (left c.args.tokens.now)) c.args.depth
    (omega arith) in
    let unseen : calls (codes "if_not_exists") (left c.args.tokens.now)
    ≡ false = sym c.calls.ensures ∙ c.if-calls.false in
    let seen : calls (codes "list_append") (left c.args.tokens.now) ≡ true = sym c.calls-2.ensures
    ∙ c.if-calls-2.true in
    first_of (search rules, grind (arith, common_steps))

pub term-returns : goal.term-returns
unfolding term
term-returns t c =
    let e = deeper (λ n. term (given_by_lookups c.args.given.now) n (left c.args.tokens.now)) c.args.depth
    (omega arith) in
    let unseen : calls (codes "if_not_exists") (left c.args.tokens.now)
    ≡ false = sym c.calls.ensures ∙ c.if-calls.false in
    let unseen-2 : calls (codes "list_append") (left c.args.tokens.now)
    ≡ false = sym c.calls-2.ensures ∙ c.if-calls-2.false in
    first_of (search rules, grind (arith, common_steps))
