-- Each turn reads one clause more, and there are turns enough.
use Rattle.std.proofs.Common.{rules, arith}
use Rattle.std.proofs.lemmas.Grind.{common_steps}
use Rattle.alt_expr.specs.Reader.{left}
use Rattle.alt_expr.specs.Lookups.{given_by_lookups}
use Rattle.alt_expr.proofs.Turns.{one_more, no_more}
use Rattle.alt_expr.specs.UpdateReader.{update, clauses_from}
use Rattle.alt_updparse.proofs.update.update.Goals as goal

pub loop-turn-init : goal.loop-turn-init
unfolding update
loop-turn-init c =
    first_of (search rules, grind (arith, common_steps))

pub returns-in_err-found : goal.returns-in_err-found
unfolding update
returns-in_err-found c =
    first_of (search rules, grind (arith, common_steps))

pub returns-then-is_done : goal.returns-then-is_done
unfolding clauses_from
returns-then-is_done c =
    let e = one_more
    (λ n. clauses_from (given_by_lookups c.args.given.now) n c.loop-turn.found
    (left c.loop-turn.tokens)) _ c.loop-turn._turn c.loop-turn-test.true
    c.loop-turn.invariant in
    first_of (search rules, grind (arith, common_steps))

pub returns-in_err-found-2 : goal.returns-in_err-found-2
unfolding clauses_from
returns-in_err-found-2 c =
    let e = one_more
    (λ n. clauses_from (given_by_lookups c.args.given.now) n c.loop-turn.found
    (left c.loop-turn.tokens)) _ c.loop-turn._turn c.loop-turn-test.true
    c.loop-turn.invariant in
    first_of (search rules, grind (arith, common_steps))

pub loop-turn-preserved : goal.loop-turn-preserved
unfolding clauses_from
loop-turn-preserved c =
    let e = one_more
    (λ n. clauses_from (given_by_lookups c.args.given.now) n c.loop-turn.found
    (left c.loop-turn.tokens)) _ c.loop-turn._turn c.loop-turn-test.true
    c.loop-turn.invariant in
    first_of (search rules, grind (arith, common_steps))

pub returns : goal.returns
unfolding clauses_from
returns c =
    let e = no_more
    (λ n. clauses_from (given_by_lookups c.args.given.now) n c.loop-turn.found
    (left c.loop-turn.tokens)) _ c.loop-turn._turn c.loop-turn-test.false
    c.loop-turn.invariant in
    first_of (search rules, grind (arith, common_steps))
