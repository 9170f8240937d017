-- Each turn reads one action more, and there are turns enough.
use Rattle.std.proofs.Common.{rules, arith}
use Rattle.std.proofs.lemmas.Grind.{common_steps}
use Rattle.alt_expr.specs.Reader.{left, listed_from}
use Rattle.alt_expr.proofs.Turns.{one_more, no_more}
use Rattle.alt_expr.specs.Lookups.{given_by_lookups}
use Rattle.alt_expr.specs.UpdateReader.{action, listed_behind}
use Rattle.alt_updparse.proofs.update.actions.Goals as goal

pub loop-turn-init : goal.loop-turn-init
unfolding listed_behind
loop-turn-init c =
    first_of (search rules, grind (arith, common_steps))

pub returns-then-not-eat : goal.returns-then-not-eat
unfolding listed_from
returns-then-not-eat c =
    let e = one_more
    (λ n. listed_from (action (given_by_lookups c.args.given.now) c.args.clause) n c.loop-turn.found
    (left c.loop-turn.tokens)) _ c.loop-turn._turn c.loop-turn-test.true
    c.loop-turn.invariant in
    first_of (search rules, grind (arith, common_steps))

pub loop-turn-preserved : goal.loop-turn-preserved
unfolding listed_from
loop-turn-preserved c =
    let e = one_more
    (λ n. listed_from (action (given_by_lookups c.args.given.now) c.args.clause) n c.loop-turn.found
    (left c.loop-turn.tokens)) _ c.loop-turn._turn c.loop-turn-test.true
    c.loop-turn.invariant in
    first_of (search rules, grind (arith, common_steps))

pub returns : goal.returns
unfolding listed_from
returns c =
    let e = no_more
    (λ n. listed_from (action (given_by_lookups c.args.given.now) c.args.clause) n c.loop-turn.found
    (left c.loop-turn.tokens)) _ c.loop-turn._turn c.loop-turn-test.false
    c.loop-turn.invariant in
    first_of (search rules, grind (arith, common_steps))

pub returns-in_err-action : goal.returns-in_err-action
unfolding listed_behind
returns-in_err-action c =
    first_of (search rules, grind (arith, common_steps))

pub returns-in_err-action-2 : goal.returns-in_err-action-2
unfolding listed_from
returns-in_err-action-2 c =
    let e = one_more
    (λ n. listed_from (action (given_by_lookups c.args.given.now) c.args.clause) n c.loop-turn.found
    (left c.loop-turn.tokens)) _ c.loop-turn._turn c.loop-turn-test.true
    c.loop-turn.invariant in
    first_of (search rules, grind (arith, common_steps))
