use Rattle.std.proofs.Common.{rules, arith}
use Rattle.std.proofs.lemmas.Grind.{common_steps}
use Rattle.alt_expr.specs.Reader.{left, path, parts_from}
use Rattle.alt_expr.specs.NamesGiven.{given_names}
use Rattle.alt_expr.proofs.Turns.{one_more, no_more}
use Rattle.alt_expr.proofs.path_text.read_path.Goals as goal

pub loop-turn-init : goal.loop-turn-init
unfolding path
loop-turn-init c =
    first_of (search rules, grind (arith, common_steps))

pub returns-in_err-next : goal.returns-in_err-next
unfolding parts_from
returns-in_err-next c =
    let e = one_more
    (λ n. parts_from (given_names c.args.names.now) n c.loop-turn.found
    (left c.loop-turn.tokens)) _ c.loop-turn._turn c.loop-turn-test.true
    c.loop-turn.invariant in
    first_of (search rules, grind (arith, common_steps))

pub returns-in-None : goal.returns-in-None
unfolding parts_from
returns-in-None c =
    let e = one_more
    (λ n. parts_from (given_names c.args.names.now) n c.loop-turn.found
    (left c.loop-turn.tokens)) _ c.loop-turn._turn c.loop-turn-test.true
    c.loop-turn.invariant in
    first_of (search rules, grind (arith, common_steps))

pub loop-turn-preserved : goal.loop-turn-preserved
unfolding parts_from
loop-turn-preserved c =
    let e = one_more
    (λ n. parts_from (given_names c.args.names.now) n c.loop-turn.found
    (left c.loop-turn.tokens)) _ c.loop-turn._turn c.loop-turn-test.true
    c.loop-turn.invariant in
    first_of (search rules, grind (arith, common_steps))

pub returns : goal.returns
unfolding parts_from
returns c =
    let e = no_more
    (λ n. parts_from (given_names c.args.names.now) n c.loop-turn.found
    (left c.loop-turn.tokens)) _ c.loop-turn._turn c.loop-turn-test.false
    c.loop-turn.invariant in
    first_of (search rules, grind (arith, common_steps))
