-- Each turn reads one path more, and there are turns enough.
use Rattle.std.proofs.Common.{rules, arith}
use Rattle.std.proofs.lemmas.Grind.{common_steps}
use Rattle.alt_expr.specs.NamesGiven.{given_names}
use Rattle.alt_expr.specs.Reader.{left, comma_separated, listed_from, path}
use Rattle.alt_expr.proofs.Turns.{one_more, no_more}
use Rattle.alt_projection.proofs.text.read_paths.Goals as goal

pub loop-turn-init : goal.loop-turn-init
unfolding comma_separated
loop-turn-init c =
    first_of (search rules, grind (arith, common_steps))

pub returns-in_err-read_path : goal.returns-in_err-read_path
unfolding comma_separated
returns-in_err-read_path c =
    first_of (search rules, grind (arith, common_steps))

pub returns-then-not-eat : goal.returns-then-not-eat
unfolding listed_from
returns-then-not-eat c =
    let e = one_more
    (λ n. listed_from (path (given_names c.args.names.now)) n c.loop-turn.found
    (left c.loop-turn.tokens)) _ c.loop-turn._turn c.loop-turn-test.true
    c.loop-turn.invariant in
    first_of (search rules, grind (arith, common_steps))

pub loop-turn-preserved : goal.loop-turn-preserved
unfolding listed_from
loop-turn-preserved c =
    let e = one_more
    (λ n. listed_from (path (given_names c.args.names.now)) n c.loop-turn.found
    (left c.loop-turn.tokens)) _ c.loop-turn._turn c.loop-turn-test.true
    c.loop-turn.invariant in
    first_of (search rules, grind (arith, common_steps))

pub returns-in_err-read_path-2 : goal.returns-in_err-read_path-2
unfolding listed_from
returns-in_err-read_path-2 c =
    let e = one_more
    (λ n. listed_from (path (given_names c.args.names.now)) n c.loop-turn.found
    (left c.loop-turn.tokens)) _ c.loop-turn._turn c.loop-turn-test.true
    c.loop-turn.invariant in
    first_of (search rules, grind (arith, common_steps))

pub returns : goal.returns
unfolding listed_from
returns c =
    let e = no_more
    (λ n. listed_from (path (given_names c.args.names.now)) n c.loop-turn.found
    (left c.loop-turn.tokens)) _ c.loop-turn._turn c.loop-turn-test.false
    c.loop-turn.invariant in
    first_of (search rules, grind (arith, common_steps))
