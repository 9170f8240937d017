-- Each turn reads one member more, and there are turns enough; each level is one less.
use Rattle.std.proofs.Common.{◌≡◌, ap, rules, arith}
use Rattle.std.proofs.lemmas.Grind.{common_steps}
use Rattle.alt_expr.specs.declared.token.Keyword.TheVariants.{And, Or}
use Rattle.alt_expr.specs.declared.cond.Cond.TheVariants as cond
use Rattle.alt_expr.specs.Reader.{left, ◌<$>◌, in_brackets}
use Rattle.alt_expr.proofs.Turns.{one_more, no_more, deeper}
use Rattle.alt_expr.specs.Lookups.{given_by_lookups}
use Rattle.alt_expr.specs.CondReader.{one, prim, all, any, joined_by_keyword, joined_from}
use Rattle.alt_condparse.proofs.condition.+condition.Goals as goal

pub all-returns-in_err-first : goal.all-returns-in_err-first
unfolding all joined_by_keyword
all-returns-in_err-first t c =
    first_of (search rules, grind (arith, common_steps))

pub all-returns-then-not-eat_key : goal.all-returns-then-not-eat_key
unfolding all joined_by_keyword
all-returns-then-not-eat_key t c =
    first_of (search rules, grind (arith, common_steps))

pub all-loop-turn-init : goal.all-loop-turn-init
unfolding joined_by_keyword
all-loop-turn-init t c =
    first_of (search rules, grind (arith, common_steps))

pub all-returns-in_err-one : goal.all-returns-in_err-one
unfolding all joined_from
all-returns-in_err-one t c =
    let e = one_more
    (λ n. (cond.All <$> joined_from (one (given_by_lookups c.args.given.now) c.args.depth) And n
    c.loop-turn.found) (left c.loop-turn.tokens)) _ c.loop-turn._turn c.loop-turn-test.true
    c.loop-turn.invariant in
    first_of (search rules, grind (arith, common_steps))

pub all-returns-then-not-eat_key-2 : goal.all-returns-then-not-eat_key-2
unfolding all joined_from
all-returns-then-not-eat_key-2 t c =
    let e = one_more
    (λ n. (cond.All <$> joined_from (one (given_by_lookups c.args.given.now) c.args.depth) And n
    c.loop-turn.found) (left c.loop-turn.tokens)) _ c.loop-turn._turn c.loop-turn-test.true
    c.loop-turn.invariant in
    first_of (search rules, grind (arith, common_steps))

pub all-loop-turn-preserved : goal.all-loop-turn-preserved
unfolding joined_from
all-loop-turn-preserved t c =
    let e = one_more
    (λ n. (cond.All <$> joined_from (one (given_by_lookups c.args.given.now) c.args.depth) And n
    c.loop-turn.found) (left c.loop-turn.tokens)) _ c.loop-turn._turn c.loop-turn-test.true
    c.loop-turn.invariant in
    first_of (search rules, grind (arith, common_steps))

pub all-returns : goal.all-returns
unfolding all joined_from
all-returns t c =
    let e = no_more
    (λ n. (cond.All <$> joined_from (one (given_by_lookups c.args.given.now) c.args.depth) And n
    c.loop-turn.found) (left c.loop-turn.tokens)) _ c.loop-turn._turn c.loop-turn-test.false
    c.loop-turn.invariant in
    first_of (search rules, grind (arith, common_steps))

pub any-returns-in_err-first : goal.any-returns-in_err-first
unfolding any joined_by_keyword
any-returns-in_err-first t c =
    first_of (search rules, grind (arith, common_steps))

pub any-returns-then-not-eat_key : goal.any-returns-then-not-eat_key
unfolding any joined_by_keyword
any-returns-then-not-eat_key t c =
    first_of (search rules, grind (arith, common_steps))

pub any-loop-turn-init : goal.any-loop-turn-init
unfolding joined_by_keyword
any-loop-turn-init t c =
    first_of (search rules, grind (arith, common_steps))

pub any-returns-in_err-all : goal.any-returns-in_err-all
unfolding any joined_from
any-returns-in_err-all t c =
    let e = one_more
    (λ n. (cond.Any <$> joined_from (all (one (given_by_lookups c.args.given.now) c.args.depth)) Or n
    c.loop-turn.found) (left c.loop-turn.tokens)) _ c.loop-turn._turn c.loop-turn-test.true
    c.loop-turn.invariant in
    first_of (search rules, grind (arith, common_steps))

pub any-returns-then-not-eat_key-2 : goal.any-returns-then-not-eat_key-2
unfolding any joined_from
any-returns-then-not-eat_key-2 t c =
    let e = one_more
    (λ n. (cond.Any <$> joined_from (all (one (given_by_lookups c.args.given.now) c.args.depth)) Or n
    c.loop-turn.found) (left c.loop-turn.tokens)) _ c.loop-turn._turn c.loop-turn-test.true
    c.loop-turn.invariant in
    first_of (search rules, grind (arith, common_steps))

pub any-loop-turn-preserved : goal.any-loop-turn-preserved
unfolding joined_from
any-loop-turn-preserved t c =
    let e = one_more
    (λ n. (cond.Any <$> joined_from (all (one (given_by_lookups c.args.given.now) c.args.depth)) Or n
    c.loop-turn.found) (left c.loop-turn.tokens)) _ c.loop-turn._turn c.loop-turn-test.true
    c.loop-turn.invariant in
    first_of (search rules, grind (arith, common_steps))

pub any-returns : goal.any-returns
unfolding any joined_from
any-returns t c =
    let e = no_more
    (λ n. (cond.Any <$> joined_from (all (one (given_by_lookups c.args.given.now) c.args.depth)) Or n
    c.loop-turn.found) (left c.loop-turn.tokens)) _ c.loop-turn._turn c.loop-turn-test.false
    c.loop-turn.invariant in
    first_of (search rules, grind (arith, common_steps))

pub one-returns-then-depth-eq0 : goal.one-returns-then-depth-eq0
unfolding one
one-returns-then-depth-eq0 t c =
    let e = (let none : c.args.depth ≡ 0 = omega arith in
    ap (λ n. one (given_by_lookups c.args.given.now) n (left c.args.tokens.now)) none) in
    first_of (search rules, grind (arith, common_steps))

pub one-returns-then-not-eat_key : goal.one-returns-then-not-eat_key
unfolding one
one-returns-then-not-eat_key t c =
    let e = deeper (λ n. one (given_by_lookups c.args.given.now) n (left c.args.tokens.now)) c.args.depth
    (omega arith) in
    first_of (search rules, grind (arith, common_steps))

pub one-returns-in_err-inner : goal.one-returns-in_err-inner
unfolding one
one-returns-in_err-inner t c =
    let e = deeper (λ n. one (given_by_lookups c.args.given.now) n (left c.args.tokens.now)) c.args.depth
    (omega arith) in
    first_of (search rules, grind (arith, common_steps))

pub one-returns : goal.one-returns
unfolding one
one-returns t c =
    let e = deeper (λ n. one (given_by_lookups c.args.given.now) n (left c.args.tokens.now)) c.args.depth
    (omega arith) in
    first_of (search rules, grind (arith, common_steps))

pub prim-returns-then-not-eat : goal.prim-returns-then-not-eat
unfolding prim in_brackets
prim-returns-then-not-eat t c =
    first_of (search rules, grind (arith, common_steps))

pub prim-returns-in_err-inner : goal.prim-returns-in_err-inner
unfolding prim in_brackets
prim-returns-in_err-inner t c =
    first_of (search rules, grind (arith, common_steps))

pub prim-returns-in_err-expect : goal.prim-returns-in_err-expect
unfolding prim in_brackets
prim-returns-in_err-expect t c =
    first_of (search rules, grind (arith, common_steps))

pub prim-returns : goal.prim-returns
unfolding prim in_brackets
prim-returns t c =
    first_of (search rules, grind (arith, common_steps))
