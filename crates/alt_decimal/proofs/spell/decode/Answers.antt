use Rattle.std.proofs.Common.{◌≤◌, ◌*◌, ◌-◌, ◌^◌, arith}
use Rattle.alt_decimal.proofs.Decodings.{normal_even, normal_odd, decodes_even, decodes_odd}
use Rattle.alt_decimal.proofs.spell.decode.Goals as goal

pub invariant_of-result : goal.invariant_of-result
invariant_of-result c =
    let low : 10 ^ (2 * c.args.count - 1) ≤ c.args.c = rw (← c.power.ensures) c.if-c-power.false in
    normal_odd c.args.negative c.args.first c.args.c c.args.count
    (omega arith) c.requires.few c.requires.below low (omega arith)
    c.if-c-eq0-2.true c.if-c-eq0.false

pub invariant_of-result-else-c-eq0-2 : goal.invariant_of-result-else-c-eq0-2
invariant_of-result-else-c-eq0-2 c =
    let low : 10 ^ (2 * c.args.count - 1) ≤ c.args.c = rw (← c.power.ensures) c.if-c-power.false in
    normal_even c.args.negative c.args.first c.args.c c.args.count
    (omega arith) c.requires.few c.requires.below low (omega arith)
    (omega (arith, c.if-c-eq0-2.false))

pub returns-then-c-eq0-2-clause-some : goal.returns-then-c-eq0-2-clause-some
returns-then-c-eq0-2-clause-some c =
    let low : 10 ^ (2 * c.args.count - 1) ≤ c.args.c = rw (← c.power.ensures) c.if-c-power.false in
    decodes_odd c.args.negative c.args.first c.args.c c.args.count
    (omega arith) c.requires.few c.requires.below low (omega arith)
    c.if-c-eq0-2.true c.if-c-eq0.false

pub returns-else-c-eq0-2-clause-some : goal.returns-else-c-eq0-2-clause-some
returns-else-c-eq0-2-clause-some c =
    let low : 10 ^ (2 * c.args.count - 1) ≤ c.args.c = rw (← c.power.ensures) c.if-c-power.false in
    decodes_even c.args.negative c.args.first c.args.c c.args.count
    (omega arith) c.requires.few c.requires.below low (omega arith)
    (omega (arith, c.if-c-eq0-2.false))
