use Rattle.std.proofs.Common.{◌≡◌, ◌-◌, length, sym, arith}
use Rattle.std.proofs.lemmas.Bool.{eqb-true, eqb-false}
use Rattle.alt_decimal.proofs.Trimming.{trims_whole, trims_fraction, trims_both}
use Rattle.alt_decimal.proofs.read.trimmed.Goals as goal

pub returns-then-is_empty : goal.returns-then-is_empty
returns-then-is_empty c =
    let f = c.before_zeros-f.result.now in
    let w = c.behind_zeros-w.result.now in
    let v = c.before_zeros-v.result.now in
    trims_whole c.args.whole.now c.args.fraction.now w v f _ (length w - length v)
    (length c.args.fraction.now - length f)
    c.behind_zeros-w.ensures.zeros c.before_zeros-v.ensures.zeros c.before_zeros-f.ensures.zeros
    (eqb-true _ 0 (sym c.if-is_empty.ensures)) c.behind_zeros-w.ensures.first
    c.before_zeros-v.ensures.last (omega arith)

pub returns-then-is_empty-2 : goal.returns-then-is_empty-2
returns-then-is_empty-2 c =
    let f = c.before_zeros-f.result.now in
    let w = c.behind_zeros-w.result.now in
    let g = c.behind_zeros.result.now in
    trims_fraction c.args.whole.now c.args.fraction.now w f g _ (length f - length g)
    (length c.args.fraction.now - length f)
    c.behind_zeros-w.ensures.zeros c.before_zeros-f.ensures.zeros c.behind_zeros.ensures.zeros
    (eqb-true _ 0 (sym c.if-is_empty-2.ensures)) c.behind_zeros.ensures.first
    c.before_zeros-f.ensures.last (omega arith)

pub returns-else-is_empty-2 : goal.returns-else-is_empty-2
returns-else-is_empty-2 c =
    let f = c.before_zeros-f.result.now in
    let w = c.behind_zeros-w.result.now in
    let some_w : length w ≡ 0 → ⊥ = eqb-false _ 0 (sym c.if-is_empty-2.ensures) in
    let some_f : length f ≡ 0 → ⊥ = eqb-false _ 0 (sym c.if-is_empty.ensures) in
    trims_both c.args.whole.now c.args.fraction.now w f _ (length c.args.fraction.now - length f)
    c.behind_zeros-w.ensures.zeros c.before_zeros-f.ensures.zeros (omega (arith, some_w))
    (omega (arith, some_f))
    c.behind_zeros-w.ensures.first c.before_zeros-f.ensures.last (omega arith)
