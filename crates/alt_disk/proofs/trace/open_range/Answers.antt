use Rattle.std.proofs.Common.{◌≡◌, ◌-◌, min, length, ℕ, List, Option, None, slice_set, ◌∙◌, ap, sym, arith}
use Rattle.alt_disk.proofs.Picking.{opened-nothing, opened-more, opened-within}
use Rattle.alt_disk.proofs.trace.open_range.Goals as goal

pub loop-i-init : goal.loop-i-init
loop-i-init c = sym (opened-nothing c.min-from.result
    (c.min-from.result - c.min-from.result) c.args.outline.known.items (omega arith))

pub loop-i-preserved : goal.loop-i-preserved
loop-i-preserved c =
    let known = c.args.outline.known.items in
    ap (λ (l : List (Option ℕ)). slice_set l c.loop-i.i None) c.loop-i.invariant
    ∙ opened-more known c.min-from.result c.loop-i.i (omega arith) (omega arith)

pub returns-clause-known : goal.returns-clause-known
returns-clause-known c =
    let known = c.args.outline.known.items in
    let size : c.len.result ≡ length known = omega (arith, c.len.ensures) in
    let size-2 : c.len-2.result ≡ length known = omega (arith, c.len-2.ensures) in
    c.loop-i.invariant
    ∙ opened-within known c.args.at c.args.count c.min-from.result (c.loop-i.i - c.min-from.result)
    (c.min-from.ensures ∙ ap (λ (n : ℕ). min c.args.at n) size)
    (omega (arith, c.min.ensures, size-2, c.loop-i-test.false, c.loop-i.auto.i-end))
