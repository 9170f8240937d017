use Rattle.std.proofs.Common.{ℕ, ◌<◌, ◌+◌, ◌-◌, arith, ap, sym, ◌∙◌, nat_cmp}
use Rattle.alt_base.proofs.Orderings.{nat_cmp-greater, nat_cmp-less}
use Rattle.alt_decimal.specs.Digits.{width}
use Rattle.alt_decimal.proofs.Widths.{width-le}
use Rattle.alt_decimal.proofs.Orders.{lt-by_first, nat_cmp-filled, nat_cmp-filled_second}
use Rattle.alt_decimal.proofs.order.magnitude_order.Goals as goal

pub filled-requires : goal.filled-requires
filled-requires c = omega (
  arith,
  width-le 38 c.args.b c.requires.few_b,
  c.width.ensures.digits,
  c.width-2.ensures.digits,
)

pub filled-requires-else-j-i : goal.filled-requires-else-j-i
filled-requires-else-j-i c =
    omega (
      arith,
      width-le 38 c.args.a c.requires.few_a,
      c.width.ensures.digits,
      c.width-2.ensures.digits,
    )

pub returns-then-first_a-first_b : goal.returns-then-first_a-first_b
returns-then-first_a-first_b c =
    let sooner : width c.args.a + c.args.i < width c.args.b + c.args.j =
    omega (arith, c.width.ensures.digits, c.width-2.ensures.digits) in
    sym (nat_cmp-less _ _ (lt-by_first c.args.a c.args.i c.args.b c.args.j sooner
    c.requires.zero_b))

pub returns-then-first_b-first_a : goal.returns-then-first_b-first_a
returns-then-first_b-first_a c =
    let sooner : width c.args.b + c.args.j < width c.args.a + c.args.i =
    omega (arith, c.width.ensures.digits, c.width-2.ensures.digits) in
    sym (nat_cmp-greater _ _ (lt-by_first c.args.b c.args.j c.args.a c.args.i sooner
    c.requires.zero_a))

pub returns-then-j-i : goal.returns-then-j-i
returns-then-j-i c =
    c.cmp.ensures ∙ ap (λ (x : ℕ). nat_cmp x c.args.b) c.filled.ensures
    ∙ nat_cmp-filled c.args.a c.args.b c.args.i c.args.j (c.args.i - c.args.j) (omega arith)

pub returns-else-j-i : goal.returns-else-j-i
returns-else-j-i c =
    c.cmp-else-j-i.ensures ∙ ap (λ (x : ℕ). nat_cmp c.args.a x) c.filled-else-j-i.ensures
    ∙ nat_cmp-filled_second c.args.a c.args.b c.args.i c.args.j (c.args.j - c.args.i) (omega arith)
