-- The one column has the bytes of a number.
use Rattle.std.proofs.Common.{rules, arith}
use Rattle.std.proofs.lemmas.Bool.{false≢true}
use Rattle.alt_tablerows.proofs.TrimmedRow.{no_bytes, tells_it, tells_none}
use Rattle.alt_tablerows.proofs.trimmed_row.tells_trimmed.Goals as goal

pub returns-then-number-ge1 : goal.returns-then-number-ge1
returns-then-number-ge1 c = tells_it c.args.row.now c.in-Some.bytes.now c.args.next (search rules)
    c.in-Some.ensures.value c.in-Some-number_of.number c.in-Some-number_of.ensures.number.0
    c.in-Some-number_of.ensures.number.1 (omega (arith, c.if-number-ge1.true))

pub returns-else-number-ge1 : goal.returns-else-number-ge1
returns-else-number-ge1 c = tells_none c.args.row.now c.in-Some.bytes.now c.args.next
    (search rules) c.in-Some.ensures.value c.in-Some-number_of.number
    c.in-Some-number_of.ensures.number.0 c.in-Some-number_of.ensures.number.1
    (omega (arith, c.if-number-ge1.false))

pub returns-in-None : goal.returns-in-None
returns-in-None c = (
  λ no. absurd (false≢true no),
  λ told. absurd (no_bytes c.args.row.now c.in-Some.bytes.now c.args.next (search rules)
      c.in-Some.ensures.value (λ n small at.
      let no = c.in-None.ensures.none n small at in let f : ⊥ = cc in f) told),
)
