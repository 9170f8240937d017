-- The row that was taken there is the one that stands there.
use Rattle.std.proofs.Common.{◌∙◌, sym, arith}
use Rattle.alt_rowblocks.proofs.HandLaws.{place_within, entry_there}
use Rattle.alt_rowblocks.proofs.hand.entry_at.Goals as goal

pub returns-then-place-bytes-clause-none : goal.returns-then-place-bytes-clause-none
returns-then-place-bytes-clause-none c = λ e held at.
    omega (arith, place_within c.args.bytes.now c.args.place e held at, c.if-place-bytes.true)

pub returns-in-Some-clause-some : goal.returns-in-Some-clause-some
returns-in-Some-clause-some c = λ e held at.
    let p = rw c.in-Some.is at c.in_ok-key.ensures.some in
    entry_there c.args.bytes.now c.args.place e held at (c.in-Some.key, c.in-Some.row)
    c.split_at.result.1.now c.in-Some.field-0-2.now p.0 c.split_at.ensures.back p.1

pub returns-in-Some-clause-given : goal.returns-in-Some-clause-given
returns-in-Some-clause-given c =
    let p = rw c.in-Some.is at c.in_ok-key.ensures.some in
    (p.0, ((c.in-Some.field-0-2.now, sym c.split_at.ensures.back ∙ p.1), tt))
