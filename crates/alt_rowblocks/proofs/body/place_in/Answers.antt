-- A header, and a place that can be one.
use Rattle.std.proofs.Common.{◌∙◌, ◌-◌, sym, ap, drop, arith}
use Rattle.alt_rowblocks.proofs.BodyLaws.{other_header, other_place}
use Rattle.alt_rowblocks.proofs.body.place_in.Goals as goal

pub returns-then-not-is_header-clause-none : goal.returns-then-not-is_header-clause-none
returns-then-not-is_header-clause-none c = λ bytes size head last.
    other_header bytes c.args.head.now head (c.is_header.ensures.no c.if-not-is_header.true)

pub returns-then-place-lt8-clause-none : goal.returns-then-place-lt8-clause-none
returns-then-place-lt8-clause-none c = λ bytes size head last.
    other_place bytes c.number_of-place.result c.number_of-place.ensures.small
    (ap (λ n. drop (n - 8) bytes) (sym size) ∙ sym last ∙ sym c.number_of-place.ensures.number)
    (λ low high. omega (arith, low, c.if-place-lt8.true))

pub returns-then-place-size-clause-none : goal.returns-then-place-size-clause-none
returns-then-place-size-clause-none c = λ bytes size head last.
    other_place bytes c.number_of-place.result c.number_of-place.ensures.small
    (ap (λ n. drop (n - 8) bytes) (sym size) ∙ sym last ∙ sym c.number_of-place.ensures.number)
    (λ low high. omega (arith, high, size, c.if-place-size.true))

pub returns-clause-some : goal.returns-clause-some
returns-clause-some c =
    (c.is_header.ensures.yes c.if-not-is_header.false, sym c.number_of-place.ensures.number)
