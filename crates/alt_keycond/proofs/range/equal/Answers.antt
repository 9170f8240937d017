-- The keys that go on with the value's part.
use Rattle.alt_keycond.specs.KeysAsked.{IsRangeOf, IsRangeUnder}
use Rattle.alt_keycond.specs.declared.ask.RangeAsk.TheVariants as asks
use Rattle.alt_keycond.proofs.Forms.{ok_on, under_eq}
use Rattle.alt_keycond.proofs.range.equal.Goals as goal

pub returns : goal.returns
returns c =
    let q = c.in_ok-with_part.field-0.items in
    ok_on (λ r. IsRangeOf q r.from r.to)
    (λ r. IsRangeUnder c.args.front.now (asks.Eq c.args.value.now) r.from r.to)
    (λ r h. under_eq c.args.front.now c.args.value.now q r.from r.to c.in_ok-with_part.ensures h)
    c.under.result c.under.ensures
