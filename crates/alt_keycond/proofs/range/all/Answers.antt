-- All keys under the front.
use Rattle.alt_keycond.specs.KeysAsked.{IsRangeOf, IsRangeUnder}
use Rattle.alt_keycond.specs.declared.ask.RangeAsk.TheVariants as asks
use Rattle.alt_keycond.proofs.Forms.{ok_on, under_all}
use Rattle.alt_keycond.proofs.range.all.Goals as goal

pub returns : goal.returns
returns c =
    let q = c.in_ok-from_slice.field-0.items in
    ok_on (λ r. IsRangeOf q r.from r.to) (λ r. IsRangeUnder c.args.front.now asks.All r.from r.to)
    (λ r h. under_all c.args.front.now q r.from r.to c.in_ok-from_slice.ensures.items h)
    c.under.result c.under.ensures
