-- The keys that go on with the front's bytes.
use Rattle.alt_keycond.specs.KeysAsked.{IsRangeOf, IsRangeUnder}
use Rattle.alt_keycond.specs.declared.ask.RangeAsk.TheVariants as asks
use Rattle.alt_keycond.proofs.Forms.{ok_on, under_begins}
use Rattle.alt_keycond.proofs.range.begins.Goals as goal

pub returns : goal.returns
returns c =
    let q = c.in_ok-with_front.field-0.items in
    ok_on (λ r. IsRangeOf q r.from r.to)
    (λ r. IsRangeUnder c.args.front.now (asks.Begins c.args.value.now) r.from r.to)
    (λ r h. under_begins c.args.front.now c.args.value.now q r.from r.to c.in_ok-with_front.ensures
    h) c.under.result c.under.ensures
