-- The keys under the HASH value that go on with what is asked are those that the ask wants.
use Rattle.std.proofs.Common.{◌∙◌, subst}
use Rattle.alt_keycond.specs.KeysAsked.{HoldsAsked, IsRangeUnder}
use Rattle.alt_keycond.proofs.Forms.{ok_on}
use Rattle.alt_keycond.proofs.Held.{holds_asked}
use Rattle.alt_keycond.proofs.range.key_range.Goals as goal

pub returns : goal.returns
returns c = record {
  holds = ok_on (λ r. IsRangeUnder c.as_slice.result.now c.args.ask.now.range r.from r.to)
      (λ r. HoldsAsked c.args.ask.now r.from r.to)
      (λ r h. holds_asked c.args.ask.now r.from r.to c.requires.range
      (subst (λ p. IsRangeUnder p c.args.ask.now.range r.from r.to)
      (c.as_slice.ensures.value ∙ c.in_ok-hash.ensures) h))
      c.range_under.result c.range_under.ensures;
}
