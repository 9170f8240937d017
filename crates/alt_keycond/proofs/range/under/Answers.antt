-- The keys that begin with a prefix end there.
use Rattle.std.proofs.Common.{sym, subst}
use Rattle.std.specs.Prelude.{◌↔◌}
use Rattle.alt_base.specs.Prefix.{IsPrefix}
use Rattle.alt_keyorder.specs.Range.{IsInRange}
use Rattle.alt_keycond.specs.KeysAsked.{IsRangeOf}
use Rattle.alt_keycond.proofs.range.under.Goals as goal

pub returns : goal.returns
unfolding IsRangeOf
returns c = λ key bytes.
    subst (λ f. IsPrefix c.args.prefix.items key ↔ IsInRange f c.in_ok-to.to key)
    (sym c.from_vec.ensures.same)
    (subst (λ q. IsPrefix q key ↔ IsInRange q c.in_ok-to.to key) c.as_slice.ensures.value
    (c.in_ok-to.ensures.ends key bytes))
