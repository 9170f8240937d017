-- The number that stands there is the only one.
use Rattle.std.proofs.Common.{inr, refl, rules, subst, ◌++◌, ◌∷◌, []}
use Rattle.std.specs.Ordering.{int_cmp}
use Rattle.alt_value.specs.Members.{IsSet}
use Rattle.alt_cellbytes.proofs.Cuts.{not_both}
use Rattle.alt_cellbytes.proofs.members.next_number.Goals as goal

pub returns-else-is_next_number-clause-stop : goal.returns-else-is_next_number-clause-stop
returns-else-is_next_number-clause-stop c =
    inr (
      c.in-Ok.number,
      c.in-Ok.rest.now,
      c.in-Ok.ensures.number.0,
      c.in-Ok.ensures.number.1,
      (λ s. not_both _ c.if-is_next_number.false
          (c.is_next_number.ensures.1 (subst (λ z. IsSet int_cmp (c.args.set.now ++ z ∷ []))
          (search rules) s))),
      refl,
    )
