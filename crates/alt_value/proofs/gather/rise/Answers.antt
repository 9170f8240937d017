-- The closure compares by the order.
use Rattle.std.proofs.Common.{rules}
use Rattle.std.specs.Ordering.{is_lt}
use Rattle.std.proofs.lemmas.List.Sorted.{answers_always}
use Rattle.alt_value.proofs.gather.rise.Goals as goal

pub returns : goal.returns
returns g c = c.is_sorted_by.ensures.cases (λ x y. is_lt (g.K.Ord.cmp x y))
    (answers_always _ _ _ (λ f a r q k. search rules))
