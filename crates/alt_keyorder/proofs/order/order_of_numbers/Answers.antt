use Rattle.std.proofs.Common.{ap, sym, ◌∙◌}
use Rattle.std.specs.Ordering.{ordering_then}
use Rattle.alt_decimal.specs.Spelled.{spelled}
use Rattle.alt_value.specs.Members.{text_order}
use Rattle.alt_keyorder.proofs.Parts.{apart-order}
use Rattle.alt_keyorder.proofs.order.order_of_numbers.Goals as goal

pub returns-in-N-clause-parts : goal.returns-in-N-clause-parts
returns-in-N-clause-parts c = λ x y.
    rw c.in-N.is
    (apart-order (spelled c.args.number.now) (spelled c.in-N.other) x y
    (λ r s e. ap spelled (c.spelling_order.ensures.apart r s e))
    ∙ ap (λ o. ordering_then o (text_order x y)) (sym c.spelling_order.ensures.spellings))
