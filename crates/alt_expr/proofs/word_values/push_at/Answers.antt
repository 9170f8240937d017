-- Each value of the item may be kept, so the one at the place.
use Rattle.alt_expr.proofs.Words.{kept_at}
use Rattle.alt_expr.proofs.word_values.push_at.Goals as goal

pub word_value-requires : goal.word_value-requires
word_value-requires g c =
    kept_at g.V.Kept.may_keep c.args.item.now c.args.place _ c.in-Some.ensures.pair
    c.requires
