-- Any value may be kept.
use Rattle.alt_expr.proofs.Words.{each_kept}
use Rattle.alt_expr.proofs.values.Values.of_item.Goals as goal

pub of_item-requires : goal.of_item-requires
of_item-requires c = each_kept c.args.i
