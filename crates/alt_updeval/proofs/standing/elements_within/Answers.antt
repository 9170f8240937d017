use Rattle.std.proofs.Common.{sym, ap, ◌∙◌, nat_le}
use Rattle.alt_value.specs.Size.{depth}
use Rattle.alt_value.specs.Stands.{tree_of}
use Rattle.alt_updeval.proofs.Large.{alone}
use Rattle.alt_updeval.proofs.standing.elements_within.Goals as goal

pub returns-in-L : goal.returns-in-L
returns-in-L c = c.depth_within.ensures.depth
    ∙ ap (λ t. nat_le (depth t) c.args.most) (sym (alone (tree_of c.args.piece.now) _ (ap tree_of c.in-L.is)))
