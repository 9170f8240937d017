-- What is kept for later is put at the end.
use Rattle.std.proofs.Common.{ap, ◌∙◌, map}
use Rattle.alt_value.specs.Item.{with_pair, with_pairs}
use Rattle.alt_value.specs.Stands.{tree_of, pair_of}
use Rattle.alt_value.proofs.InTurn.{with_pairs-push}
use Rattle.alt_value.proofs.building.ItemBuilder.put.Goals as goal

pub returns-clause-ok : goal.returns-clause-ok
returns-clause-ok c =
    ap (λ es. with_pairs (map pair_of es) c.self.inside.item) c.in_ok-push.ensures.items
    ∙ with_pairs-push c.self.inside.later.items _ c.self.inside.item
    ∙ ap (λ n. with_pair n (tree_of c.args.a)
    (with_pairs (map pair_of c.self.inside.later.items) c.self.inside.item))
    c.in_ok-name.ensures.copied
    ∙ ap (with_pair c.args.name.now (tree_of c.args.a)) c.self.view_is
