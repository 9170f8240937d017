-- The entries of the item so far, and then those that were kept for later.
use Rattle.std.proofs.Common.{◌≡◌, sym, ap, subst, ◌∙◌, [], map, IfOk}
use Rattle.std.specs.List.{All}
use Rattle.std.proofs.lemmas.List.Elements.{All-append}
use Rattle.alt_value.specs.Item.{with_pairs}
use Rattle.alt_value.specs.Named.{IsNamed}
use Rattle.alt_value.specs.Stands.{pair_of}
use Rattle.alt_value.proofs.InTurn.{named-item, with_pairs-behind}
use Rattle.alt_value.proofs.building.ItemBuilder.into_item.Goals as goal

pub item_of_pairs-requires : goal.item_of_pairs-requires
item_of_pairs-requires c = subst (All IsNamed) (sym c.in_ok-append.ensures.items)
    (All-append IsNamed c.item.inside.entries.items c.self.inside.later.items
    (named-item c.item.inside.entries.items c.item.invariant.names) c.self.invariant)

pub returns : goal.returns
returns c = record {
  item = subst (λ v. IfOk c.item_of_pairs.result (λ i. i ≡ v))
      (ap (λ es. with_pairs (map pair_of es) []) c.in_ok-append.ensures.items
      ∙ with_pairs-behind c.item.inside.entries.items c.self.inside.later.items
      c.item.invariant.names
      ∙ ap (with_pairs (map pair_of c.self.inside.later.items)) c.item.view_is ∙ c.self.view_is)
      c.item_of_pairs.ensures;
}
