-- The entry of the name is taken out, and no other.
use Rattle.std.proofs.Common.{sym, ap, ◌∙◌}
use Rattle.std.proofs.lemmas.List.Elements.{All-same}
use Rattle.std.specs.FinMap as map
use Rattle.std.specs.List.{remove}
use Rattle.alt_tablerows.specs.Families.{HasOwnFamilies}
use Rattle.alt_opening.proofs.Listed.{All-remove, removed, remove-missed}
use Rattle.alt_opening.proofs.catalog.Catalog.remove.Goals as goal

pub invariant_of-self : goal.invariant_of-self
invariant_of-self c = (
  (removed c.args.name.now c.self.inside.entries.items c.in-Ok.i c.self.invariant.0
      c.in-Ok.ensures.within c.in-Ok.ensures.named _ c.take_out.ensures).0,
  All-same HasOwnFamilies _ (remove c.self.inside.entries.items c.in-Ok.i) c.take_out.ensures
      (All-remove HasOwnFamilies c.self.inside.entries.items c.in-Ok.i c.self.invariant.1),
)

pub returns-in-Ok : goal.returns-in-Ok
returns-in-Ok c = record {
  rest = (removed c.args.name.now c.self.inside.entries.items c.in-Ok.i c.self.invariant.0
      c.in-Ok.ensures.within c.in-Ok.ensures.named _ c.take_out.ensures).1
      ∙ ap (λ m. map.remove m c.args.name.now) c.self.view_is;
}

pub returns-in-Err : goal.returns-in-Err
returns-in-Err c = record {
  rest = sym c.self.view_is
      ∙ remove-missed c.args.name.now c.self.inside.entries.items c.in-Err.field-0
      c.self.invariant.0
      c.in-Err.ensures.goes c.in-Err.ensures.apart
      ∙ ap (λ m. map.remove m c.args.name.now) c.self.view_is;
}
