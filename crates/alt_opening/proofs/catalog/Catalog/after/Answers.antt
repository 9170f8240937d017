-- The next entry behind the one found, or the one at the place where the name is to go.
use Rattle.std.proofs.Common.{sym, ap, ◌∙◌, slice_get}
use Rattle.alt_machine.specs.Ops.ListTables.{names_after}
use Rattle.alt_opening.specs.Order.{first_after}
use Rattle.alt_opening.proofs.Listed.{table_at, name_at, after-found, after-missed, name-found, name-missed}
use Rattle.alt_opening.proofs.catalog.Catalog.after.Goals as goal

pub returns-in-Ok : goal.returns-in-Ok
returns-in-Ok c = record {
  table = table_at c.get.result c.deref.result.now c.self.inside.entries.items _
      c.get.ensures.lookup.3 c.deref.ensures.value
      ∙ sym (after-found c.args.name.now c.self.inside.entries.items c.in-Ok.i c.self.invariant.0
      c.in-Ok.ensures.within c.in-Ok.ensures.named)
      ∙ ap (first_after c.args.name.now) c.self.view_is;
  name = name_at c.get.result c.deref.result.now c.self.inside.entries.items _
      c.get.ensures.lookup.3 c.deref.ensures.value
      ∙ sym (name-found c.args.name.now c.self.inside.entries.items c.in-Ok.i c.self.invariant.0
      c.in-Ok.ensures.within c.in-Ok.ensures.named)
      ∙ ap (λ m. slice_get (names_after c.args.name.now m) 0) c.self.view_is;
}

pub returns-in-Err : goal.returns-in-Err
returns-in-Err c = record {
  table = table_at c.get-in-Err.result c.deref-in-Err.result.now c.self.inside.entries.items _
      c.get-in-Err.ensures.lookup.3 c.deref-in-Err.ensures.value
      ∙ sym (after-missed c.args.name.now c.self.inside.entries.items c.in-Err.i c.self.invariant.0
      c.in-Err.ensures.goes c.in-Err.ensures.apart)
      ∙ ap (first_after c.args.name.now) c.self.view_is;
  name = name_at c.get-in-Err.result c.deref-in-Err.result.now c.self.inside.entries.items _
      c.get-in-Err.ensures.lookup.3 c.deref-in-Err.ensures.value
      ∙ sym (name-missed c.args.name.now c.self.inside.entries.items c.in-Err.i c.self.invariant.0
      c.in-Err.ensures.goes c.in-Err.ensures.apart)
      ∙ ap (λ m. slice_get (names_after c.args.name.now m) 0) c.self.view_is;
}
