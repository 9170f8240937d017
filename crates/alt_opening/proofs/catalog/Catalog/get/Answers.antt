-- The search finds the entry of the name, or that there is none.
use Rattle.std.proofs.Common.{sym, ap, subst, ◌∙◌, Some}
use Rattle.std.specs.FinMap as map
use Rattle.alt_schema.specs.declared.schema.TableSchema.{TableSchema}
use Rattle.alt_tablerows.specs.Families.{HasOwnFamilies}
use Rattle.alt_opening.proofs.Listed.{itself, get-found, get-missed}
use Rattle.alt_opening.proofs.catalog.Catalog.get.Goals as goal

pub returns-in-Ok : goal.returns-in-Ok
returns-in-Ok c = record {
  table = ap (λ (e : TableSchema). Some (itself e)) c.index.ensures
      ∙ sym (get-found c.args.name.now c.self.inside.entries.items c.in-Ok.i c.self.invariant.0
      c.in-Ok.ensures.within c.in-Ok.ensures.named c.index.result.now)
      ∙ ap (λ m. map.get m c.args.name.now) c.self.view_is;
  families = subst HasOwnFamilies (sym c.index.ensures)
      (c.self.invariant.1 c.in-Ok.i c.index.result.now c.in-Ok.ensures.within);
}

pub returns-in-Err : goal.returns-in-Err
returns-in-Err c = record {
  table = sym (get-missed c.args.name.now c.self.inside.entries.items c.in-Err.field-0
      c.self.invariant.0 c.in-Err.ensures.goes c.in-Err.ensures.apart)
      ∙ ap (λ m. map.get m c.args.name.now) c.self.view_is;
  families = tt;
}
