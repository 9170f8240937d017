-- The table with the least family above one in the list is that of the map.
use Rattle.std.proofs.Common.{◌≡◌, ◌<◌, ◌≤◌, ℕ, List, length, get_or, subst, option_map}
use Rattle.std.specs.List.{HoldsAt}
use Rattle.alt_machine.specs.State.{Texts}
use Rattle.alt_schema.specs.declared.schema.TableSchema.{TableSchema}
use Rattle.alt_opening.specs.private.Opening.{IsLeastAbove, IsNextTable}
use Rattle.alt_opening.proofs.EachTable.{next_table}
use Rattle.alt_opening.proofs.catalog.Catalog.above.Goals as goal

pub returns : goal.returns
returns c = record {
  above = subst (λ (m : Texts TableSchema). IsNextTable m c.args.family
      (option_map (λ d. d.now) c.get.result)) c.self.view_is
      (next_table c.self.inside.entries.items c.self.invariant.0 c.get.result c.deref.result.now
      c.least_above.result c.args.family c.get.ensures.lookup.3 c.deref.ensures.value
      (subst (λ (es : List TableSchema). c.least_above.result ≤ length es) c.as_slice.ensures.value
      c.least_above.ensures.within)
      (subst (λ (es : List TableSchema). c.least_above.result < length es
      → HoldsAt (IsLeastAbove es c.args.family) es c.least_above.result) c.as_slice.ensures.value
      c.least_above.ensures.least)
      (subst (λ (es : List TableSchema). c.least_above.result ≡ length es
      → (k : ℕ) (d : TableSchema) → k < length es → (get_or es k d).family ≤ c.args.family)
      c.as_slice.ensures.value c.least_above.ensures.none));
}
