-- The description of the name gives way to the new one.
use Rattle.std.proofs.Common.{sym, ap, ◌∙◌, ℕ, List, is_some, set}
use Rattle.std.proofs.lemmas.Bool.{false≢true}
use Rattle.std.proofs.lemmas.List.Elements.{All-same}
use Rattle.std.specs.FinMap as map
use Rattle.alt_machine.specs.State.{Texts}
use Rattle.alt_schema.specs.declared.schema.TableSchema.{TableSchema}
use Rattle.alt_tablerows.specs.Families.{HasOwnFamilies}
use Rattle.alt_opening.proofs.Listed.{All-set, get-missed, replaced, tables}
use Rattle.alt_opening.proofs.catalog.Catalog.replace.Goals as goal

pub unreachable-requires : goal.unreachable-requires
unreachable-requires c = false≢true
    (sym (ap is_some (ap (λ m. map.get m c.args.schema.name) (sym c.self.view_is)
    ∙ ap (map.get (tables c.self.inside.entries.items)) (sym c.as_str.ensures.same)
    ∙ get-missed c.as_str.result.now c.self.inside.entries.items c.in-Err.field-0
    c.self.invariant.0 c.in-Err.ensures.goes c.in-Err.ensures.apart)) ∙ c.requires.there)

pub invariant_of-self : goal.invariant_of-self
invariant_of-self c = (
  (replaced c.as_str.result.now c.self.inside.entries.items c.in-Ok.i c.self.invariant.0
      c.in-Ok.ensures.within c.in-Ok.ensures.named _ c.args.schema c.put_at.ensures
      (sym c.as_str.ensures.same)).0,
  All-same HasOwnFamilies _ (set c.self.inside.entries.items c.in-Ok.i c.args.schema)
      c.put_at.ensures
      (All-set HasOwnFamilies c.self.inside.entries.items c.in-Ok.i c.args.schema
      c.self.invariant.1 c.requires.families),
)

pub returns : goal.returns
returns c = record {
  replaced = (replaced c.as_str.result.now c.self.inside.entries.items c.in-Ok.i c.self.invariant.0
      c.in-Ok.ensures.within c.in-Ok.ensures.named _ c.args.schema c.put_at.ensures
      (sym c.as_str.ensures.same)).1
      ∙ ap (λ (m : Texts TableSchema). map.insert m c.as_str.result.now c.args.schema)
      c.self.view_is
      ∙ ap (λ (n : List ℕ). map.insert c.args.self.now n c.args.schema) c.as_str.ensures.same;
}
