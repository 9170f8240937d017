-- The new description goes to the place of its name.
use Rattle.std.proofs.Common.{◌≡◌, sym, ap, ◌∙◌, ℕ, List}
use Rattle.std.proofs.lemmas.List.Elements.{All-same}
use Rattle.std.specs.FinMap as map
use Rattle.std.specs.List.{insert}
use Rattle.alt_machine.specs.State.{Texts}
use Rattle.alt_schema.specs.declared.schema.TableSchema.{TableSchema}
use Rattle.alt_tablerows.specs.Families.{HasOwnFamilies}
use Rattle.alt_opening.proofs.Listed.{All-insert, AreInOrder, tables, get-found, added, not_both}
use Rattle.alt_opening.proofs.catalog.Catalog.add.Goals as goal

inserted : (c : goal.In_ok-insert-in-Err) → AreInOrder c.insert.new.self.items
    × (tables c.insert.new.self.items ≡ map.insert
    (tables c.self.inside.entries.items) c.as_str.result.now c.args.schema)
inserted c = added c.as_str.result.now c.self.inside.entries.items c.in-Err.i c.self.invariant.0
    c.in-Err.ensures.goes c.in-Err.ensures.apart _
    c.args.schema c.in_ok-insert-in-Err.ensures.items (sym c.as_str.ensures.same)

pub unreachable-requires : goal.unreachable-requires
unreachable-requires c = not_both _ _
    (ap (λ m. map.get m c.args.schema.name) (sym c.self.view_is)
    ∙ ap (map.get (tables c.self.inside.entries.items)) (sym c.as_str.ensures.same)
    ∙ get-found c.as_str.result.now c.self.inside.entries.items c.in-Ok.field-0 c.self.invariant.0
    c.in-Ok.ensures.within c.in-Ok.ensures.named c.args.schema) c.requires.absent

pub invariant_of-self-in-Err : goal.invariant_of-self-in-Err
invariant_of-self-in-Err c = (
  (inserted c).0,
  All-same HasOwnFamilies _
      (insert c.self.inside.entries.items c.in-Err.i c.args.schema)
      c.in_ok-insert-in-Err.ensures.items
      (All-insert HasOwnFamilies c.self.inside.entries.items c.in-Err.i c.args.schema
      c.self.invariant.1
      c.requires.families),
)

pub returns-clause-ok : goal.returns-clause-ok
returns-clause-ok c =
    (inserted c).1
    ∙ ap (λ (m : Texts TableSchema). map.insert m c.as_str.result.now c.args.schema)
    c.self.view_is
    ∙ ap (λ (n : List ℕ). map.insert c.args.self.now n c.args.schema) c.as_str.ensures.same
