-- No entry of the list clashes exactly where no table of the map does.
use Rattle.std.proofs.Common.{◌≡◌, subst, ◌∙◌, ap, ℕ, List, false}
use Rattle.std.specs.Prelude.{◌↔◌, Some}
use Rattle.std.specs.List.{list_any}
use Rattle.std.specs.FinMap as map
use Rattle.alt_machine.specs.State.{Texts}
use Rattle.alt_schema.specs.declared.schema.TableSchema.{TableSchema}
use Rattle.alt_opening.specs.private.Opening.{shares}
use Rattle.alt_opening.proofs.EachTable.{no_clash}
use Rattle.alt_opening.proofs.catalog.Catalog.clashes.Goals as goal

pub returns : goal.returns
returns c = subst (λ (m : Texts TableSchema). c.any_clashes.result ≡ false
    ↔ ((name : List ℕ) (d : TableSchema) → map.get m name ≡ Some d
    → shares c.args.families.now d ≡ false)) c.self.view_is
    (no_clash c.self.inside.entries.items c.self.invariant.0 c.args.families.now
    c.any_clashes.result (c.any_clashes.ensures
    ∙ ap (list_any (λ (d : TableSchema). shares c.args.families.now d)) c.as_slice.ensures.value))
