-- The tables of the list are those of the map.
use Rattle.std.proofs.Common.{sym, ap, subst, ◌∙◌, ◌∷◌, []}
use Rattle.std.proofs.lemmas.Result.{IfOk-weaker}
use Rattle.alt_machine.specs.State.{Texts}
use Rattle.alt_schema.specs.declared.schema.TableSchema.{TableSchema}
use Rattle.alt_opening.specs.Live.{AreLiveIn, with_tables}
use Rattle.alt_opening.specs.StateRows.{catalog_family}
use Rattle.alt_opening.proofs.LiveLaws.{live_in}
use Rattle.alt_opening.proofs.catalog.Catalog.live.Goals as goal

pub returns : goal.returns
returns c = record {
  live = IfOk-weaker c.live_among.result _ _
      (λ live is. subst (λ (m : Texts TableSchema). AreLiveIn m live) c.self.view_is
      (subst (AreLiveIn _) (sym (is
      ∙ ap (λ (es : _). with_tables es (catalog_family ∷ [])) c.as_slice.ensures.value))
      (live_in c.self.inside.entries.items c.self.invariant.0)))
      c.live_among.ensures;
}
