-- A member that has no place is refused.
use Rattle.std.proofs.Common.{sym, ap, subst, ◌∙◌}
use Rattle.std.specs.FinMap as finite
use Rattle.alt_machine.specs.Batches.{placed}
use Rattle.alt_machine.specs.declared.PlacedMember.{PlacedMember}
use Rattle.alt_machine.specs.Refusals.{or_refused}
use Rattle.alt_request.specs.Steps.{Comes}
use Rattle.alt_ops_batch.proofs.Founds.{unplaced}
use Rattle.alt_request.proofs.Reaching.{err_is}
use Rattle.alt_shape.specs.Refusals.{not_found}
use Rattle.alt_request.specs.TablesStands.{catalog_of}
use Rattle.alt_ops_batch.proofs.members.place.Goals as goal

pub returns-in_err-place : goal.returns-in_err-place
returns-in_err-place c =
    let catalog = catalog_of c.args.tables.now in record {
      placed = subst (Comes {X = PlacedMember} (λ p. p) (placed catalog c.args.member))
          (sym (err_is c.from_residual-in_err-place.result c.in_err-place.field-0.0
          c.from_residual-in_err-place.ensures))
          (unplaced catalog c.args.member c.in_ok-schema.schema.now
          (ap (λ name. or_refused not_found (finite.get catalog name)) (sym c.as_str.ensures.same)
          ∙ c.in_ok-schema.ensures.found)
          c.in_err-place.field-0.0 c.in_err-place.ensures.place);
    }
