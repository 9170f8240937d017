-- The changes of index rows are of other families than the change of the item's row.
use Rattle.std.proofs.Common.{[], ◌∷◌, ◌++◌, sym, ap, subst, ◌∙◌}
use Rattle.std.specs.Option.{option_copied}
use Rattle.alt_cells.specs.declared.batch.RowChange.{RowChange}
use Rattle.alt_rowchanges.proofs.IndexFamilies.{own_families, index_changes_new}
use Rattle.alt_rowchanges.proofs.items.view_batch.Goals as goal
use Rattle.alt_views.specs.Batches.{AreNew}
use Rattle.alt_views.specs.IndexRows.{index_changes}

pub index_changes-requires-clause-families : goal.index_changes-requires-clause-families
index_changes-requires-clause-families c = own_families c.args.schema.now c.requires.families

pub index_changes-requires-clause-rows : goal.index_changes-requires-clause-rows
index_changes-requires-clause-rows c =
    subst (λ (batch : _). AreNew batch (index_changes c.args.schema.now
    (option_copied c.as_ref.result) (option_copied c.as_ref-2.result)))
    (sym (c.in_ok-add.ensures.ok
    ∙ ap (λ changes. changes ++ c.in_ok-change.change ∷ []) c.new-batch.ensures))
    (index_changes_new c.args.schema.now c.requires.families _ _ c.in_ok-change.change
    (ap (λ (x : RowChange). x.family) c.in_ok-change.ensures))
