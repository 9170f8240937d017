-- An index that keeps nothing of what differs stays; of another the rows before and after are those of the items.
use Rattle.std.proofs.Common.{◌≡◌, ◌++◌, ℕ, List, [], option_map, Vec, Global, Bor, sym, ap, subst, ◌∙◌, append-nil}
use Rattle.std.specs.Prelude.{unwrap_or}
use Rattle.alt_cells.specs.declared.batch.RowChange.{RowChange}
use Rattle.alt_views.specs.Batches.{AreNew}
use Rattle.alt_views.specs.IndexRows.{built_row_changes, moved_changes}
use Rattle.alt_views.proofs.Alike.{nothing_changes}
use Rattle.alt_views.proofs.Beside.{told}
use Rattle.alt_views.proofs.changes.change_index.Goals as goal

pub returns-then-not-may_change : goal.returns-then-not-may_change
returns-then-not-may_change c =
    let d = c.args.schema.now in
    let own = c.index_at-index.result.now in
    let old = option_map (λ i. i.now) c.args.old in
    let new = option_map (λ i. i.now) c.args.new in
    let names = option_map (λ (v : Vec (Bor (List ℕ)) Global). told v.items) c.args.names.now in
    let batch = c.args.batch.now in
    let stays : built_row_changes d old new own ≡ [] =
    nothing_changes d own names old new c.requires.names (sym c.if-not-may_change.ensures.kept) in
    record {
      changes = λ i at. sym (append-nil batch)
          ∙ ap (λ (cs : List RowChange). batch ++ cs) (sym stays)
          ∙ ap (λ x. batch ++ built_row_changes d old new x)
          (ap (λ o. unwrap_or o own) (c.index_at-index.ensures.index ∙ at));
    }

pub change_row-requires : goal.change_row-requires
change_row-requires c =
    let i = c.index_at-index.result.now in
    let at = sym c.index_at-index.ensures.index in
    record {
      rows = subst (AreNew c.args.batch.now)
          (λ j. moved_changes i.family (sym (c.in_ok-before.ensures.row i at) j)
          (sym (c.in_ok-after.ensures.row i at) j)) (c.requires.rows i at);
    }
