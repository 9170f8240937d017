-- The row that was put is joined to the one of its key.
use Rattle.std.proofs.Common.{List, ℕ, [], ◌∷◌, ap, ◌∙◌}
use Rattle.std.specs.FinMap.{from_sorted}
use Rattle.alt_cells.specs.Joined.{joined_map}
use Rattle.alt_cells.specs.Keys.{key_cmp}
use Rattle.alt_cells.specs.Rows.{join_row}
use Rattle.alt_memtable.proofs.Putting.{put_joined}
use Rattle.alt_memtable.proofs.table.Memtable.put.Goals as goal

pub returns-clause-rows : goal.returns-clause-rows
returns-clause-rows c =
    let es = c.self.inside.rows.entries in
    let row = c.args.row in
    ap (from_sorted {R = key_cmp}) c.in_ok-put_row.ensures.put
    ∙ put_joined es c.in_ok-key.key row c.put_row.ensures.ordered
    ∙ ap (λ (k : List ℕ). joined_map join_row (from_sorted es) (from_sorted ((k, row) ∷ [])))
    c.in_ok-key.ensures.copied
    ∙ ap (λ v. joined_map join_row v.0 (from_sorted ((c.args.key.now, row) ∷ []))) c.self.view_is
