-- The row of each item that is in the index comes.
use Rattle.std.proofs.Common.{◌≡◌, ◌+◌, ◌++◌, refl, sym, ap, subst, ◌∙◌, false, [], ◌∷◌, List, Some, None, length, get_or, option_map, slice_get, arith}
use Rattle.std.proofs.lemmas.List.{take_all}
use Rattle.std.proofs.lemmas.Option.{slice_get_read, same_Some}
use Rattle.alt_cells.specs.Batches.{has_row}
use Rattle.alt_cells.specs.Changes.{change_between}
use Rattle.alt_schema.specs.declared.schema.IndexSchema.{IndexSchema}
use Rattle.alt_rowchanges.specs.Steps.{step_row_changes}
use Rattle.alt_rowchanges.proofs.StepParts.{row_of, step_none, step_row}
use Rattle.alt_rowchanges.proofs.build.step.Goals as goal
use Rattle.alt_rowchanges.proofs.build.step.Goals.{in-Some+in_ok-put_row, in_default}
use Rattle.alt_views.specs.IndexRows.{row_in_index}
use Rattle.alt_views.specs.Read.{row_at}

pub loop-n-preserved : goal.loop-n-preserved
loop-n-preserved c i building low apart =
    let d = c.args.schema.now in
    let items = c.args.items.now in
    let x = c.index-items-n.result in
    let at : slice_get items c.loop-n.n ≡ Some x = slice_get_read items (length items) c.loop-n.n x
    refl c.loop-n-test.true c.index-items-n.is in
    let row : option_map row_at c.in_ok-row.field-0 ≡ row_in_index d i x =
    row_of d i building c.building_number-at.result c.building_number-at.ensures.there
    (length c.as_slice-locals.result.now) (ap length c.as_slice-locals.ensures.members) x
    (option_map row_at c.in_ok-row.field-0) c.in_ok-row.ensures.row in
    let own : c.index-globals-at.result ≡ i = same_Some _ _
    (sym (slice_get_read d.globals (length d.globals) c.building_number-at.result
    c.index-globals-at.result refl c.building_number-at.ensures.within
    (subst (λ (ys : List IndexSchema). c.index-globals-at.result
    ≡ get_or ys c.building_number-at.result c.index-globals-at.result)
    c.as_slice-globals.ensures.members c.index-globals-at.is))
    ∙ c.building_number-at.ensures.there ∙ building) in
    let so = c.loop-n.invariant i building low apart in
    elim c.match-branch-7.branch [
      | in-Some+in_ok-put_row w ↦
          step_row d c.args.later.now i low items apart c.loop-n.n x at c.loop-n.batch
          c.match-branch-7.batch so w.in-Some.row.key w.in-Some.row.columns
          (sym row ∙ ap (option_map row_at) w.in-Some.is)
          (λ free. w.batch-is
          ∙ subst (λ (j : IndexSchema). has_row c.loop-n.batch j.family w.in-Some.row.key ≡ false
          → w.put_row.new.batch ≡ c.loop-n.batch
          ++ change_between j.family w.in-Some.row.key None (Some w.in-Some.row.columns) ∷ [])
          (sym c.index-globals-at.is ∙ own)
          w.in_ok-put_row.ensures.put free)
      | in_default w ↦
          step_none d c.args.later.now i low items apart c.loop-n.n x at c.loop-n.batch
          c.match-branch-7.batch so (sym row ∙ ap (option_map row_at) w.in_default.is) w.batch-is
    ]

pub returns : goal.returns
returns c = record {
  changes = λ i building low apart. c.loop-n.invariant i building low apart
      ∙ ap (step_row_changes c.args.schema.now c.args.later.now i)
      (take_all c.loop-n.n c.args.items.now (omega (arith, c.loop-n-test.false)));
}
