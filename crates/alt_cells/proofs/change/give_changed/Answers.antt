-- A column more, which changed or not.
use Rattle.std.proofs.Common.{false, ap, ◌∙◌, sym}
use Rattle.std.specs.Prelude.{not}
use Rattle.std.specs.FinMap.{get}
use Rattle.std.specs.Option.{option_map_or}
use Rattle.alt_cells.specs.Changes.{with_value, differs, is_changed}
use Rattle.alt_cells.proofs.Kept.{kept, left_out}
use Rattle.alt_cells.proofs.Searched.{get_entry}
use Rattle.alt_cells.proofs.change.give_changed.Goals as goal
use Rattle.alt_cells.proofs.change.give_changed.Goals.{then-not-has_value+in_ok-give, else-not-has_value}

pub loop-name-preserved : goal.loop-name-preserved
loop-name-preserved c =
    let old = c.args.old.now in
    let new = c.args.new.now in
    let items = c.as_slice-name-items.result.now in
    let n = c.loop-name.name-index in
    let e = c.loop-name-item.result in
    let test = ap (λ o. option_map_or (differs (get old e.0)) o false)
    (get_entry new items n e c.as_slice-name-items.ensures c.loop-name-test.true
    c.loop-name-item.is)
    ∙ sym c.has_value.ensures in
    elim c.if-not-has_value.branch [
      | then-not-has_value+in_ok-give w ↦
          w.cells-is ∙ w.in_ok-give.ensures
          ∙ kept (λ f. is_changed old new f.0) with_value items n e c.args.cells.now
          c.loop-name.cells
          c.loop-name-test.true c.loop-name-item.is
          (test ∙ ap not w.if-not-has_value.true) c.loop-name.invariant
      | else-not-has_value w ↦
          w.cells-is
          ∙ left_out
          (λ f. is_changed old new f.0) with_value items n e c.args.cells.now c.loop-name.cells
          c.loop-name-test.true c.loop-name-item.is
          (test ∙ ap not w.if-not-has_value.false) c.loop-name.invariant
    ]
