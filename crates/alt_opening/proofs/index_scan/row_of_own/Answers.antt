-- The item that was read is the only one of the row.
use Rattle.std.proofs.Common.{◌≡◌, sym, ap, ◌∙◌}
use Rattle.std.proofs.lemmas.Result.{IfOk-weaker}
use Rattle.std.specs.Prelude.{option_and_then}
use Rattle.alt_tablerows.specs.IndexRows.{built_row}
use Rattle.alt_tablerows.proofs.ItemRowLaws.{item_columns-one}
use Rattle.alt_opening.proofs.index_scan.row_of_own.Goals as goal

pub returns-in-Ok : goal.returns-in-Ok
returns-in-Ok c = record {
  row = λ i item at read of_item.
      let same : c.in-Ok.item ≡ item = item_columns-one c.in-Ok.item item
      c.in-Ok.ensures.item.0.whole read.whole (sym c.in-Ok.ensures.item.1 ∙ of_item) in
      IfOk-weaker c.built_row.result _ _
      (λ own is. is ∙ ap (option_and_then (λ j. built_row c.args.schema.now j c.in-Ok.item)) at
      ∙ ap (built_row c.args.schema.now i) same)
      c.built_row.ensures.row;
}
