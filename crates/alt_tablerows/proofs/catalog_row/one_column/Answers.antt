-- The row has that entry.
use Rattle.std.proofs.Common.{◌∙◌, [], ◌∷◌, ◌++◌}
use Rattle.alt_tablerows.proofs.OneColumn.{one_entry}
use Rattle.alt_tablerows.proofs.catalog_row.one_column.Goals as goal

pub returns : goal.returns
returns c = record {
  row = one_entry c.push.new.self c.args.name.now c.args.value.items
      (c.in_ok-push.ensures.ok ∙ (λ i. c.new-row.ensures.none i
      ++ (c.in_ok-new.ensures.copied i, c.from_vec.ensures.same i) ∷ []));
}
