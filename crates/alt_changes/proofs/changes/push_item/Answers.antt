-- The cell of the item stands at the end.
use Rattle.std.proofs.Common.{◌∙◌, ◌++◌, ◌∷◌, [], Some, map, option_map, ap, sym}
use Rattle.std.proofs.lemmas.Result.{on_ok_weaker}
use Rattle.alt_cells.specs.Changes.{with_value}
use Rattle.alt_changes.specs.ChangeRows.{item_column}
use Rattle.alt_changes.proofs.changes.push_item.Goals as goal

pub returns-in_ok-new-in-Some : goal.returns-in_ok-new-in-Some
returns-in_ok-new-in-Some c = on_ok_weaker c.push.result (λ e. e ∙ ap (λ l. c.args.cells.now ++ l)
    ((λ i. (c.in_ok-new-in-Some.ensures.copied i, Some (c.in_ok-bytes-in-Some.ensures i)) ∷ [])
    ∙ ap (λ o. map with_value (item_column c.args.name.now (option_map (λ b. b.now) o)))
    (sym c.in-Some.is))) c.push.ensures.ok
