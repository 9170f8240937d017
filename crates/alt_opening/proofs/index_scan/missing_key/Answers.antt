-- The item's row isn't shown.
use Rattle.std.proofs.Common.{◌≡◌, sym, ◌∙◌}
use Rattle.std.proofs.lemmas.Bool.{false≢true}
use Rattle.std.proofs.lemmas.Option.{same_Some}
use Rattle.alt_layout.specs.Layout.{shown}
use Rattle.alt_opening.proofs.IndexOwn.{is_missing}
use Rattle.alt_opening.proofs.DeviceFaults.{device_walk}
use Rattle.alt_opening.proofs.index_scan.missing_key.Goals as goal

pub returns-else-shows-clause-missing : goal.returns-else-shows-clause-missing
returns-else-shows-clause-missing g c tells l i reads at =
    let index : c.index_at.result.now ≡ i = same_Some _ _ (c.index_at.ensures.index ∙ at) in
    is_missing l c.args.schema.now i c.args.row.now c.in-Ok-Some.field-0
    (λ item is_read of_item. c.in-Ok-Some.ensures.row i item at is_read of_item)
    c.in-Ok-Some.own c.in-Ok-Some.field-0-is
    (λ same. false≢true (sym c.if-shows.false ∙ c.shows.ensures.shows.1
    (c.in-Ok.ensures.row tells l reads
    ∙ (λ j. shown l (index j).family (c.as_slice.ensures.same j)) ∙ same)))

pub returns-in-Err-row-clause-fault : goal.returns-in-Err-row-clause-fault
returns-in-Err-row-clause-fault g c tells l reads =
    device_walk c.in-Err-row.fault c.from.result c.from.ensures
    (c.in-Err-row.ensures.undamaged tells l reads)
