-- Behind the marker stand the attributes.
use Rattle.std.proofs.Common.{◌≡◌, ◌∙◌, map, sym}
use Rattle.std.proofs.lemmas.Result.{IfOk-weaker}
use Rattle.alt_views.specs.ItemRows.{IsReadItem, column_of, item_columns}
use Rattle.alt_views.proofs.Columns.{behind_is, marked_is, behind_rises, read_is, without_first}
use Rattle.alt_views.proofs.item_row.item_from_row.Goals as goal

pub returns-in_default-clause-none : goal.returns-in_default-clause-none
returns-in_default-clause-none c bad item is same = c.in_default.ensures.none (map column_of item)
    (c.as_slice.ensures.value ∙ marked_is c.args.row c.into_entries-columns.result.items item
    is.whole.0.names c.into_entries-columns.ensures same)

pub item_from_columns-requires : goal.item_from_columns-requires
item_from_columns-requires c =
    let marked = without_first c.into_entries-columns.result.items c.remove-marker.new.self.items _
    (sym c.as_slice.ensures.value ∙ c.in-Some.ensures.behind) c.remove-marker.ensures.items in
    behind_rises c.args.row c.into_entries-columns.result.items
    c.remove-marker.new.self.items c.into_entries-columns.ensures marked

pub returns-clause-item : goal.returns-clause-item
returns-clause-item c =
    let marked = without_first c.into_entries-columns.result.items c.remove-marker.new.self.items _
    (sym c.as_slice.ensures.value ∙ c.in-Some.ensures.behind) c.remove-marker.ensures.items in
    IfOk-weaker c.item_from_columns.result
    (λ item. IsReadItem item × (c.remove-marker.new.self.items ≡ map column_of item))
    (λ item. IsReadItem item × (c.args.row ≡ item_columns item))
    (λ item h. (
      h.0,
      read_is c.args.row c.into_entries-columns.result.items c.remove-marker.new.self.items item h.0
          c.into_entries-columns.ensures marked h.1,
    )) c.item_from_columns.ensures.item

pub returns-clause-none : goal.returns-clause-none
returns-clause-none c bad item is same =
    let marked = without_first c.into_entries-columns.result.items c.remove-marker.new.self.items _
    (sym c.as_slice.ensures.value ∙ c.in-Some.ensures.behind) c.remove-marker.ensures.items in
    c.item_from_columns.ensures.none bad item is
    (behind_is c.args.row c.into_entries-columns.result.items c.remove-marker.new.self.items item
    is.whole.0.names c.into_entries-columns.ensures marked same)
