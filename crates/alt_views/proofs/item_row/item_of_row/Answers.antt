-- Behind the marker stand the attributes.
use Rattle.std.proofs.Common.{◌≡◌, map}
use Rattle.std.proofs.lemmas.Result.{IfOk-weaker}
use Rattle.alt_views.specs.ItemRows.{IsReadItem, column_of, item_columns}
use Rattle.alt_views.proofs.Columns.{behind_is, marked_is, behind_rises, read_is}
use Rattle.alt_views.proofs.item_row.item_of_row.Goals as goal

pub returns-in_default-clause-none : goal.returns-in_default-clause-none
returns-in_default-clause-none c bad item is same = c.in_default.ensures.none (map column_of item)
    (marked_is c.args.row.now c.as_slice.result.now item is.whole.0.names c.as_slice.ensures same)

pub item_of_columns-requires : goal.item_of_columns-requires
item_of_columns-requires c = behind_rises c.args.row.now c.as_slice.result.now
    c.in-Some.columns.now c.as_slice.ensures c.in-Some.ensures.behind

pub returns-clause-item : goal.returns-clause-item
returns-clause-item c = IfOk-weaker c.item_of_columns.result
    (λ item. IsReadItem item × (c.in-Some.columns.now ≡ map column_of item))
    (λ item. IsReadItem item × (c.args.row.now ≡ item_columns item))
    (λ item h. (
      h.0,
      read_is c.args.row.now c.as_slice.result.now c.in-Some.columns.now item h.0
          c.as_slice.ensures c.in-Some.ensures.behind h.1,
    )) c.item_of_columns.ensures.item

pub returns-clause-none : goal.returns-clause-none
returns-clause-none c bad item is same = c.item_of_columns.ensures.none bad item is
    (behind_is c.args.row.now c.as_slice.result.now c.in-Some.columns.now item is.whole.0.names
    c.as_slice.ensures c.in-Some.ensures.behind same)
