-- Behind the marker stand the attributes.
use Rattle.std.proofs.Common.{◌≡◌, List, map}
use Rattle.std.proofs.lemmas.Result.{IfOk-weaker}
use Rattle.alt_value.specs.Tree.{Pair}
use Rattle.alt_views.specs.ItemRows.{IsReadItem, column_of, item_columns}
use Rattle.alt_views.specs.OwnKeys.{IsKeyWithin}
use Rattle.alt_views.proofs.Columns.{behind_is, marked_is, behind_rises, read_is}
use Rattle.alt_views.proofs.key_row.key_of_row.Goals as goal

pub returns-in_default-clause-none : goal.returns-in_default-clause-none
returns-in_default-clause-none c bad item is same = c.in_default.ensures.none (map column_of item)
    (marked_is c.args.row.now c.as_slice.result.now item is.whole.0.names c.as_slice.ensures same)

pub key_of_columns-requires : goal.key_of_columns-requires
key_of_columns-requires c = behind_rises c.args.row.now c.as_slice.result.now
    c.in-Some.columns.now c.as_slice.ensures c.in-Some.ensures.behind

pub returns-clause-key : goal.returns-clause-key
returns-clause-key c = IfOk-weaker c.key_of_columns.result
    (λ key. (item : List Pair) × IsReadItem item × (c.in-Some.columns.now ≡ map column_of item)
    × IsKeyWithin c.args.schema.now c.args.most item key)
    (λ key. (item : List Pair) × IsReadItem item × (c.args.row.now ≡ item_columns item)
    × IsKeyWithin c.args.schema.now c.args.most item key)
    (λ key h. (
      h.0,
      h.1,
      read_is c.args.row.now c.as_slice.result.now c.in-Some.columns.now h.0 h.1
          c.as_slice.ensures c.in-Some.ensures.behind h.2,
      h.3,
    )) c.key_of_columns.ensures.key

pub returns-clause-none : goal.returns-clause-none
returns-clause-none c bad item is same = c.key_of_columns.ensures.none bad item is
    (behind_is c.args.row.now c.as_slice.result.now c.in-Some.columns.now item is.whole.0.names
    c.as_slice.ensures c.in-Some.ensures.behind same)
