-- One column more.
use Rattle.std.proofs.Common.{◌≤◌, List, Err, sym, ap, subst, T, arith}
use Rattle.alt_base.proofs.Options.{told_error}
use Rattle.alt_machine.specs.Valid.{deepest}
use Rattle.alt_views.proofs.Columns.{put_more, full_more, depth_more, read_attribute}
use Rattle.alt_value.specs.Size.{fields_depth}
use Rattle.alt_value.specs.Stands.{tree_of}
use Rattle.alt_value.specs.Tree.{Pair, fields_of}
use Rattle.alt_value.specs.Values.{fields_full}
use Rattle.alt_views.proofs.item_row.item_of_columns.Goals as goal

pub returns-in_err-name-clause-none : goal.returns-in_err-name-clause-none
returns-in_err-name-clause-none c bad item is same =
    let (p, attribute, at) = read_attribute item is c.args.columns.now same
    c.loop-column.column-index c.column-item.result (omega arith) c.column-item.is in
    c.in_err-name.ensures.none
    (ap Err (told_error c.from_residual-in_err-name.result c.in_err-name.field-0.0 _
    c.from_residual-in_err-name.ensures bad))
    p attribute at

pub loop-column-preserved : goal.loop-column-preserved
loop-column-preserved c =
    let p : Pair = (c.in_ok-name.name.now, tree_of c.in_ok-name.value) in
    let more = put_more c.loop-column.item c.put.new.self p c.args.columns.now
    c.loop-column.column-index c.column-item.result c.requires (omega arith) c.column-item.is
    c.loop-column.invariant.columns c.in_ok-name.ensures.attribute.1 c.in_ok-put.ensures.ok in
    record {
      columns = more.1;
      full = subst (λ (ps : List Pair). T (fields_full (fields_of ps))) (sym more.0)
          (full_more c.loop-column.item p c.loop-column.invariant.full
          c.in_ok-name.ensures.attribute.0.value.1);
      depth = subst (λ (ps : List Pair). fields_depth (fields_of ps) ≤ deepest) (sym more.0)
          (depth_more c.loop-column.item p deepest c.loop-column.invariant.depth
          c.in_ok-name.ensures.attribute.0.depth);
    }
