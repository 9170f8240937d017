-- One column more.
use Rattle.std.proofs.Common.{◌≡◌, ◌≤◌, ◌+◌, Err, Some, ap, arith, rules, sym, subst, ◌∙◌}
use Rattle.alt_base.proofs.Options.{told_error}
use Rattle.alt_views.proofs.Columns.{read_attribute}
use Rattle.alt_views.proofs.OwnKeys.{IsReadTo, all_read, left_within, none_read, none_within, read_more}
use Rattle.alt_value.specs.Size.{item_size}
use Rattle.alt_value.specs.Stands.{tree_of}
use Rattle.alt_value.specs.Tree.{Pair}
use Rattle.alt_views.proofs.key_row.key_of_columns.Goals as goal

pub returns-in_err-name-clause-none : goal.returns-in_err-name-clause-none
returns-in_err-name-clause-none c bad item is same =
    let (p, attribute, at) = read_attribute item is c.args.columns.now same
    c.loop-column.column-index c.column-item.result (omega arith) c.column-item.is in
    c.in_err-name.ensures.none
    (ap Err
    (told_error c.from_residual.result c.in_err-name.field-0.0 _ c.from_residual.ensures bad))
    p attribute at

pub loop-column-init : goal.loop-column-init
loop-column-init c = subst
    (λ key. IsReadTo c.args.schema.now c.args.most c.args.columns.now 0 key (Some c.args.most))
    (sym c.new-key.ensures.empty) (none_read c.args.schema.now c.args.most c.args.columns.now)

pub loop-column-preserved : goal.loop-column-preserved
loop-column-preserved c =
    let p : Pair = (c.in_ok-name.name.now, tree_of c.in_ok-name.value) in
    read_more c.args.schema.now c.args.most c.args.columns.now c.loop-column.column-index
    c.loop-column.key c.keep.new.key c.loop-column.left c.left_behind-left.result p
    c.column-item.result c.requires (omega arith) c.column-item.is
    c.in_ok-name.ensures.attribute.0 c.in_ok-name.ensures.attribute.1 c.loop-column.invariant
    c.left_behind-left.ensures c.in_ok-keep.ensures

pub returns-in-Some-clause-key : goal.returns-in-Some-clause-key
returns-in-Some-clause-key c =
    let so = c.loop-column.invariant in
    let read = all_read c.args.schema.now c.args.most c.args.columns.now
    c.loop-column.column-index c.loop-column.key c.loop-column.left c.requires (search rules)
    (omega arith) so in
    let within : (item_size so.item ≤ c.args.most) × (c.in-Some.left + item_size so.item
    ≡ c.args.most) = left_within c.args.most (item_size so.item) c.in-Some.left
    (sym c.in-Some.is ∙ so.less) in
    (so.item, read.0, read.1, (within.0, so.own, omega (arith, within.1)))

pub returns-in-None-clause-key : goal.returns-in-None-clause-key
returns-in-None-clause-key c =
    let so = c.loop-column.invariant in
    let read = all_read c.args.schema.now c.args.most c.args.columns.now
    c.loop-column.column-index c.loop-column.key c.loop-column.left c.requires (search rules)
    (omega arith) so in
    (so.item, read.0, read.1, none_within c.args.most _ (sym c.in-None.is ∙ so.less))
