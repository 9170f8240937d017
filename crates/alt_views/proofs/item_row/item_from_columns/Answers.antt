-- One column more.
use Rattle.std.proofs.Common.{◌≡◌, ◌≤◌, List, Err, sym, ap, subst, T, length, rules}
use Rattle.std.proofs.lemmas.Iterator.Adapters.{YieldsList-from_vec}
use Rattle.std.proofs.lemmas.Iterator.Consumers.{YieldsList-so_far, YieldsList-turn}
use Rattle.alt_base.proofs.Options.{told_error}
use Rattle.alt_machine.specs.Valid.{deepest}
use Rattle.alt_views.proofs.Columns.{put_next, full_more, depth_more, read_attribute}
use Rattle.alt_value.specs.Size.{fields_depth}
use Rattle.alt_value.specs.Stands.{tree_of}
use Rattle.alt_value.specs.Tree.{Pair, fields_of}
use Rattle.alt_value.specs.Values.{fields_full}
use Rattle.alt_views.proofs.item_row.item_from_columns.Goals as goal

pub returns-in_err-name-clause-none : goal.returns-in_err-name-clause-none
returns-in_err-name-clause-none c bad item is same =
    let turn = YieldsList-turn
    (YieldsList-from_vec {s = c.into_iter-called-iterator.result} c.args.columns.items (search rules)
    (search rules)) c.loop-called.yielded c.loop-called.called-iterator c.loop-called.yielded_by
    c.next.result c.next.new.self (c.in-Some.called, c.in-Some.stored) c.in-Some.is
    c.next.ensures.steps in
    let (p, attribute, at) = read_attribute item is c.args.columns.items same
    (length c.loop-called.yielded) (c.in-Some.called, c.in-Some.stored) turn.0 turn.1 in
    c.in_err-name.ensures.none
    (ap Err (told_error c.from_residual-in_err-name.result c.in_err-name.field-0.0 _
    c.from_residual-in_err-name.ensures bad))
    p attribute at

pub loop-called-preserved : goal.loop-called-preserved
loop-called-preserved c =
    let p : Pair = (c.in_ok-name.name, tree_of c.in_ok-name.value) in
    let all = YieldsList-from_vec {s = c.into_iter-called-iterator.result} c.args.columns.items
    (search rules) (search rules) in
    let front = YieldsList-so_far all c.loop-called.yielded c.loop-called.called-iterator
    c.loop-called.yielded_by in
    let turn = YieldsList-turn all c.loop-called.yielded c.loop-called.called-iterator
    c.loop-called.yielded_by c.next.result c.next.new.self (c.in-Some.called, c.in-Some.stored)
    c.in-Some.is c.next.ensures.steps in
    let more = put_next c.loop-called.item c.put_owned.new.self p c.args.columns.items
    c.loop-called.yielded (c.in-Some.called, c.in-Some.stored) c.requires front turn.0 turn.1
    c.loop-called.invariant.columns c.in_ok-name.ensures.attribute.1 c.in_ok-put_owned.ensures.ok in
    record {
      columns = more.1;
      full = subst (λ (ps : List Pair). T (fields_full (fields_of ps))) (sym more.0)
          (full_more c.loop-called.item p c.loop-called.invariant.full
          c.in_ok-name.ensures.attribute.0.value.1);
      depth = subst (λ (ps : List Pair). fields_depth (fields_of ps) ≤ deepest) (sym more.0)
          (depth_more c.loop-called.item p deepest c.loop-called.invariant.depth
          c.in_ok-name.ensures.attribute.0.depth);
    }
