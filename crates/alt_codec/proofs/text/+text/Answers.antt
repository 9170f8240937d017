-- An element more is written; at the end all are. What stands in a list or an item is less deep.
use Rattle.std.proofs.Common.{◌∙◌, arith}
use Rattle.std.proofs.lemmas.Result.{on_ok_weaker}
use Rattle.alt_base.proofs.Lists.{get-past}
use Rattle.alt_value.specs.Stands.{tree_of}
use Rattle.alt_codec.specs.Writing.{json_of}
use Rattle.alt_value.proofs.Depths.{element_depth, value_depth}
use Rattle.alt_codec.proofs.Tokens.{element_more, array_whole, trees_tokens, pair_more, object_whole}
use Rattle.alt_codec.proofs.text.+text.Goals as goal
use Rattle.alt_codec.proofs.text.+text.Goals.{write_elements-else-loop-place-test, write_elements-then-loop-place-test+in_default, write_item-else-loop-place-test, write_item-then-loop-place-test+in_default}

pub write_elements-write_attr-requires : goal.write_elements-write_attr-requires
write_elements-write_attr-requires t c = (
  omega (
    arith,
    element_depth c.args.list.now c.loop-place.place
        (tree_of c.in-Some.element.now) c.in-Some.ensures.element,
    c.decreases,
  ),
  tt,
)

pub write_elements-loop-place-preserved : goal.write_elements-loop-place-preserved
write_elements-loop-place-preserved t c = record {
  written = element_more json_of c.args.list.now c.loop-place.place
      (tree_of c.in-Some.element.now) _ c.loop-place.out.tokens c.write_attr.new.out.tokens
      c.in-Some.ensures.element c.loop-place.invariant.written c.in_ok-write_attr.ensures.written;
  before = c.in_ok-write_attr.ensures.before ∙ c.loop-place.invariant.before;
}

pub write_elements-returns-clause-written : goal.write_elements-returns-clause-written
write_elements-returns-clause-written t c = on_ok_weaker c.end_array_of_kind.result (λ e.
    array_whole json_of c.args.list.now c.loop-place.place _ c.args.out.now.tokens _ _
    c.loop-place.out.tokens c.end_array_of_kind.new.out.tokens _
    c.in_ok-begin_kind.ensures.written c.in_ok-begin_array.ensures.ok
    c.loop-place.invariant.written
    (elim c.loop-place-test.branch [
      | write_elements-else-loop-place-test w ↦ omega (arith, c.len-place-end.ensures.count)
      | write_elements-then-loop-place-test+in_default w ↦ get-past c.args.list.now
          c.loop-place.place w.in_default.ensures.element
    ])
    (trees_tokens c.args.list.now) e) c.end_array_of_kind.ensures.written

pub write_item-write_attr-requires : goal.write_item-write_attr-requires
write_item-write_attr-requires t c = (
  omega (
    arith,
    value_depth c.args.item.now c.loop-place.place
        (c.in-Some.name.now, tree_of c.in-Some.a.now) c.in-Some.ensures.pair,
    c.decreases,
  ),
  tt,
)

pub write_item-loop-place-preserved : goal.write_item-loop-place-preserved
write_item-loop-place-preserved t c = record {
  written = pair_more c.args.item.now c.loop-place.place
      (c.in-Some.name.now, tree_of c.in-Some.a.now) _ c.loop-place.out.tokens
      c.key.new.self.tokens c.write_attr.new.out.tokens c.in-Some.ensures.pair
      c.loop-place.invariant.written c.in_ok-key.ensures.ok c.in_ok-write_attr.ensures.written;
  before = c.in_ok-write_attr.ensures.before ∙ c.in_ok-key.ensures.room.0
      ∙ c.loop-place.invariant.before;
}

pub write_item-returns-clause-written : goal.write_item-returns-clause-written
write_item-returns-clause-written t c = object_whole c.args.item.now c.loop-place.place
    c.args.out.now.tokens c.begin_object.new.self.tokens c.loop-place.out.tokens
    c.end_object.new.self.tokens c.in_ok-begin_object.ensures.ok c.loop-place.invariant.written
    (elim c.loop-place-test.branch [
      | write_item-else-loop-place-test w ↦ omega (arith, c.len-place-end.ensures.count)
      | write_item-then-loop-place-test+in_default w ↦ get-past c.args.item.now
          c.loop-place.place w.in_default.ensures.pair
    ])
    c.in_ok-end_object.ensures.ok
