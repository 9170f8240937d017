-- An element more is written; at the end all are. What stands in a list or an item is less deep.
use Rattle.std.proofs.Common.{◌∙◌, ap, map, arith}
use Rattle.alt_base.proofs.Lists.{get-past}
use Rattle.serde_json.specs.Data.{Data, Members, put}
use Rattle.serde_json.specs.View.{view, members_view}
use Rattle.alt_value.specs.Stands.{tree_of}
use Rattle.alt_value.specs.declared.attr.Attr.TheVariants.{Bs, L}
use Rattle.alt_codec.specs.Writing.{json_of}
use Rattle.alt_value.proofs.Depths.{element_depth, value_depth}
use Rattle.alt_codec.specs.Returning.{Returns}
use Rattle.alt_codec.proofs.ReadBack.{list_returns, item_returns, each_more, each_whole, when_ok}
use Rattle.alt_codec.proofs.Written.{written_more, written_whole, items_of-trees, put_more, put_whole}
use Rattle.alt_codec.proofs.writing.+writing.Goals as goal
use Rattle.alt_codec.proofs.writing.+writing.Goals.{json_of_elements-else-loop-place-test, json_of_elements-then-loop-place-test+in_default, json_of_members-else-loop-place-test, json_of_members-then-loop-place-test+in_default}

pub json_of_elements-json_of_value-requires : goal.json_of_elements-json_of_value-requires
json_of_elements-json_of_value-requires t c = (
  omega (
    arith,
    element_depth c.args.list.now c.loop-place.place
        (tree_of c.in-Some.element.now) c.in-Some.ensures.element,
    c.decreases,
  ),
  tt,
)

pub json_of_elements-loop-place-preserved : goal.json_of_elements-loop-place-preserved
json_of_elements-loop-place-preserved t c = record {
  written =
      ap (map view) c.in_ok-push.ensures.items
      ∙ written_more json_of c.args.list.now c.loop-place.place
      (tree_of c.in-Some.element.now) c.loop-place.values.items _ c.loop-place.invariant.written
      c.in-Some.ensures.element c.in_ok-json_of_value.ensures.json;
  returns = each_more Returns c.args.list.now c.loop-place.place
      (tree_of c.in-Some.element.now) c.loop-place.invariant.returns c.in-Some.ensures.element
      c.in_ok-json_of_value.ensures.read_back;
}

pub json_of_elements-returns-clause-read_back : goal.json_of_elements-returns-clause-read_back
json_of_elements-returns-clause-read_back t c =
    let ts = c.args.list.now in
    let i = c.loop-place.place in
    elim c.loop-place-test.branch [
      | json_of_elements-else-loop-place-test w ↦ each_whole Returns ts i
          c.loop-place.invariant.returns (omega (arith, c.len-place-end.ensures.count))
      | json_of_elements-then-loop-place-test+in_default w ↦ each_whole Returns ts i
          c.loop-place.invariant.returns (get-past ts i w.in_default.ensures.element)
    ]

pub json_of_elements-returns-clause-json : goal.json_of_elements-returns-clause-json
json_of_elements-returns-clause-json t c =
    let ts = c.args.list.now in
    let i = c.loop-place.place in
    elim c.loop-place-test.branch [
      | json_of_elements-else-loop-place-test w ↦ written_whole json_of ts i
          c.loop-place.values.items c.loop-place.invariant.written
          (omega (arith, c.len-place-end.ensures.count))
      | json_of_elements-then-loop-place-test+in_default w ↦ written_whole json_of ts i
          c.loop-place.values.items c.loop-place.invariant.written
          (get-past ts i w.in_default.ensures.element)
    ] ∙ items_of-trees ts

pub json_of_members-json_of_value-requires : goal.json_of_members-json_of_value-requires
json_of_members-json_of_value-requires t c = (
  omega (
    arith,
    value_depth c.args.i.now c.loop-place.place
        (c.in-Some.name.now, tree_of c.in-Some.a.now) c.in-Some.ensures.pair,
    c.decreases,
  ),
  tt,
)

pub json_of_members-loop-place-preserved : goal.json_of_members-loop-place-preserved
json_of_members-loop-place-preserved t c =
    let ps = c.args.i.now in
    let i = c.loop-place.place in
    record {
      written =
          c.in_ok-put.ensures.ok
          ∙ ap (λ (d : Data). put c.in-Some.name.now d (members_view c.loop-place.members.entries))
          c.in_ok-value.ensures.json
          ∙ ap (λ (ms : Members). put c.in-Some.name.now (json_of (tree_of c.in-Some.a.now)) ms)
          c.loop-place.invariant.written
          ∙ put_more ps i (c.in-Some.name.now, tree_of c.in-Some.a.now)
          c.len-place-end.ensures.item.0 c.in-Some.ensures.pair;
      returns = each_more (λ p. Returns p.1) ps i
          (c.in-Some.name.now, tree_of c.in-Some.a.now) c.loop-place.invariant.returns
          c.in-Some.ensures.pair
          c.in_ok-value.ensures.read_back;
    }

pub json_of_members-returns-clause-json : goal.json_of_members-returns-clause-json
json_of_members-returns-clause-json t c =
    let ps = c.args.i.now in
    let i = c.loop-place.place in
    c.loop-place.invariant.written ∙ elim c.loop-place-test.branch [
      | json_of_members-else-loop-place-test w ↦ put_whole ps i
          (omega (arith, c.len-place-end.ensures.count))
      | json_of_members-then-loop-place-test+in_default w ↦ put_whole ps i
          (get-past ps i w.in_default.ensures.pair)
    ]

pub json_of_members-returns-clause-read_back : goal.json_of_members-returns-clause-read_back
json_of_members-returns-clause-read_back t c =
    let ps = c.args.i.now in
    let i = c.loop-place.place in
    item_returns ps c.len-place-end.ensures.item (elim c.loop-place-test.branch [
      | json_of_members-else-loop-place-test w ↦ each_whole
          (λ p. Returns p.1) ps i c.loop-place.invariant.returns
          (omega (arith, c.len-place-end.ensures.count))
      | json_of_members-then-loop-place-test+in_default w ↦ each_whole
          (λ p. Returns p.1) ps i c.loop-place.invariant.returns
          (get-past ps i w.in_default.ensures.pair)
    ])

pub json_of_value-returns-in_ok-json_of_byte_strings-in-Bs-clause-read_back :
    goal.json_of_value-returns-in_ok-json_of_byte_strings-in-Bs-clause-read_back
json_of_value-returns-in_ok-json_of_byte_strings-in-Bs-clause-read_back t c =
    when_ok c.args.a.now (Bs c.in-Bs.set) _ c.in-Bs.is
    c.in_ok-json_of_byte_strings-in-Bs.ensures.read_back

pub json_of_value-returns-in_ok-json_of_elements-in-L-clause-read_back :
    goal.json_of_value-returns-in_ok-json_of_elements-in-L-clause-read_back
json_of_value-returns-in_ok-json_of_elements-in-L-clause-read_back t c =
    when_ok c.args.a.now (L c.in-L.list) _ c.in-L.is
    (list_returns c.in-L.list c.in_ok-json_of_elements-in-L.ensures.read_back)
