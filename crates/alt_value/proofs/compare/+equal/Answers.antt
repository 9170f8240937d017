use Rattle.std.proofs.Common.{◌≡◌, refl, sym, ap, ◌∙◌, map, arith}
use Rattle.alt_value.specs.Tree.{L_tree, M_tree, trees_of, fields_of}
use Rattle.alt_value.specs.Stands.{tree_of, pair_of}
use Rattle.alt_value.proofs.Same.{same_list, same_map}
use Rattle.alt_value.proofs.Pointwise.{same_step, differ_seen}
use Rattle.alt_value.proofs.compare.+equal.Goals as goal

pub is_list-returns-in-L : goal.is_list-returns-in-L
is_list-returns-in-L t c =
    let seen : tree_of c.args.b.now ≡ L_tree (trees_of c.in-L.other) = ap tree_of c.in-L.is in (
      λ yes. ap (λ xs. L_tree (trees_of xs)) (c.same_elements.ensures.0 yes) ∙ sym seen,
      λ e. c.same_elements.ensures.1 (same_list c.args.list.now c.in-L.other (e ∙ seen)),
    )

pub is_map-returns-in-M : goal.is_map-returns-in-M
is_map-returns-in-M t c =
    let seen : tree_of c.args.b.now ≡ M_tree (fields_of c.in-M.other) = ap tree_of c.in-M.is in (
      λ yes. ap (λ xs. M_tree (fields_of xs)) (c.item_equal.ensures.same.0 yes) ∙ sym seen,
      λ e. c.item_equal.ensures.same.1 (same_map c.args.map.now c.in-M.other (e ∙ seen)),
    )

pub same_elements-returns-then-not-equal : goal.same_elements-returns-then-not-equal
same_elements-returns-then-not-equal t c = (
  λ no. cc,
  λ e. c.if-not-equal.ensures.same.1
      (differ_seen tree_of c.deref-element-items.result.now c.b.inside.elements.items c.args.a.now
      c.args.b.now c.loop-i.i c.element-item.result c.index.result.now
      (ap (map tree_of) c.deref-element-items.ensures.value ∙ c.a.view_is) c.b.view_is (omega arith)
      (omega arith) c.element-item.is c.index.ensures e),
)

pub same_elements-loop-i-preserved : goal.same_elements-loop-i-preserved
same_elements-loop-i-preserved t c = λ rest. c.loop-i.invariant
    (same_step tree_of c.deref-element-items.result.now c.b.inside.elements.items c.args.a.now
    c.args.b.now c.loop-i.i c.element-item.result c.index.result.now
    (ap (map tree_of) c.deref-element-items.ensures.value ∙ c.a.view_is) c.b.view_is (omega arith)
    (omega arith) c.element-item.is c.index.ensures (c.if-not-equal.ensures.same.0 refl) rest)

pub item_equal-returns-then-not-same_pair : goal.item_equal-returns-then-not-same_pair
item_equal-returns-then-not-same_pair t c = record {
  same = (
    λ no. cc,
    λ e. c.if-not-same_pair.ensures.1
        (differ_seen pair_of c.deref-entry-items.result.now c.b.inside.entries.items c.args.a.now
        c.args.b.now c.loop-i.i c.entry-item.result c.index.result.now
        (ap (map pair_of) c.deref-entry-items.ensures.value ∙ c.a.view_is) c.b.view_is (omega arith)
        (omega arith) c.entry-item.is c.index.ensures e),
  );
}

pub item_equal-loop-i-preserved : goal.item_equal-loop-i-preserved
item_equal-loop-i-preserved t c = λ rest. c.loop-i.invariant
    (same_step pair_of c.deref-entry-items.result.now c.b.inside.entries.items c.args.a.now
    c.args.b.now c.loop-i.i c.entry-item.result c.index.result.now
    (ap (map pair_of) c.deref-entry-items.ensures.value ∙ c.a.view_is) c.b.view_is (omega arith)
    (omega arith) c.entry-item.is c.index.ensures (c.if-not-same_pair.ensures.0 refl) rest)
