use Rattle.std.proofs.Common.{◌≡◌, ◌≢◌, refl, sym, ap, ◌∙◌, ℕ, List, ◌++◌, Option, Some, None, arith, map}
use Rattle.std.proofs.lemmas.List.{take_all}
use Rattle.std.specs.Prelude.{option_and_then, option_map}
use Rattle.std.specs.Option.{option_or}
use Rattle.alt_value.specs.Item.{at_name}
use Rattle.alt_value.specs.Stands.{tree_of}
use Rattle.alt_value.specs.Tree.{Tree}
use Rattle.alt_expr.specs.declared.path.PathPart.TheVariants.{Name}
use Rattle.alt_expr.specs.Updated.{Edit, under, put_here, elements_past_end, changed}
use Rattle.alt_updeval.specs.Shown.{made_tree, way_of, ways_in, new_at, put_if}
use Rattle.alt_updeval.proofs.Here.{list_is}
use Rattle.alt_updeval.proofs.Maps.{one_more, map-from}
use Rattle.alt_updeval.proofs.Steps.{at_index, at_text, list_more, list_all}
use Rattle.alt_updeval.proofs.Taking.{take-one_more}
use Rattle.alt_value.proofs.Smaller.{depth-element, depth-pair}
use Rattle.alt_updeval.proofs.within.+within.Goals as goal

-- nothing is put where no value is found
nothing_put : {X : Type 0} (f : X → Tree) (es : List Edit) (r : Option X) → ((x : X) → r ≢ Some x)
    → option_map f r ≡ put_here es → put_here es ≡ None
nothing_put f es None none e = sym e
nothing_put f es (Some x) none e = absurd (none x refl)

pub changed_list-push_changed-requires : goal.changed_list-push_changed-requires
changed_list-push_changed-requires t c =
    omega (arith, depth-element c.args.list.now c.loop-i.i-counter _ (sym c.element.ensures))

pub changed_list-loop-i-preserved : goal.changed_list-loop-i-preserved
changed_list-loop-i-preserved t c =
    let es = map way_of c.args.ways.now in
    list_more es (ways_in c.get.result) c.args.list.now c.loop-i.i-counter _ c.loop-i.out
    c.push_changed.new.out
    (at_index es c.in_ok-by_index.field-0.items c.in_ok-by_index.ensures c.get.result _
    c.loop-i.i-counter c.get.ensures.value (c.in_ok-indexed.ensures.groups c.loop-i.i-counter))
    (omega arith) c.element.ensures c.loop-i.invariant c.in_ok-push_changed.ensures

pub changed_list-returns : goal.changed_list-returns
changed_list-returns t c =
    let es = map way_of c.args.ways.now in
    list_all es c.args.list.now c.loop-i.i-counter c.loop-i.out c.push_past.new.out
    (omega arith) c.loop-i.invariant
    (c.in_ok-push_past.ensures
    ∙ ap (λ n. c.loop-i.out ++ map (λ (p : ℕ × Tree). p.1) (elements_past_end n es)) c.len.ensures.count)

pub changed-returns-in_ok-changed_list-in-L : goal.changed-returns-in_ok-changed_list-in-L
changed-returns-in_ok-changed_list-in-L t c =
    let es = map way_of c.args.ways.now in
    list_is es c.in-L.list c.in_ok-changed_list-in-L.field-0
    (nothing_put (λ m. made_tree m.now) es c.put_here.result c.in_default.not-Some
    c.put_here.ensures)
    (sym c.is_taken.ensures ∙ c.if-is_taken.false) c.in_ok-changed_list-in-L.ensures
    ∙ ap (λ a. changed es (tree_of a)) (sym c.in-L.is)

pub changed_map-put_changed-requires : goal.changed_map-put_changed-requires
changed_map-put_changed-requires t c = (omega (arith, depth-pair c.args.old.now c.loop-i.i _ _ (sym c.pair.ensures.pair)), c.pair.ensures.named)

pub changed_map-loop-i-preserved : goal.changed_map-loop-i-preserved
changed_map-loop-i-preserved t c =
    let es = map way_of c.args.ways.now in
    let name = c.pair.result.0.now in
    let v = tree_of c.pair.result.1.now in
    let group = at_text es c.in_ok-by_name.field-0.items c.in_ok-by_name.ensures c.get.result _
    c.pair.result.0 c.get.ensures.value (c.in_ok-named.ensures.groups c.pair.result.0) in
    one_more es c.args.old.now c.loop-i.i name v c.loop-i.out c.put_changed.new.out
    c.pair.ensures.item.0 (sym c.pair.ensures.pair)
    (take-one_more c.args.old.now c.loop-i.i (name, v) c.pair.ensures.pair) c.loop-i.invariant
    (c.in_ok-put_changed.ensures ∙ ap (λ us. put_if name (changed us v) c.loop-i.out) group)

pub changed_map-returns : goal.changed_map-returns
changed_map-returns t c =
    let es = map way_of c.args.ways.now in
    let ps = c.args.old.now in
    map-from es ps c.put_new_names.new.out c.len-held.ensures.item c.len-whole.ensures.item
    (λ q. c.in_ok-put_new_names.ensures q ∙ ap (option_or (new_at es ps q)) (c.loop-i.invariant q
    ∙ ap (λ l. option_and_then (changed (under (Name q) es)) (at_name q l))
    (take_all c.loop-i.i ps (omega (arith, c.loop-i-test.false, c.len-i-end.ensures.count)))))
