-- An element more is written; past the last all are. What stands in a list or a map is less deep.
use Rattle.std.proofs.Common.{◌∙◌, ap, arith, ◌++◌}
use Rattle.alt_fields.specs.Field.{field}
use Rattle.alt_value.specs.CellBytes.{cell_bytes}
use Rattle.alt_value.specs.Stands.{tree_of}
use Rattle.alt_cellbytes.specs.Places.{entry_bytes}
use Rattle.alt_value.proofs.Depths.{element_depth, value_depth}
use Rattle.alt_base.proofs.Prefixes.{prefix_trans, on_err_holds}
use Rattle.alt_cellbytes.proofs.OneMore.{wrote_more, wrote_whole, wrote_entry, begins}
use Rattle.alt_cellbytes.proofs.Wholes.{put_list, put_map}
use Rattle.alt_cellbytes.proofs.writing.+writing.Goals as goal

pub put_value-returns-in-L-clause-appended : goal.put_value-returns-in-L-clause-appended
put_value-returns-in-L-clause-appended t c =
    put_list c.put_elements.result c.in-L.list
    (tree_of c.args.a.now) c.args.out.now.items c.put_elements.new.out.items
    (ap tree_of c.in-L.is) c.put_elements.ensures.appended

pub put_value-returns-in-M-clause-appended : goal.put_value-returns-in-M-clause-appended
put_value-returns-in-M-clause-appended t c =
    put_map c.put_entries.result c.in-M.map (tree_of c.args.a.now) c.args.out.now.items
    c.put_entries.new.out.items (ap tree_of c.in-M.is) c.put_entries.ensures.appended

pub put_each_element-put_value-requires : goal.put_each_element-put_value-requires
put_each_element-put_value-requires t c = (
  omega (
    arith,
    element_depth c.args.list.now c.loop-place.place
        (tree_of c.in-Some.element.now) c.in-Some.ensures.element,
    c.decreases,
  ),
  tt,
)

pub put_each_element-returns-in_err-put_value-clause-begun :
    goal.put_each_element-returns-in_err-put_value-clause-begun
put_each_element-returns-in_err-put_value-clause-begun t c =
    on_err_holds c.from_residual.result (begins c.args.out.now.items _ c.loop-place.out.items
    c.put_value.new.out.items c.loop-place.invariant c.in_err-put_value.ensures.begun)

pub put_each_element-loop-place-preserved : goal.put_each_element-loop-place-preserved
put_each_element-loop-place-preserved t c =
    wrote_more cell_bytes c.args.list.now c.loop-place.place
    (tree_of c.in-Some.element.now) c.args.out.now.items c.loop-place.out.items
    c.put_value.new.out.items
    c.loop-place.invariant c.in-Some.ensures.element c.in_ok-put_value.ensures.appended

pub put_each_element-returns-in_default-clause-appended :
    goal.put_each_element-returns-in_default-clause-appended
put_each_element-returns-in_default-clause-appended t c =
    wrote_whole cell_bytes c.args.list.now c.loop-place.place c.args.out.now.items
    c.loop-place.out.items c.loop-place.invariant c.in_default.ensures.element

pub put_each_entry-returns-in_err-put_bytes-clause-begun :
    goal.put_each_entry-returns-in_err-put_bytes-clause-begun
put_each_entry-returns-in_err-put_bytes-clause-begun t c =
    on_err_holds c.from_residual.result (begins c.args.out.now.items _ c.loop-place.out.items
    c.put_bytes.new.out.items c.loop-place.invariant c.in_err-put_bytes.ensures.err)

pub put_each_entry-put_value-requires : goal.put_each_entry-put_value-requires
put_each_entry-put_value-requires t c = (
  omega (
    arith,
    value_depth c.args.map.now c.loop-place.place
        (c.in-Some.name.now, tree_of c.in-Some.value.now) c.in-Some.ensures.pair,
    c.decreases,
  ),
  tt,
)

pub put_each_entry-returns-in_err-put_value-clause-begun :
    goal.put_each_entry-returns-in_err-put_value-clause-begun
put_each_entry-returns-in_err-put_value-clause-begun t c =
    on_err_holds c.from_residual-in_err-put_value.result
    (begins c.args.out.now.items _ c.loop-place.out.items c.put_value.new.out.items
    c.loop-place.invariant
    (prefix_trans c.loop-place.out.items c.put_bytes.new.out.items c.put_value.new.out.items
    (_, c.in_ok-put_bytes.ensures.ok) c.in_err-put_value.ensures.begun))

pub put_each_entry-loop-place-preserved : goal.put_each_entry-loop-place-preserved
put_each_entry-loop-place-preserved t c =
    wrote_more entry_bytes c.args.map.now c.loop-place.place
    (c.in-Some.name.now, tree_of c.in-Some.value.now) c.args.out.now.items
    c.loop-place.out.items c.put_value.new.out.items
    c.loop-place.invariant c.in-Some.ensures.pair
    (wrote_entry (field c.in-Some.name.now) (cell_bytes (tree_of c.in-Some.value.now))
    c.loop-place.out.items c.put_bytes.new.out.items c.put_value.new.out.items
    (c.in_ok-put_bytes.ensures.ok ∙ ap (λ s. c.loop-place.out.items ++ field s)
    c.as_bytes.ensures.value) c.in_ok-put_value.ensures.appended)

pub put_each_entry-returns-in_default-clause-appended :
    goal.put_each_entry-returns-in_default-clause-appended
put_each_entry-returns-in_default-clause-appended t c =
    wrote_whole entry_bytes c.args.map.now c.loop-place.place c.args.out.now.items
    c.loop-place.out.items c.loop-place.invariant c.in_default.ensures.pair
