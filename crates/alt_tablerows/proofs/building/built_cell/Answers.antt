-- The first that isn't whole is the one that is being built.
use Rattle.std.proofs.Common.{sym, ap, ◌∙◌, ◌++◌, Some, not, option_map, arith, get_or, length}
use Rattle.std.specs.Int.{w32, to_be_bytes}
use Rattle.alt_machine.specs.Building.{is_building}
use Rattle.alt_schema.specs.declared.schema.IndexSchema.{IndexSchema}
use Rattle.alt_tablerows.specs.CatalogRows.{built_bytes}
use Rattle.alt_tablerows.proofs.OneIndex.{found_next, none_next}
use Rattle.alt_tablerows.proofs.building.built_cell.Goals as goal

pub returns-then-not-is_whole : goal.returns-then-not-is_whole
returns-then-not-is_whole c = record {
  cell = ap Some c.in_ok-bytes.ensures.cell
      ∙ sym (ap (option_map (λ (i : IndexSchema). to_be_bytes w32 i.family
      ++ built_bytes c.args.schema.now i.built))
      (found_next is_building c.args.schema.now.globals c.loop-index.index-index
      c.index-item.result c.index-item.result (omega (arith, ap length c.as_slice-index-items.ensures.members))
      c.loop-index.invariant
      (c.index-item.is ∙ ap (λ xs. get_or xs c.loop-index.index-index c.index-item.result)
      c.as_slice-index-items.ensures.members)
      (ap not (sym c.is_whole.ensures.whole ∙ c.if-not-is_whole.true))));
}

pub loop-index-preserved : goal.loop-index-preserved
loop-index-preserved c = none_next is_building c.args.schema.now.globals c.loop-index.index-index
    c.index-item.result c.index-item.result (omega (arith, ap length c.as_slice-index-items.ensures.members))
    c.loop-index.invariant
    (c.index-item.is ∙ ap (λ xs. get_or xs c.loop-index.index-index c.index-item.result)
    c.as_slice-index-items.ensures.members)
    (ap not (sym c.is_whole.ensures.whole ∙ c.if-not-is_whole.false))
