-- The entries are those of the map, since they are in order.
use Rattle.std.proofs.Common.{ap, ◌∙◌, sym}
use Rattle.std.specs.FinMap.{entries, entries-from_sorted}
use Rattle.alt_cells.specs.Keys.{key_cmp}
use Rattle.alt_cells.proofs.map.CellMap.into_entries.Goals as goal

pub returns : goal.returns
returns c = sym (entries-from_sorted key_cmp c.self.inside.entries.items c.self.invariant)
    ∙ ap entries c.self.view_is
