-- None of those that were met is being built.
use Rattle.std.proofs.Common.{◌≡◌, None, take}
use Rattle.std.specs.List.{find}
use Rattle.alt_machine.specs.Building.{is_building}
use Rattle.alt_tablerows.proofs.building.built_cell.Given as goal

abbrev pub invariant-loop-index : goal.invariant-loop-index
invariant-loop-index l = find is_building (take l.index-index l.schema.globals) ≡ None
