-- None of those before it is being built.
use Rattle.std.proofs.Common.{◌≡◌, drop}
use Rattle.std.specs.List.{find}
use Rattle.alt_machine.specs.Building.{building_in, is_building}
use Rattle.alt_rowchanges.proofs.build.building_number.Given as goal

abbrev pub invariant-loop-i : goal.invariant-loop-i
invariant-loop-i l = find is_building (drop l.i l.fn.schema.globals) ≡ building_in l.fn.schema
