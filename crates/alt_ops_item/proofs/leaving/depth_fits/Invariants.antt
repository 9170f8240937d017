-- The values so far aren't too deep.
use Rattle.std.proofs.Common.{◌≤◌, take}
use Rattle.alt_machine.specs.Valid.{deepest}
use Rattle.alt_value.specs.Size.{fields_depth}
use Rattle.alt_value.specs.Tree.{fields_of}
use Rattle.alt_ops_item.proofs.leaving.depth_fits.Given as goal

abbrev pub invariant-loop-i : goal.invariant-loop-i
invariant-loop-i l = fields_depth (fields_of (take l.i l.item)) ≤ deepest
