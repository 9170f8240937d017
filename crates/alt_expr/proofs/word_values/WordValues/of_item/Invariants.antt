-- The pairs before the place are there.
use Rattle.std.proofs.Common.{◌≡◌, map, take}
use Rattle.alt_expr.specs.WordValues.{pair_of}
use Rattle.alt_expr.proofs.word_values.WordValues.of_item.Given as goal

abbrev pub invariant-loop-place : goal.invariant-loop-place
invariant-loop-place g l = map (pair_of g.V.Kept.tree) l.entries.items ≡ take l.place l.item
