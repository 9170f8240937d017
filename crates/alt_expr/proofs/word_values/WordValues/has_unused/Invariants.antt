use Rattle.std.proofs.Common.{◌≡◌, drop}
use Rattle.alt_expr.specs.Given.{has_unused}
use Rattle.alt_expr.proofs.word_values.WordValues.has_unused.Given as goal

abbrev pub invariant-loop-place : goal.invariant-loop-place
invariant-loop-place g l = has_unused l.self l.used ≡ has_unused (drop l.place l.self) l.used
