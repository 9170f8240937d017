use Rattle.std.proofs.Common.{◌≡◌, drop}
use Rattle.std.specs.List.{list_any}
use Rattle.alt_expr.specs.Crowded.{is_long}
use Rattle.alt_projection.proofs.text.has_long.Given as goal

abbrev pub invariant-loop-path : goal.invariant-loop-path
invariant-loop-path l = list_any is_long l.paths ≡ list_any is_long (drop l.path-index l.paths)
