-- What was read, and what a reader makes of the rest.
use Rattle.std.proofs.Common.{◌≡◌, ◌-◌}
use Rattle.alt_expr.specs.NamesGiven.{given_names}
use Rattle.alt_expr.specs.Reader.{left, comma_separated, listed_from, path}
use Rattle.alt_projection.proofs.text.read_paths.Given as goal

abbrev pub invariant-loop-turn : goal.invariant-loop-turn
invariant-loop-turn l = comma_separated (path (given_names l.names)) (left l.fn.tokens)
    ≡ listed_from (path (given_names l.names)) (l.turns - l._turn) l.found (left l.tokens)
