use Rattle.std.proofs.Common.{◌≡◌, ◌-◌}
use Rattle.alt_expr.specs.Reader.{left, path, parts_from}
use Rattle.alt_expr.specs.NamesGiven.{given_names}
use Rattle.alt_expr.proofs.path_text.read_path.Given as goal

abbrev pub invariant-loop-turn : goal.invariant-loop-turn
invariant-loop-turn l = path (given_names l.names) (left l.fn.tokens)
    ≡ parts_from (given_names l.names) (l.turns - l._turn) l.found (left l.tokens)
