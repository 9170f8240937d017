use Rattle.std.proofs.Common.{◌≡◌, drop, map}
use Rattle.std.specs.List.{list_any}
use Rattle.alt_expr.specs.Tokens.{tok_of}
use Rattle.alt_expr.specs.Given.{is_unknown}
use Rattle.alt_expr.specs.Lookups.{given_by}
use Rattle.alt_expr.proofs.undefined.is_undefined.Given as goal

abbrev pub invariant-loop-token : goal.invariant-loop-token
invariant-loop-token l = list_any (is_unknown (given_by l.names l.values)) (map tok_of l.tokens)
    ≡ list_any (is_unknown (given_by l.names l.values)) (map tok_of (drop l.token-index l.tokens))
