use Rattle.std.proofs.Common.{◌≡◌, drop, map}
use Rattle.std.specs.List.{list_any}
use Rattle.alt_expr.specs.Tokens.{tok_of}
use Rattle.alt_expr.specs.Given.{is_unknown}
use Rattle.alt_expr.specs.Lookups.{names_alone}
use Rattle.alt_expr.specs.NamesGiven.{given_names}
use Rattle.alt_projection.proofs.text.has_unknown.Given as goal

abbrev pub invariant-loop-token : goal.invariant-loop-token
invariant-loop-token l = list_any (is_unknown (names_alone (given_names l.names)))
    (map tok_of l.tokens) ≡ list_any (is_unknown (names_alone (given_names l.names)))
    (map tok_of (drop l.token-index l.tokens))
