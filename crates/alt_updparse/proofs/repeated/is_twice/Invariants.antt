use Rattle.std.proofs.Common.{◌≡◌, false, drop, map}
use Rattle.alt_expr.specs.Tokens.{tok_of}
use Rattle.alt_expr.specs.UpdateKeys.{is_again}
use Rattle.alt_updparse.proofs.repeated.is_twice.Given as goal

abbrev pub invariant-loop-token : goal.invariant-loop-token
invariant-loop-token l = is_again l.keyword false (map tok_of l.tokens)
    ≡ is_again l.keyword l.found (map tok_of (drop l.token-index l.tokens))
