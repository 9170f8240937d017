use Rattle.std.proofs.Common.{◌≡◌, drop, map}
use Rattle.alt_expr.specs.Tokens.{tok_of}
use Rattle.alt_expr.specs.Given.{with_colons}
use Rattle.alt_expr.proofs.values.Values.use_words.Given as goal

abbrev pub invariant-loop-token : goal.invariant-loop-token
invariant-loop-token l = record {
  used : with_colons (map tok_of l.tokens) l.initial.self.used
      ≡ with_colons (map tok_of (drop l.token-index l.tokens)) l.self.used;
  given : l.self.given ≡ l.initial.self.given;
}
