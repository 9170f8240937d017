use Rattle.std.proofs.Common.{length}
use Rattle.alt_expr.proofs.Tokenized.{Continues}
use Rattle.alt_expr.proofs.all.tokens.Given as goal

abbrev pub decreases-all : goal.decreases-all
decreases-all l = length l.lexer.rest.now

abbrev pub invariant-all : goal.invariant-all
invariant-all l = Continues l.fn.text l.lexer.rest.now l.found.items
