use Rattle.std.proofs.Common.{◌≡◌, ◌+◌, drop}
use Rattle.std.specs.List.{prefix_len}
use Rattle.alt_expr.specs.Spelling.{is_inner}
use Rattle.alt_expr.proofs.lexer.inner_len.Given as goal

abbrev pub invariant-loop-at : goal.invariant-loop-at
invariant-loop-at l = prefix_len is_inner l.bytes ≡ l.at + prefix_len is_inner (drop l.at l.bytes)
