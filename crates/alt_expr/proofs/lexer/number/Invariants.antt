use Rattle.std.proofs.Common.{◌≡◌, ◌+◌, ◌*◌, ◌-◌, ◌^◌, ◌≤◌, drop, fold, ℕ}
use Rattle.alt_expr.proofs.lexer.number.Given as goal

abbrev pub invariant-loop-digit : goal.invariant-loop-digit
invariant-loop-digit l = record {
  value : fold (λ (n b : ℕ). n * 10 + (b - 48)) 0 l.digits
      ≡ fold (λ (n b : ℕ). n * 10 + (b - 48)) l.value (drop l.digit-index l.digits);
  bound : l.value + 1 ≤ 10 ^ l.digit-index;
}
