use Rattle.std.proofs.Common.{ℕ, refl, length-set, arith}
use Rattle.alt_decimal.proofs.Pairs.{pairs_step}
use Rattle.alt_decimal.proofs.spell.put_pairs.Goals as goal

pub loop-i-preserved : goal.loop-i-preserved
loop-i-preserved c = record {
  written = pairs_step c.loop-i.out c.args.digits.now c.loop-i.i _ c.loop-i.invariant.written
      (omega arith) (omega (arith, c.requires.even)) refl;
  within = omega (arith, length-set {A = ℕ});
}
