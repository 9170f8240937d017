use Rattle.std.proofs.lemmas.Grind.{common_steps}
use Rattle.std.proofs.Common.{arith}
use Rattle.alt_gatelog.specs.Log.{framed}
use Rattle.alt_gatelog.proofs.frame.frame_of.Goals as goal

pub returns : goal.returns
unfolding framed
returns c = record {
  is = grind (arith, common_steps);
  short = omega arith;
}
