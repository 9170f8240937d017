use Rattle.std.proofs.Common.{◌+◌, ◌/◌, ◌%◌, ℕ, length, length-set, ap, ◌∙◌, arith}
use Rattle.alt_decimal.proofs.Padded.{put_step, left_step, none_put, none_left}
use Rattle.alt_decimal.proofs.digits.put_half.Goals as goal

pub loop-at-init : goal.loop-at-init
loop-at-init c = record {
  written = none_put c.args.zero c.args.n c.args.out.now;
  left = none_left c.args.n (length c.args.out.now);
  within = omega arith;
}

pub loop-at-preserved : goal.loop-at-preserved
loop-at-preserved c =
    let at = c.loop-at.at in
    let out = c.loop-at.out in
    let invariant = c.loop-at.invariant in
    record {
      written = put_step c.args.zero c.args.n at _ out
          (omega arith) invariant.within invariant.written
          (ap (λ (r : ℕ). c.args.zero + r % 10) invariant.left);
      left = ap (λ (r : ℕ). r / 10) invariant.left
          ∙ left_step c.args.n at _ out (omega arith) invariant.within;
      within = omega (arith, length-set {A = ℕ});
    }
