-- One more of the key's attributes was put.
use Rattle.std.proofs.Common.{◌≡◌, ap, ◌∙◌, ℕ, ◌+◌, ◌-◌, take, arith}
use Rattle.alt_machine.specs.Ops.UpdateItem.{with_key_attributes}
use Rattle.alt_ops_item.proofs.Left.{part_put}
use Rattle.alt_ops_item.proofs.leaving.with_key.Goals as goal

pub loop-left-preserved : goal.loop-left-preserved
loop-left-preserved c =
    let i : ℕ = c.loop-left.left - 1 in
    let left : i + 1 ≡ c.loop-left.left = omega (arith, c.loop-left-test.true) in record {
      within = omega (arith, c.loop-left.invariant.within);
      rest = part_put c.args.key.now c.loop-left.item c.put_part.new.item i
          c.in_ok-put_part.ensures.put
          ∙ ap (λ n. with_key_attributes (take n c.args.key.now) c.loop-left.item) left
          ∙ c.loop-left.invariant.rest;
    }
