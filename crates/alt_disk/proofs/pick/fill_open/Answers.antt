use Rattle.std.proofs.Common.{◌≡◌, ◌++◌, ◌∷◌, [], ℕ, ◌-◌, ◌+◌, ◌∙◌, ap}
use Rattle.alt_disk.specs.Stopped.{next, filled, behind_filled, open_bytes}
use Rattle.alt_disk.proofs.Picking.{fill-more, behind-more}
use Rattle.alt_disk.proofs.pick.fill_open.Goals as goal

pub loop-preserved : goal.loop-preserved
loop-preserved c =
    let was = c.loop.bytes.items in
    let choice = c.loop.choice.rest.now in
    let n = c.args.count in
    let k = c.loop.counter in
    let pushed : c.push.new.self.items ≡ was ++ next choice ∷ [] =
    c.in_ok-push.ensures.items ∙ ap (λ (b : ℕ). was ++ b ∷ []) c.next.ensures.value in
    record {
      bytes = (λ i. pushed i ++ filled (open_bytes (n - (k + 1))) (c.next.ensures.rest i))
          ∙ fill-more was n k choice c.loop-test.true ∙ c.loop.invariant.bytes;
      rest = (λ i. behind_filled (open_bytes (n - (k + 1))) (c.next.ensures.rest i))
          ∙ behind-more n k choice c.loop-test.true ∙ c.loop.invariant.rest;
    }
