-- A change more.
use Rattle.std.proofs.Common.{◌≡◌, ◌<◌, ⊎_elim, take, subst, sym, arith}
use Rattle.std.specs.BTreeMap.{get}
use Rattle.std.specs.Ordering.{nat_cmp}
use Rattle.alt_families.specs.Memory.{IsChanged}
use Rattle.alt_drafts.specs.InHand.{bytes_in_memory}
use Rattle.alt_drafts.proofs.FullLaws.{changed_more}
use Rattle.alt_drafts.proofs.full.fills.Goals as goal

pub loop-change-preserved : goal.loop-change-preserved
loop-change-preserved c family there =
    let i = c.loop-change.change-index in
    let cs = c.args.changes.now in
    let x = c.change-item.result in
    ⊎_elim (λ (old : IsChanged (take i cs) family). c.loop-change.invariant family old)
    (λ (e : family ≡ x.family).
    let bytes = c.bytes_of.ensures in let low = c.if-bytes_of-flush.false in
    subst (λ f. bytes_in_memory (get nat_cmp c.args.families.now f) < c.args.flush) (sym e)
    (omega (arith, bytes, low)))
    (changed_more cs i family x c.loop-change-test.true c.change-item.is there)
