-- A family more.
use Rattle.std.proofs.Common.{◌≡◌, ◌+◌, ⊎_elim, ℕ, Bool, true, false, take, get_or, refl, sym, ap, subst, ◌∙◌, arith}
use Rattle.std.specs.Prelude.{◌||◌}
use Rattle.alt_disk.specs.Disk.{DiskState, IsTrusted}
use Rattle.alt_disk.proofs.Calls.{goes_on, goes_refl}
use Rattle.alt_disk.proofs.Runs.{trusted_back, trusted_on}
use Rattle.alt_flush.proofs.RemoveLaws.{in_more}
use Rattle.alt_manifest.specs.Versions.{IsIn}
use Rattle.alt_hand.specs.Carrying.{AreStill}
use Rattle.alt_hand.specs.Merging.{files_at}
use Rattle.alt_hand.specs.declared.hand.Hand.{Hand}
use Rattle.alt_hand.proofs.CarryDrafts.{all_still, still_then}
use Rattle.alt_hand.proofs.EndLaws.{works_same, works_still}
use Rattle.alt_hand.proofs.NeedLaws.{before_apart}
use Rattle.alt_merging.specs.Merged.{AreMerged}
use Rattle.alt_layout.proofs.MomentLaws.{same_or_not}
use Rattle.alt_hand.specs.Adding.{AddsVersion, LeavesOut}
use Rattle.alt_hand.proofs.LeftOutLaws.{in_first, in_less}
use Rattle.alt_manifest.proofs.Among.{in_at}
use Rattle.alt_merging.proofs.EachLaws.{adds_then, leaves_then, merged_on, still_back, works_on, works_then}
use Rattle.alt_merging.proofs.each.merge_each.Goals as goal

-- one of two flags
either_flag : {Q : Type 0} (x y : Bool) → x || y ≡ true → (x ≡ true → Q) → (y ≡ true → Q) → Q
either_flag true y e here there = here refl
either_flag false y e here there = there e

by_flag : {Q : Type 0} (x : Bool) → (x ≡ true → Q) → (x ≡ false → Q) → Q
by_flag true on off = on refl
by_flag false on off = off refl

both_off : (x y : Bool) → x || y ≡ false → (x ≡ false) × (y ≡ false)
both_off true y e = absurd (let no : true ≡ false = e in cc no)
both_off false y e = (refl, e)

-- both are on, or one of them
three_flags : {Q : Type 0} (x y : Bool) → x || y ≡ true → (x ≡ true → y ≡ true → Q)
    → (x ≡ true → y ≡ false → Q) → (x ≡ false → y ≡ true → Q) → Q
three_flags true true e both first later = both refl refl
three_flags true false e both first later = first refl refl
three_flags false y e both first later = later refl e

pub loop-family-init : goal.loop-family-init
loop-family-init g c =
    let a : DiskState = g.D.Disk.state c.args.disk.now in
    let e = c.args.hand.now in
    record {
      ok = λ trusted m stands. (m, stands, works_same c.args.live.now m);
      merged = λ trusted family no. absurd no;
      files = λ family there out. refl;
      still = λ trusted family there out. all_still a (files_at e family);
      idle = λ off trusted family no. absurd no;
      idle_disk = λ off. refl;
      idle_hand = λ off. refl;
      busy = λ on. absurd (let no : false ≡ true = on in cc no);
      memory = λ family lives. refl;
      kept = λ trusted family lives merged. refl;
      leaves_out = λ on. absurd (let no : false ≡ true = on in cc no);
      adds = λ on. absurd (let no : false ≡ true = on in cc no);
      missing = λ trusted m stands f low none. none;
      low = omega arith;
      next_file = omega arith;
      length = refl;
      next = refl;
      limits = refl;
      spans = λ trusted m stands. works_still a e m c.args.live.now stands;
      goes = goes_refl a;
      well = refl;
    }

pub merge_family-requires : goal.merge_family-requires
merge_family-requires g c = record {
  ready = λ told.
      let trusted = trusted_back (g.D.Disk.state c.args.disk.now) (g.D.Disk.state c.loop-family.disk)
      c.loop-family.invariant.goes told in
      let given = c.requires.ready trusted in
      let so_far = c.loop-family.invariant.ok trusted given.0 given.1 in (so_far.0, so_far.1);
  live = in_at c.args.live.now c.loop-family.family-index c.loop-family-test.true;
}

pub loop-family-preserved : goal.loop-family-preserved
loop-family-preserved g c =
    let a : DiskState = g.D.Disk.state c.args.disk.now in
    let b : DiskState = g.D.Disk.state c.loop-family.disk in
    let d : DiskState = g.D.Disk.state c.merge_family.new.disk in
    let i = c.loop-family.family-index in
    let live = c.args.live.now in
    let family = get_or live i 0 in
    let within = c.loop-family-test.true in
    let there = in_at live i within in
    let before = c.loop-family.invariant in
    let first : Hand = c.args.hand.now in
    let old : Hand = c.loop-family.hand in
    let new : Hand = c.merge_family.new.hand in
    let one = c.in_ok-one.ensures in
    let told = λ (trusted : IsTrusted a). trusted_on a b before.goes trusted in
    let out : IsIn (take i live) family → ⊥ =
    λ earlier. before_apart live i family c.requires.live within earlier refl in
    let other_out = λ (other : ℕ) (not_in : IsIn (take (i + 1) live) other → ⊥). in_less live i other within not_in in
    record {
      ok = λ trusted m stands.
          let so_far = before.ok trusted m stands in
          let after = one.ok (told trusted) so_far.0 so_far.1 in
          (after.0, after.1, works_then live m so_far.0 after.0 so_far.2 after.2);
      merged = λ trusted other earlier. ⊎_elim
          (λ (was : IsIn (take i live) other).
          let apart = before_apart live i other c.requires.live within was in
          let lives = in_first i live other was in
          subst (AreMerged d) (sym (one.others other lives apart))
          (merged_on b d (files_at old other) (one.still (told trusted) other lives apart)
          (before.merged trusted other was)))
          (λ (e : other ≡ family). subst (λ k. AreMerged d (files_at new k)) (sym e)
          (one.merged (told trusted))) (in_more live i other within earlier);
      files = λ other lives not_in. let at = other_out other not_in in
          one.others other lives at.1 ∙ before.files other lives at.0;
      still = λ trusted other lives not_in. let at = other_out other not_in in
          still_then a b d (files_at first other) (before.still trusted other lives at.0)
          (subst (AreStill b d) (before.files other lives at.0)
          (one.still (told trusted) other lives at.1));
      idle = λ off trusted other earlier. let flags = both_off c.loop-family.merged c.in_ok-one.one (sym c.either-merged.ensures ∙ off) in
          ⊎_elim (λ (was : IsIn (take i live) other). before.idle flags.0 trusted other was)
          (λ (e : other ≡ family). subst (λ k. AreMerged a (files_at first k)) (sym e)
          (merged_on b a (files_at first family)
          (still_back a b (files_at first family) (before.still trusted family there out))
          (subst (AreMerged b) (before.files family there out) (one.idle flags.1 (told trusted)))))
          (in_more live i other within earlier);
      idle_disk = λ off. let flags = both_off c.loop-family.merged c.in_ok-one.one (sym c.either-merged.ensures ∙ off) in
          one.idle_disk flags.1 ∙ before.idle_disk flags.0;
      idle_hand = λ off. let flags = both_off c.loop-family.merged c.in_ok-one.one (sym c.either-merged.ensures ∙ off) in
          one.idle_hand flags.1 ∙ before.idle_hand flags.0;
      busy = λ on trusted. either_flag c.loop-family.merged c.in_ok-one.one (sym c.either-merged.ensures ∙ on)
          (λ was. before.busy was trusted)
          (λ now. (
            family,
            there,
            λ merged. one.busy now (told trusted) (subst (AreMerged b)
                (sym (before.files family there out))
                (merged_on a b (files_at first family) (before.still trusted family there out) merged)),
          ));
      memory = λ other lives. one.memory other lives ∙ before.memory other lives;
      kept = λ trusted other lives merged. ⊎_elim
          (λ (e : other ≡ family). subst (λ k. files_at new k ≡ files_at old k) (sym e)
          (by_flag c.in_ok-one.one (λ now. absurd (one.busy now (told trusted) (subst (AreMerged b)
          (sym (before.files family there out)) (merged_on a b (files_at first family)
          (before.still trusted family there out)
          (subst (λ k. AreMerged a (files_at first k)) e merged)))))
          (λ off. ap (λ (h : Hand). files_at h family) (one.idle_hand off))))
          (λ (apart : other ≡ family → ⊥). one.others other lives apart) (same_or_not other family)
          ∙ before.kept trusted other lives merged;
      leaves_out = λ on. three_flags c.loop-family.merged c.in_ok-one.one
          (sym c.either-merged.ensures ∙ on)
          (λ was now. leaves_then live first old new (before.leaves_out was) (one.leaves_out now)
          before.next)
          (λ was off. subst (λ (h : Hand). LeavesOut live first h) (sym (one.idle_hand off))
          (before.leaves_out was))
          (λ off now. subst (λ (h : Hand). LeavesOut live h new) (before.idle_hand off)
          (one.leaves_out now));
      adds = λ on trusted m stands. three_flags c.loop-family.merged c.in_ok-one.one
          (sym c.either-merged.ensures ∙ on)
          (λ was now. let so_far = before.ok trusted m stands in
          adds_then a b d first old new m stands (before.adds was trusted m stands)
          (one.adds now (told trusted)) before.low (one.missing (told trusted) so_far.0 so_far.1))
          (λ was off. subst (λ (h : Hand). AddsVersion d first h) (sym (one.idle_hand off))
          (subst (λ (s : DiskState). AddsVersion s first old) (sym (one.idle_disk off))
          (before.adds was trusted m stands)))
          (λ off now. subst (λ (h : Hand). AddsVersion d h new) (before.idle_hand off)
          (one.adds now (told trusted)));
      missing = λ trusted m stands f below none. let so_far = before.ok trusted m stands in
          let low = before.low in
          one.missing (told trusted) so_far.0 so_far.1 f (omega (arith, below, low))
          (before.missing trusted m stands f below none);
      low = let low = before.low in let more = one.low in omega (arith, low, more);
      next_file = let low = before.next_file in let more = one.next_file in omega (arith, low, more);
      length = one.length ∙ before.length;
      next = one.next ∙ before.next;
      limits = one.limits ∙ before.limits;
      spans = λ trusted m stands. let so_far = before.ok trusted m stands in
          works_on a b d live m so_far.0 so_far.2 (before.spans trusted m stands)
          (one.any_moment (told trusted) so_far.0 so_far.1);
      goes = goes_on a b d before.goes one.goes;
      well = one.well ∙ before.well;
    }

pub returns-in_err-one-clause-any_moment : goal.returns-in_err-one-clause-any_moment
returns-in_err-one-clause-any_moment g c trusted l stands =
    let a : DiskState = g.D.Disk.state c.args.disk.now in
    let b : DiskState = g.D.Disk.state c.loop-family.disk in
    let so_far = c.loop-family.invariant.ok trusted l stands in
    works_on a b (g.D.Disk.state c.merge_family.new.disk) c.args.live.now l so_far.0 so_far.2
    (c.loop-family.invariant.spans trusted l stands)
    (c.merge_family.ensures.any_moment (trusted_on a b c.loop-family.invariant.goes trusted) so_far.0
    so_far.1)
