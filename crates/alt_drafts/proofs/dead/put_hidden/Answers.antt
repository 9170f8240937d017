-- A number more.
use Rattle.std.proofs.Common.{◌≡◌, inl, inr, ⊎_elim, take, get_or, subst, sym}
use Rattle.std.specs.Prelude.{◌⊎◌}
use Rattle.std.specs.BTreeMap.{get}
use Rattle.std.specs.FinMap.{empty}
use Rattle.std.specs.Ordering.{nat_cmp}
use Rattle.alt_families.specs.Families.{rows_in}
use Rattle.alt_flush.proofs.RemoveLaws.{in_more}
use Rattle.alt_manifest.specs.Versions.{IsIn}
use Rattle.alt_drafts.proofs.dead.put_hidden.Goals as goal

pub loop-number-preserved : goal.loop-number-preserved
loop-number-preserved c =
    let one = c.in_ok-put_if_hidden.ensures in
    let i = c.loop-number.number-index in
    let numbers = c.args.numbers.now in
    let after = c.put_if_hidden.new.dead.items in
    record {
      dead = one.dead;
      more = λ family there. one.more family (c.loop-number.invariant.more family there);
      rest = λ family there. ⊎_elim
          (λ (old : IsIn (take i numbers) family). ⊎_elim
          (λ (lives : IsIn c.args.live.now family). inl lives)
          (λ (other : IsIn c.loop-number.dead.items family
          ⊎ (rows_in (get nat_cmp c.args.families.now family) ≡ empty)). inr (⊎_elim
          (λ (dead : IsIn c.loop-number.dead.items family). inl (one.more family dead))
          (λ (none : rows_in (get nat_cmp c.args.families.now family) ≡ empty). inr none) other))
          (c.loop-number.invariant.rest family old))
          (λ (e : family ≡ get_or numbers i 0). subst (λ f. IsIn c.args.live.now f
          ⊎ (IsIn after f ⊎ (rows_in (get nat_cmp c.args.families.now f) ≡ empty))) (sym e) one.one)
          (in_more numbers i family c.loop-number-test.true there);
    }
