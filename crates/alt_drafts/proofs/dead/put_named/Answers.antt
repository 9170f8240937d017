-- A family more.
use Rattle.std.proofs.Common.{◌≡◌, inl, inr, ⊎_elim, take, subst, sym}
use Rattle.std.specs.Prelude.{◌⊎◌}
use Rattle.alt_manifest.specs.Versions.{IsIn, numbers_of}
use Rattle.alt_layout.specs.Families.{files_of}
use Rattle.alt_drafts.proofs.DeadLaws.{in_row_files_at, numbers_more}
use Rattle.alt_drafts.proofs.LeftOutLaws.{files_more}
use Rattle.alt_drafts.proofs.dead.put_named.Goals as goal

pub loop-family-preserved : goal.loop-family-preserved
loop-family-preserved c =
    let one = c.in_ok-put_if_dead.ensures in
    let i = c.loop-family.family-index in
    let fs = c.args.families.now in
    let f = c.family-item.result in
    record {
      dead = one.dead;
      named = λ family there. ⊎_elim
          (λ (old : IsIn (numbers_of (take i fs)) family). ⊎_elim
          (λ (lives : IsIn c.args.live.now family). inl lives)
          (λ (dead : IsIn c.loop-family.dead.items family). inr (one.more family dead))
          (c.loop-family.invariant.named family old))
          (λ (e : family ≡ f.family). subst (λ n. IsIn c.args.live.now n
          ⊎ IsIn c.put_if_dead.new.dead.items n) (sym e) one.one)
          (numbers_more fs i f family c.loop-family-test.true c.family-item.is there);
      left = λ g there. ⊎_elim
          (λ (before : IsIn c.loop-family.files.items g). c.loop-family.invariant.left g before)
          (λ (own : IsIn f.files g). inr (in_row_files_at fs i f g c.loop-family-test.true
          c.family-item.is own)) (one.left g there);
      files = λ family out g there. ⊎_elim
          (λ (before : IsIn (files_of (take i fs) family) g).
          one.kept g (c.loop-family.invariant.files family out g before))
          (λ (own : (f.family ≡ family) × IsIn f.files g). one.files
          (λ lives. out (subst (IsIn c.args.live.now) own.0 lives)) g own.1)
          (files_more fs i f family g c.loop-family-test.true c.family-item.is there);
      kept = λ g there. one.kept g (c.loop-family.invariant.kept g there);
    }
