-- A family more.
use Rattle.std.proofs.Common.{◌≡◌, ⊎_elim, take}
use Rattle.alt_layout.specs.Families.{files_of}
use Rattle.alt_manifest.specs.Versions.{IsIn}
use Rattle.alt_drafts.proofs.LeftOutLaws.{files_more}
use Rattle.alt_drafts.proofs.merge.put_files_of.Goals as goal

pub loop-found-preserved : goal.loop-found-preserved
loop-found-preserved c =
    let one = c.in_ok-put_if_own.ensures in
    let i = c.loop-found.found-index in
    let fs = c.args.families.now in
    let f = c.found-item.result in
    let family = c.args.family in
    record {
      own = λ g there. ⊎_elim
          (λ (before : IsIn (files_of (take i fs) family) g).
          one.kept g (c.loop-found.invariant.own g before))
          (λ (own : (f.family ≡ family) × IsIn f.files g). one.own own.0 g own.1)
          (files_more fs i f family g c.loop-found-test.true c.found-item.is there);
      kept = λ g there. one.kept g (c.loop-found.invariant.kept g there);
    }
