-- The file is finished, and takes the place of the others.
use Rattle.std.proofs.Common.{◌≡◌, take, subst, ◌∙◌}
use Rattle.std.proofs.lemmas.Result.{on_ok_weaker}
use Rattle.std.specs.FinMap.{entries}
use Rattle.alt_disk.specs.Disk.{DiskState, IsTrusted}
use Rattle.alt_disk.specs.Runs.{Run, Spans}
use Rattle.alt_disk.proofs.Runs.{trusted_back, trusted_on}
use Rattle.alt_layout.specs.Moments.{IsIt}
use Rattle.alt_cells.specs.Walks.{Anything as AnyImage}
use Rattle.alt_rowfile.specs.Sinks.{AnyFileContents}
use Rattle.alt_layout.specs.Layout.{Layout}
use Rattle.alt_merge.specs.Merges.{all_rows}
use Rattle.alt_rowfile.specs.InHand.{file_of as row_file}
use Rattle.alt_hand.specs.InHand.{HandStandsForLayout}
use Rattle.alt_hand.specs.Merging.{files_at}
use Rattle.alt_hand.proofs.CarryDrafts.{still_then}
use Rattle.alt_hand.proofs.CarryLaws.{on_ok_both}
use Rattle.alt_disk.proofs.Runs.{spans_on}
use Rattle.alt_hand.specs.Adding.{HasOneOf}
use Rattle.alt_hand.specs.Merging.{version_in}
use Rattle.alt_hand.proofs.AddingLaws.{last_or}
use Rattle.alt_merging.proofs.TombstoneLaws.{purged_made}
use Rattle.alt_merging.proofs.StepLaws.{files_stay, hand_stays, has_works, images_stay, last_stays, made_of, merging_on, run_it, then_works}
use Rattle.alt_merging.proofs.merging.Merging.end.Goals as goal

pub finish-requires : goal.finish-requires
finish-requires g c trusted =
    let merging = c.requires.job trusted in
    (take c.args.self.taken (files_at c.args.hand.now c.args.self.family), merging.done, merging.stands)

pub end_merge-requires : goal.end_merge-requires
end_merge-requires g c =
    let a : DiskState = g.D.Disk.state c.args.disk.now in
    let b : DiskState = g.D.Disk.state c.finish.new.disk in
    let e = c.args.hand.now in
    let old = c.args.self in
    let back = λ (told : IsTrusted b).
    trusted_back a b c.in_ok-made.ensures.goes told in
    record {
      ready = λ told.
          let ready = c.requires.ready (back told) in
          let job = c.requires.job (back told) in (
            ready.0,
            hand_stays a b e ready.0 ready.1 old.family old.taken job.number old.file job.merging
                (run_it a b old.file AnyFileContents (subst (λ k. Run a b k AnyFileContents) job.output
                (c.in_ok-made.ensures.any_moment (back told)))),
          );
      merging = λ told.
          let ready = c.requires.ready (back told) in
          let job = c.requires.job (back told) in (
            job.number,
            merging_on a b e ready.0 ready.1 old.family old.taken job.number old.file job.merging
                (run_it a b old.file AnyFileContents (subst (λ k. Run a b k AnyFileContents) job.output
                (c.in_ok-made.ensures.any_moment (back told)))),
          );
      made = λ told.
          let ready = c.requires.ready (back told) in
          let job = c.requires.job (back told) in
          made_of a b e ready.0 ready.1 old job (run_it a b old.file AnyFileContents
          (subst (λ k. Run a b k AnyFileContents) job.output (c.in_ok-made.ensures.any_moment (back told))))
          c.in_ok-made.made (c.in_ok-made.ensures.finished (back told)
          (take old.taken (files_at e old.family)) job.done job.stands);
      file = λ told. c.in_ok-made.ensures.output ∙ (c.requires.job (back told)).output;
      live = c.requires.live;
    }

pub returns-in_err-made-clause-any_moment : goal.returns-in_err-made-clause-any_moment
returns-in_err-made-clause-any_moment g c trusted l stands =
    let a : DiskState = g.D.Disk.state c.args.disk.now in
    let b : DiskState = g.D.Disk.state c.finish.new.disk in
    let old = c.args.self in
    let job = c.requires.job trusted in
    has_works a b c.args.live.now l
    (images_stay a b c.args.hand.now l stands old.family old.taken job.number old.file job.merging
    (run_it a b old.file AnyFileContents (subst (λ k. Run a b k AnyFileContents) job.output
    (c.in_err-made.ensures.any_moment trusted))))

pub returns-clause-any_moment : goal.returns-clause-any_moment
returns-clause-any_moment g c trusted l stands =
    let a : DiskState = g.D.Disk.state c.args.disk.now in
    let b : DiskState = g.D.Disk.state c.finish.new.disk in
    let e = c.args.hand.now in
    let old = c.args.self in
    let job = c.requires.job trusted in
    let spans : Spans a b (IsIt old.file) AnyImage =
    run_it a b old.file AnyFileContents (subst (λ k. Run a b k AnyFileContents) job.output
    (c.in_ok-made.ensures.any_moment trusted)) in
    then_works a b (g.D.Disk.state c.end_merge.new.disk) c.args.live.now l
    (images_stay a b e l stands old.family old.taken job.number old.file job.merging spans)
    (c.end_merge.ensures.any_moment (trusted_on a b c.in_ok-made.ensures.goes trusted) l
    (hand_stays a b e l stands old.family old.taken job.number old.file job.merging spans))

pub returns-clause-ok : goal.returns-clause-ok
returns-clause-ok g c = on_ok_weaker c.end_merge.result (λ all trusted l stands.
    let a : DiskState = g.D.Disk.state c.args.disk.now in
    let b : DiskState = g.D.Disk.state c.finish.new.disk in
    let old = c.args.self in
    let job = c.requires.job trusted in
    all (trusted_on a b c.in_ok-made.ensures.goes trusted) l
    (hand_stays a b c.args.hand.now l stands old.family old.taken job.number old.file job.merging
    (run_it a b old.file AnyFileContents (subst (λ k. Run a b k AnyFileContents) job.output
    (c.in_ok-made.ensures.any_moment trusted))))) c.end_merge.ensures.ok

pub returns-clause-files : goal.returns-clause-files
returns-clause-files g c = on_ok_both c.end_merge.result
    (λ all (made : IsTrusted (g.D.Disk.state c.finish.new.disk) → (l : Layout)
    → HandStandsForLayout (g.D.Disk.state c.finish.new.disk) c.args.hand.now l
    → (g.D.Disk.state c.end_merge.new.disk).file (row_file c.in_ok-made.made)
    ≡ (g.D.Disk.state c.finish.new.disk).file (row_file c.in_ok-made.made)) trusted l stands.
    let a : DiskState = g.D.Disk.state c.args.disk.now in
    let b : DiskState = g.D.Disk.state c.finish.new.disk in
    let z : DiskState = g.D.Disk.state c.end_merge.new.disk in
    let e = c.args.hand.now in
    let old = c.args.self in
    let job = c.requires.job trusted in
    let told = trusted_on a b c.in_ok-made.ensures.goes trusted in
    let spans : Spans a b (IsIt old.file) AnyImage =
    run_it a b old.file AnyFileContents (subst (λ k. Run a b k AnyFileContents) job.output
    (c.in_ok-made.ensures.any_moment trusted)) in
    let of = made_of a b e l stands old job spans c.in_ok-made.made
    (c.in_ok-made.ensures.finished trusted (take old.taken (files_at e old.family)) job.done job.stands)
    in record {
      made = c.in_ok-made.made;
      files = all told;
      purged = purged_made b z c.in_ok-made.made (entries (all_rows of.lists)) of.stands.reads
          (made told l (hand_stays a b e l stands old.family old.taken job.number old.file job.merging
          spans));
    }) c.end_merge.ensures.files c.end_merge.ensures.made

pub returns-clause-still : goal.returns-clause-still
returns-clause-still g c = on_ok_weaker c.end_merge.result (λ all trusted l stands other there apart.
    let a : DiskState = g.D.Disk.state c.args.disk.now in
    let b : DiskState = g.D.Disk.state c.finish.new.disk in
    let z : DiskState = g.D.Disk.state c.end_merge.new.disk in
    let e = c.args.hand.now in
    let old = c.args.self in
    let job = c.requires.job trusted in
    let spans : Spans a b (IsIt old.file) AnyImage =
    run_it a b old.file AnyFileContents (subst (λ k. Run a b k AnyFileContents) job.output
    (c.in_ok-made.ensures.any_moment trusted)) in
    still_then a b z (files_at e other)
    (files_stay a b e l stands old.family old.taken job.number old.file job.merging spans other)
    (all (trusted_on a b c.in_ok-made.ensures.goes trusted) l
    (hand_stays a b e l stands old.family old.taken job.number old.file job.merging spans) other there
    apart)) c.end_merge.ensures.still

pub returns-clause-adds : goal.returns-clause-adds
returns-clause-adds g c = on_ok_weaker c.end_merge.result (λ all trusted.
    all (trusted_on (g.D.Disk.state c.args.disk.now) (g.D.Disk.state c.finish.new.disk)
    c.in_ok-made.ensures.goes trusted)) c.end_merge.ensures.adds

pub returns-clause-missing : goal.returns-clause-missing
returns-clause-missing g c = on_ok_weaker c.end_merge.result (λ all trusted l stands f apart low none.
    let a : DiskState = g.D.Disk.state c.args.disk.now in
    let b : DiskState = g.D.Disk.state c.finish.new.disk in
    let old = c.args.self in
    let job = c.requires.job trusted in
    let spans : Spans a b (IsIt old.file) AnyImage =
    run_it a b old.file AnyFileContents (subst (λ k. Run a b k AnyFileContents) job.output
    (c.in_ok-made.ensures.any_moment trusted)) in
    all (trusted_on a b c.in_ok-made.ensures.goes trusted) l
    (hand_stays a b c.args.hand.now l stands old.family old.taken job.number old.file job.merging spans)
    f low (spans.file f apart ∙ none)) c.end_merge.ensures.missing

pub returns-in_err-made-clause-one_version : goal.returns-in_err-made-clause-one_version
returns-in_err-made-clause-one_version g c trusted l stands =
    let a : DiskState = g.D.Disk.state c.args.disk.now in
    let b : DiskState = g.D.Disk.state c.finish.new.disk in
    let e = c.args.hand.now in
    let old = c.args.self in
    let job = c.requires.job trusted in (
      version_in e,
      last_or a b (version_in e) (version_in e)
          (last_stays a b e l stands old.family old.taken job.number old.file job.merging
          (run_it a b old.file AnyFileContents (subst (λ k. Run a b k AnyFileContents) job.output
          (c.in_err-made.ensures.any_moment trusted)))),
    )

pub returns-clause-one_version : goal.returns-clause-one_version
returns-clause-one_version g c trusted l stands =
    let a : DiskState = g.D.Disk.state c.args.disk.now in
    let b : DiskState = g.D.Disk.state c.finish.new.disk in
    let z : DiskState = g.D.Disk.state c.end_merge.new.disk in
    let e = c.args.hand.now in
    let old = c.args.self in
    let job = c.requires.job trusted in
    let spans : Spans a b (IsIt old.file) AnyImage =
    run_it a b old.file AnyFileContents (subst (λ k. Run a b k AnyFileContents) job.output
    (c.in_ok-made.ensures.any_moment trusted)) in
    let later = c.end_merge.ensures.one_version (trusted_on a b c.in_ok-made.ensures.goes trusted) l
    (hand_stays a b e l stands old.family old.taken job.number old.file job.merging spans) in (
      later.0,
      spans_on a b z (λ f. Unit {0}) (HasOneOf (version_in e) later.0)
          (last_or a b (version_in e) later.0
          (last_stays a b e l stands old.family old.taken job.number old.file job.merging spans)) later.1,
    )
