-- Its file is taken and made.
use Rattle.std.proofs.Common.{◌≡◌, length, sym, ap, subst, ◌∙◌, arith}
use Rattle.alt_disk.specs.Disk.{DiskState}
use Rattle.alt_rowfile.specs.Sinks.{AnyFileContents}
use Rattle.alt_layout.specs.Families.{flushed_of}
use Rattle.alt_hand.specs.Merging.{IsMerging, files_at, version_in}
use Rattle.alt_merging.proofs.StepLaws.{begins, files_stay, hand_stays, has_still, images_stay, last_stays, last_still, run_it}
use Rattle.alt_disk.specs.Runs.{Spans}
use Rattle.alt_manifest.specs.declared.version.Version.{Version}
use Rattle.alt_hand.specs.Adding.{HasLast}
use Rattle.alt_hand.specs.Carrying.{AreStill}
use Rattle.alt_hand.proofs.CarryDrafts.{all_still}
use Rattle.alt_merging.proofs.merging.Merging.start.Goals as goal

pub returns-in_err-file-clause-any_moment : goal.returns-in_err-file-clause-any_moment
returns-in_err-file-clause-any_moment g c trusted l stands =
    has_still (g.D.Disk.state c.args.disk.now) c.args.hand.now l stands

pub start-requires : goal.start-requires
start-requires g c trusted =
    let ready = c.requires.ready trusted in
    c.in_ok-file.ensures.missing (g.D.Disk.state c.args.disk.now) ready.0 ready.1

pub returns-in_err-merge-clause-any_moment : goal.returns-in_err-merge-clause-any_moment
returns-in_err-merge-clause-any_moment g c trusted l stands =
    let a : DiskState = g.D.Disk.state c.args.disk.now in
    let b : DiskState = g.D.Disk.state c.start.new.disk in
    let n = length (files_at c.args.hand.now c.args.family) in
    let number = flushed_of (version_in c.args.hand.now).families c.args.family in
    let merging : IsMerging a c.take_file.new.self c.args.family n number c.in_ok-file.file =
    subst (IsMerging a c.take_file.new.self c.args.family n number) (sym c.in_ok-file.ensures.file)
    (c.in_ok-file.ensures.merging a l c.args.family stands c.requires.some) in
    images_stay a b c.take_file.new.self l (c.in_ok-file.ensures.stands a l stands) c.args.family n
    number c.in_ok-file.file merging
    (run_it a b c.in_ok-file.file AnyFileContents (c.start.ensures.any_moment trusted))

pub returns-clause-ok : goal.returns-clause-ok
returns-clause-ok g c trusted l stands =
    let a : DiskState = g.D.Disk.state c.args.disk.now in
    let b : DiskState = g.D.Disk.state c.start.new.disk in
    let n = length (files_at c.args.hand.now c.args.family) in
    let number = flushed_of (version_in c.args.hand.now).families c.args.family in
    let merging : IsMerging a c.take_file.new.self c.args.family n number c.in_ok-file.file =
    subst (IsMerging a c.take_file.new.self c.args.family n number) (sym c.in_ok-file.ensures.file)
    (c.in_ok-file.ensures.merging a l c.args.family stands c.requires.some) in
    hand_stays a b c.take_file.new.self l (c.in_ok-file.ensures.stands a l stands) c.args.family n
    number c.in_ok-file.file merging
    (run_it a b c.in_ok-file.file AnyFileContents (c.start.ensures.any_moment trusted))

pub returns-clause-any_moment : goal.returns-clause-any_moment
returns-clause-any_moment g c trusted l stands =
    let a : DiskState = g.D.Disk.state c.args.disk.now in
    let b : DiskState = g.D.Disk.state c.start.new.disk in
    let n = length (files_at c.args.hand.now c.args.family) in
    let number = flushed_of (version_in c.args.hand.now).families c.args.family in
    let merging : IsMerging a c.take_file.new.self c.args.family n number c.in_ok-file.file =
    subst (IsMerging a c.take_file.new.self c.args.family n number) (sym c.in_ok-file.ensures.file)
    (c.in_ok-file.ensures.merging a l c.args.family stands c.requires.some) in
    images_stay a b c.take_file.new.self l (c.in_ok-file.ensures.stands a l stands) c.args.family n
    number c.in_ok-file.file merging
    (run_it a b c.in_ok-file.file AnyFileContents (c.start.ensures.any_moment trusted))

pub returns-clause-job : goal.returns-clause-job
returns-clause-job g c trusted l stands =
    let a : DiskState = g.D.Disk.state c.args.disk.now in
    let b : DiskState = g.D.Disk.state c.start.new.disk in
    let e = c.take_file.new.self in
    let n = length (files_at c.args.hand.now c.args.family) in
    let number = flushed_of (version_in c.args.hand.now).families c.args.family in
    let count : length c.files-taken.result.now ≡ n = ap (λ fs. length fs) c.files-taken.ensures in
    let merging : IsMerging a e c.args.family n number c.in_ok-file.file =
    subst (IsMerging a e c.args.family n number) (sym c.in_ok-file.ensures.file)
    (c.in_ok-file.ensures.merging a l c.args.family stands c.requires.some) in
    let at : IsMerging a e c.args.family (length c.files-taken.result.now) number c.in_ok-file.file =
    subst (λ k. IsMerging a e c.args.family k number c.in_ok-file.file) (sym count) merging in
    begins a b e l (c.in_ok-file.ensures.stands a l stands) c.args.family (length c.files-taken.result.now) number
    c.in_ok-file.file at (run_it a b c.in_ok-file.file AnyFileContents (c.start.ensures.any_moment trusted))
    c.in_ok-merge.merge c.in_ok-merge.ensures.output c.in_ok-merge.ensures.purge
    (c.in_ok-merge.ensures.begun trusted)

pub returns-in_err-file-clause-still : goal.returns-in_err-file-clause-still
returns-in_err-file-clause-still g c trusted l stands other =
    all_still (g.D.Disk.state c.args.disk.now) (files_at c.args.hand.now other)

pub returns-in_err-merge-clause-still : goal.returns-in_err-merge-clause-still
returns-in_err-merge-clause-still g c trusted l stands other =
    let a : DiskState = g.D.Disk.state c.args.disk.now in
    let b : DiskState = g.D.Disk.state c.start.new.disk in
    let n = length (files_at c.args.hand.now c.args.family) in
    let number = flushed_of (version_in c.args.hand.now).families c.args.family in
    let merging : IsMerging a c.take_file.new.self c.args.family n number c.in_ok-file.file =
    subst (IsMerging a c.take_file.new.self c.args.family n number) (sym c.in_ok-file.ensures.file)
    (c.in_ok-file.ensures.merging a l c.args.family stands c.requires.some) in
    subst (AreStill a b) (c.take_file.ensures.files other)
    (files_stay a b c.take_file.new.self l (c.in_ok-file.ensures.stands a l stands) c.args.family n
    number c.in_ok-file.file merging
    (run_it a b c.in_ok-file.file AnyFileContents (c.start.ensures.any_moment trusted)) other)

pub returns-clause-still : goal.returns-clause-still
returns-clause-still g c trusted l stands other =
    let a : DiskState = g.D.Disk.state c.args.disk.now in
    let b : DiskState = g.D.Disk.state c.start.new.disk in
    let n = length (files_at c.args.hand.now c.args.family) in
    let number = flushed_of (version_in c.args.hand.now).families c.args.family in
    let merging : IsMerging a c.take_file.new.self c.args.family n number c.in_ok-file.file =
    subst (IsMerging a c.take_file.new.self c.args.family n number) (sym c.in_ok-file.ensures.file)
    (c.in_ok-file.ensures.merging a l c.args.family stands c.requires.some) in
    subst (AreStill a b) (c.take_file.ensures.files other)
    (files_stay a b c.take_file.new.self l (c.in_ok-file.ensures.stands a l stands) c.args.family n
    number c.in_ok-file.file merging
    (run_it a b c.in_ok-file.file AnyFileContents (c.start.ensures.any_moment trusted)) other)

pub returns-in_err-file-clause-last : goal.returns-in_err-file-clause-last
returns-in_err-file-clause-last g c trusted l stands =
    last_still (g.D.Disk.state c.args.disk.now) c.args.hand.now l stands

pub returns-in_err-merge-clause-last : goal.returns-in_err-merge-clause-last
returns-in_err-merge-clause-last g c trusted l stands =
    let a : DiskState = g.D.Disk.state c.args.disk.now in
    let b : DiskState = g.D.Disk.state c.start.new.disk in
    let n = length (files_at c.args.hand.now c.args.family) in
    let number = flushed_of (version_in c.args.hand.now).families c.args.family in
    let merging : IsMerging a c.take_file.new.self c.args.family n number c.in_ok-file.file =
    subst (IsMerging a c.take_file.new.self c.args.family n number) (sym c.in_ok-file.ensures.file)
    (c.in_ok-file.ensures.merging a l c.args.family stands c.requires.some) in
    subst (λ (v : Version). Spans a b (λ f. Unit {0}) (HasLast v)) c.take_file.ensures.version
    (last_stays a b c.take_file.new.self l (c.in_ok-file.ensures.stands a l stands) c.args.family n
    number c.in_ok-file.file merging
    (run_it a b c.in_ok-file.file AnyFileContents (c.start.ensures.any_moment trusted)))

pub returns-clause-last : goal.returns-clause-last
returns-clause-last g c trusted l stands =
    let a : DiskState = g.D.Disk.state c.args.disk.now in
    let b : DiskState = g.D.Disk.state c.start.new.disk in
    let n = length (files_at c.args.hand.now c.args.family) in
    let number = flushed_of (version_in c.args.hand.now).families c.args.family in
    let merging : IsMerging a c.take_file.new.self c.args.family n number c.in_ok-file.file =
    subst (IsMerging a c.take_file.new.self c.args.family n number) (sym c.in_ok-file.ensures.file)
    (c.in_ok-file.ensures.merging a l c.args.family stands c.requires.some) in
    subst (λ (v : Version). Spans a b (λ f. Unit {0}) (HasLast v)) c.take_file.ensures.version
    (last_stays a b c.take_file.new.self l (c.in_ok-file.ensures.stands a l stands) c.args.family n
    number c.in_ok-file.file merging
    (run_it a b c.in_ok-file.file AnyFileContents (c.start.ensures.any_moment trusted)))

pub returns-in_err-merge-clause-missing : goal.returns-in_err-merge-clause-missing
returns-in_err-merge-clause-missing g c trusted f low none =
    (c.start.ensures.any_moment trusted).file f (λ (same : f ≡ c.in_ok-file.file).
    let at = c.in_ok-file.ensures.file in omega (arith, low, same, at)) ∙ none

pub returns-clause-missing : goal.returns-clause-missing
returns-clause-missing g c trusted f low none =
    (c.start.ensures.any_moment trusted).file f (λ (same : f ≡ c.in_ok-file.file).
    let at = c.in_ok-file.ensures.file in omega (arith, low, same, at)) ∙ none
