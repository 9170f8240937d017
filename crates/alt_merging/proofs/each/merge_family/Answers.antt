-- Whether there is anything to merge, and then a merge of all files.
use Rattle.std.proofs.Common.{◌∷◌, length, drop, sym, ap, subst, ◌∙◌, arith}
use Rattle.alt_disk.specs.Disk.{DiskState}
use Rattle.alt_disk.proofs.Runs.{trusted_back, trusted_on}
use Rattle.alt_filemerge.specs.FileMerges.{ReadEach}
use Rattle.alt_manifest.specs.Rules.{Reflects}
use Rattle.alt_hand.specs.Merging.{files_at}
use Rattle.alt_hand.specs.Carrying.{AreStill}
use Rattle.alt_hand.proofs.BesideLaws.{drop_all, files_read}
use Rattle.alt_hand.proofs.CarryDrafts.{all_still, still_then}
use Rattle.alt_hand.proofs.EndLaws.{works_same, works_still}
use Rattle.alt_merging.specs.Merged.{AreMerged}
use Rattle.alt_merging.specs.Mergings.{GivesWay, taken_of}
use Rattle.alt_merging.proofs.EachLaws.{adds_from, leaves_from}
use Rattle.alt_merging.proofs.StepLaws.{has_works, then_works}
use Rattle.alt_merging.proofs.each.merge_family.Goals as goal

pub returns-then-merged-clause-ok : goal.returns-then-merged-clause-ok
returns-then-merged-clause-ok g c trusted l stands = (l, stands, works_same c.args.live.now l)

pub returns-then-merged-clause-merged : goal.returns-then-merged-clause-merged
returns-then-merged-clause-merged g c trusted =
    let a : DiskState = g.D.Disk.state c.args.disk.now in
    let e = c.args.hand.now in
    let family = c.args.family in
    let live = c.args.live.now in
    let given = c.requires.ready trusted in
    let read = files_read a e given.0 family given.1.reads in
    let at = subst (λ t. Reflects t (AreMerged a c.files.result.now)) c.if-merged.true
    (c.are_merged-merged.ensures.merged a read.0
    (subst (λ fs. ReadEach a fs read.0) (sym c.files.ensures) read.1)) in
    subst (AreMerged a) c.files.ensures at

pub returns-then-merged-clause-still : goal.returns-then-merged-clause-still
returns-then-merged-clause-still g c trusted other there apart =
    all_still (g.D.Disk.state c.args.disk.now) (files_at c.args.hand.now other)

pub returns-then-merged-clause-idle : goal.returns-then-merged-clause-idle
returns-then-merged-clause-idle g c off trusted =
    let a : DiskState = g.D.Disk.state c.args.disk.now in
    let e = c.args.hand.now in
    let family = c.args.family in
    let live = c.args.live.now in
    let given = c.requires.ready trusted in
    let read = files_read a e given.0 family given.1.reads in
    let at = subst (λ t. Reflects t (AreMerged a c.files.result.now)) c.if-merged.true
    (c.are_merged-merged.ensures.merged a read.0
    (subst (λ fs. ReadEach a fs read.0) (sym c.files.ensures) read.1)) in
    subst (AreMerged a) c.files.ensures at

pub returns-then-merged-clause-any_moment : goal.returns-then-merged-clause-any_moment
returns-then-merged-clause-any_moment g c trusted l stands =
    works_still (g.D.Disk.state c.args.disk.now) c.args.hand.now l c.args.live.now stands

pub returns-in_err-merging-clause-any_moment : goal.returns-in_err-merging-clause-any_moment
returns-in_err-merging-clause-any_moment g c trusted l stands =
    has_works (g.D.Disk.state c.args.disk.now) (g.D.Disk.state c.start.new.disk) c.args.live.now l
    (c.start.ensures.any_moment trusted l stands)

pub complete-requires-clause-ready : goal.complete-requires-clause-ready
complete-requires-clause-ready g c told =
    let trusted = trusted_back (g.D.Disk.state c.args.disk.now) (g.D.Disk.state c.start.new.disk)
    c.in_ok-merging.ensures.goes told in
    let given = c.requires.ready trusted in
    let job = c.in_ok-merging.ensures.job trusted given.0 given.1 in
    (given.0, job.0, c.in_ok-merging.ensures.ok trusted given.0 given.1, job.1)

pub returns-in_err-complete-clause-any_moment : goal.returns-in_err-complete-clause-any_moment
returns-in_err-complete-clause-any_moment g c trusted l stands =
    let a : DiskState = g.D.Disk.state c.args.disk.now in
    let e = c.args.hand.now in
    let family = c.args.family in
    let live = c.args.live.now in
    let d : DiskState = g.D.Disk.state c.start.new.disk in
    let z : DiskState = g.D.Disk.state c.complete.new.disk in
    let told = trusted_on a d c.in_ok-merging.ensures.goes trusted in
    let at_d = c.in_ok-merging.ensures.ok trusted l stands in
    then_works a d z live l (c.start.ensures.any_moment trusted l stands)
    (c.complete.ensures.any_moment told l at_d)

pub returns-clause-ok : goal.returns-clause-ok
returns-clause-ok g c trusted l stands =
    let a : DiskState = g.D.Disk.state c.args.disk.now in
    let e = c.args.hand.now in
    let family = c.args.family in
    let live = c.args.live.now in
    let d : DiskState = g.D.Disk.state c.start.new.disk in
    let z : DiskState = g.D.Disk.state c.complete.new.disk in
    let told = trusted_on a d c.in_ok-merging.ensures.goes trusted in
    let at_d = c.in_ok-merging.ensures.ok trusted l stands in
    c.in_ok-complete.ensures.ok told l at_d

pub returns-clause-merged : goal.returns-clause-merged
returns-clause-merged g c trusted =
    let a : DiskState = g.D.Disk.state c.args.disk.now in
    let e = c.args.hand.now in
    let family = c.args.family in
    let live = c.args.live.now in
    let given = c.requires.ready trusted in
    let l = given.0 in
    let stands = given.1 in
    let d : DiskState = g.D.Disk.state c.start.new.disk in
    let z : DiskState = g.D.Disk.state c.complete.new.disk in
    let told = trusted_on a d c.in_ok-merging.ensures.goes trusted in
    let at_d = c.in_ok-merging.ensures.ok trusted l stands in
    let job = c.in_ok-merging.merging in
    let gives = c.in_ok-complete.ensures.files told l at_d in
    let all : GivesWay z c.start.new.hand c.complete.new.hand family (length (files_at e family)) =
    subst (GivesWay z c.start.new.hand c.complete.new.hand family) c.in_ok-merging.ensures.taken
    (subst (λ k. GivesWay z c.start.new.hand c.complete.new.hand k (taken_of job))
    c.in_ok-merging.ensures.family gives) in
    subst (AreMerged z) (sym (all.files
    ∙ ap (λ fs. all.made ∷ drop (length (files_at e family)) fs) (c.start.ensures.files family)
    ∙ ap (λ fs. all.made ∷ fs) (drop_all (files_at e family)))) all.purged

pub returns-clause-still : goal.returns-clause-still
returns-clause-still g c trusted other there apart =
    let a : DiskState = g.D.Disk.state c.args.disk.now in
    let e = c.args.hand.now in
    let family = c.args.family in
    let live = c.args.live.now in
    let given = c.requires.ready trusted in
    let l = given.0 in
    let stands = given.1 in
    let d : DiskState = g.D.Disk.state c.start.new.disk in
    let z : DiskState = g.D.Disk.state c.complete.new.disk in
    let told = trusted_on a d c.in_ok-merging.ensures.goes trusted in
    let at_d = c.in_ok-merging.ensures.ok trusted l stands in
    still_then a d z (files_at e other) (c.start.ensures.still trusted l stands other)
    (subst (AreStill d z) (c.start.ensures.files other) (c.in_ok-complete.ensures.still told l at_d
    other there (λ same. apart (same ∙ c.in_ok-merging.ensures.family))))

pub returns-clause-busy : goal.returns-clause-busy
returns-clause-busy g c on trusted merged =
    let a : DiskState = g.D.Disk.state c.args.disk.now in
    let e = c.args.hand.now in
    let family = c.args.family in
    let live = c.args.live.now in
    let given = c.requires.ready trusted in
    let read = files_read a e given.0 family given.1.reads in
    let at = subst (λ t. Reflects t (AreMerged a c.files.result.now)) c.if-merged.false
    (c.are_merged-merged.ensures.merged a read.0
    (subst (λ fs. ReadEach a fs read.0) (sym c.files.ensures) read.1)) in
    at (subst (AreMerged a) (sym c.files.ensures) merged)

pub returns-clause-memory : goal.returns-clause-memory
returns-clause-memory g c other lives =
    c.in_ok-complete.ensures.memory other lives ∙ c.start.ensures.memory other

pub returns-clause-leaves_out : goal.returns-clause-leaves_out
returns-clause-leaves_out g c on = leaves_from c.args.live.now c.args.hand.now c.start.new.hand
    c.complete.new.hand c.start.ensures.version c.start.ensures.memory c.start.ensures.next
    c.in_ok-complete.ensures.leaves_out

pub returns-clause-adds : goal.returns-clause-adds
returns-clause-adds g c on trusted = adds_from (g.D.Disk.state c.complete.new.disk) c.args.hand.now
    c.start.new.hand c.complete.new.hand c.start.ensures.version
    (c.in_ok-complete.ensures.adds (trusted_on (g.D.Disk.state c.args.disk.now)
    (g.D.Disk.state c.start.new.disk) c.in_ok-merging.ensures.goes trusted))

pub returns-clause-missing : goal.returns-clause-missing
returns-clause-missing g c trusted l stands f low none =
    let a : DiskState = g.D.Disk.state c.args.disk.now in
    let e = c.args.hand.now in
    let family = c.args.family in
    let live = c.args.live.now in
    let d : DiskState = g.D.Disk.state c.start.new.disk in
    let z : DiskState = g.D.Disk.state c.complete.new.disk in
    let told = trusted_on a d c.in_ok-merging.ensures.goes trusted in
    let at_d = c.in_ok-merging.ensures.ok trusted l stands in
    let file = c.in_ok-merging.ensures.file in
    let next = c.in_ok-merging.ensures.next_file in
    c.in_ok-complete.ensures.missing told l at_d f (λ same. omega (arith, low, same, file))
    (omega (arith, low, next)) (c.start.ensures.missing trusted f low none)

pub returns-clause-any_moment : goal.returns-clause-any_moment
returns-clause-any_moment g c trusted l stands =
    let a : DiskState = g.D.Disk.state c.args.disk.now in
    let e = c.args.hand.now in
    let family = c.args.family in
    let live = c.args.live.now in
    let d : DiskState = g.D.Disk.state c.start.new.disk in
    let z : DiskState = g.D.Disk.state c.complete.new.disk in
    let told = trusted_on a d c.in_ok-merging.ensures.goes trusted in
    let at_d = c.in_ok-merging.ensures.ok trusted l stands in
    then_works a d z live l (c.start.ensures.any_moment trusted l stands)
    (c.complete.ensures.any_moment told l at_d)
