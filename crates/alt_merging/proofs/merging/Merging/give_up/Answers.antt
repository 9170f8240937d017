-- A removal beside the hand.
use Rattle.std.specs.Prelude.{is_ok}
use Rattle.alt_disk.specs.Disk.{DiskState}
use Rattle.alt_layout.proofs.MomentLaws.{removal}
use Rattle.alt_merging.proofs.StepLaws.{files_stay, hand_stays, images_stay, last_stays, run_it}
use Rattle.alt_merging.proofs.merging.Merging.give_up.Goals as goal

pub returns-in-Ok-clause-ok : goal.returns-in-Ok-clause-ok
returns-in-Ok-clause-ok g c trusted l left stands merging =
    let a : DiskState = g.D.Disk.state c.args.disk.now in
    let b : DiskState = g.D.Disk.state c.remove.new.self in
    let old = c.args.self in
    hand_stays a b c.args.hand.now l stands old.family old.taken merging.number old.file
    merging.merging (run_it a b old.file (λ t left. Unit {0})
    (removal a b old.file (is_ok c.remove.result) c.remove.ensures.call.call
    (c.remove.ensures.removed trusted)))

pub returns-clause-ok : goal.returns-clause-ok
returns-clause-ok g c trusted l left stands merging =
    let a : DiskState = g.D.Disk.state c.args.disk.now in
    let b : DiskState = g.D.Disk.state c.remove.new.self in
    let old = c.args.self in
    hand_stays a b c.args.hand.now l stands old.family old.taken merging.number old.file
    merging.merging (run_it a b old.file (λ t left. Unit {0})
    (removal a b old.file (is_ok c.remove.result) c.remove.ensures.call.call
    (c.remove.ensures.removed trusted)))

pub returns-in-Ok-clause-any_moment : goal.returns-in-Ok-clause-any_moment
returns-in-Ok-clause-any_moment g c trusted l left stands merging =
    let a : DiskState = g.D.Disk.state c.args.disk.now in
    let b : DiskState = g.D.Disk.state c.remove.new.self in
    let old = c.args.self in
    images_stay a b c.args.hand.now l stands old.family old.taken merging.number old.file
    merging.merging (run_it a b old.file (λ t left. Unit {0})
    (removal a b old.file (is_ok c.remove.result) c.remove.ensures.call.call
    (c.remove.ensures.removed trusted)))

pub returns-clause-any_moment : goal.returns-clause-any_moment
returns-clause-any_moment g c trusted l left stands merging =
    let a : DiskState = g.D.Disk.state c.args.disk.now in
    let b : DiskState = g.D.Disk.state c.remove.new.self in
    let old = c.args.self in
    images_stay a b c.args.hand.now l stands old.family old.taken merging.number old.file
    merging.merging (run_it a b old.file (λ t left. Unit {0})
    (removal a b old.file (is_ok c.remove.result) c.remove.ensures.call.call
    (c.remove.ensures.removed trusted)))

pub returns-in-Ok-clause-still : goal.returns-in-Ok-clause-still
returns-in-Ok-clause-still g c trusted l left stands merging other =
    let a : DiskState = g.D.Disk.state c.args.disk.now in
    let b : DiskState = g.D.Disk.state c.remove.new.self in
    let old = c.args.self in
    files_stay a b c.args.hand.now l stands old.family old.taken merging.number old.file
    merging.merging (run_it a b old.file (λ t left. Unit {0})
    (removal a b old.file (is_ok c.remove.result) c.remove.ensures.call.call
    (c.remove.ensures.removed trusted))) other

pub returns-clause-still : goal.returns-clause-still
returns-clause-still g c trusted l left stands merging other =
    let a : DiskState = g.D.Disk.state c.args.disk.now in
    let b : DiskState = g.D.Disk.state c.remove.new.self in
    let old = c.args.self in
    files_stay a b c.args.hand.now l stands old.family old.taken merging.number old.file
    merging.merging (run_it a b old.file (λ t left. Unit {0})
    (removal a b old.file (is_ok c.remove.result) c.remove.ensures.call.call
    (c.remove.ensures.removed trusted))) other

pub returns-in-Ok-clause-last : goal.returns-in-Ok-clause-last
returns-in-Ok-clause-last g c trusted l left stands merging =
    let a : DiskState = g.D.Disk.state c.args.disk.now in
    let b : DiskState = g.D.Disk.state c.remove.new.self in
    let old = c.args.self in
    last_stays a b c.args.hand.now l stands old.family old.taken merging.number old.file
    merging.merging (run_it a b old.file (λ t left. Unit {0})
    (removal a b old.file (is_ok c.remove.result) c.remove.ensures.call.call
    (c.remove.ensures.removed trusted)))

pub returns-clause-last : goal.returns-clause-last
returns-clause-last g c trusted l left stands merging =
    let a : DiskState = g.D.Disk.state c.args.disk.now in
    let b : DiskState = g.D.Disk.state c.remove.new.self in
    let old = c.args.self in
    last_stays a b c.args.hand.now l stands old.family old.taken merging.number old.file
    merging.merging (run_it a b old.file (λ t left. Unit {0})
    (removal a b old.file (is_ok c.remove.result) c.remove.ensures.call.call
    (c.remove.ensures.removed trusted)))
