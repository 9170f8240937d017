-- The merge that was taken out stands.
use Rattle.std.proofs.Common.{◌≡◌, Some, rules, sym}
use Rattle.alt_merging.proofs.HandEndLaws.{works_same, works_still}
use Rattle.alt_merging.specs.HandMerging.{files_at}
use Rattle.alt_merging.proofs.HandCarryDrafts.{all_still}
use Rattle.alt_engine.specs.InHand.{merge_of}
use Rattle.alt_engine.proofs.Stepping.{taken_stands}
use Rattle.alt_engine.proofs.engine.Engine.end.Goals as goal

pub complete-requires-clause-ready : goal.complete-requires-clause-ready
complete-requires-clause-ready g c trusted =
    let is : merge_of c.args.self.now ≡ Some c.in-Some.merging = search rules in
    let given = c.requires.ready trusted in
    let going = taken_stands (g.D.Disk.state c.args.disk.now) c.args.self.now c.in-Some.merging is
    given.1.merging in
    (given.0, going.0, given.1.hand, going.1)

pub returns-in_err-complete-in-Some-clause-any_moment :
    goal.returns-in_err-complete-in-Some-clause-any_moment
returns-in_err-complete-in-Some-clause-any_moment g c trusted l stands =
    c.complete.ensures.any_moment trusted l stands.hand

pub returns-in_ok-complete-in-Some-clause-ok : goal.returns-in_ok-complete-in-Some-clause-ok
returns-in_ok-complete-in-Some-clause-ok g c trusted l stands =
    c.in_ok-complete-in-Some.ensures.ok trusted l stands.hand

pub returns-in_ok-complete-in-Some-clause-any_moment :
    goal.returns-in_ok-complete-in-Some-clause-any_moment
returns-in_ok-complete-in-Some-clause-any_moment g c trusted l stands =
    c.complete.ensures.any_moment trusted l stands.hand

pub returns-in-None-clause-ok : goal.returns-in-None-clause-ok
returns-in-None-clause-ok g c trusted l stands =
    (l, stands.hand, works_same c.args.live.now l)

pub returns-in-None-clause-any_moment : goal.returns-in-None-clause-any_moment
returns-in-None-clause-any_moment g c trusted l stands = works_still
    (g.D.Disk.state c.args.disk.now) c.args.self.now.hand l c.args.live.now stands.hand

pub returns-in_ok-complete-in-Some-clause-others :
    goal.returns-in_ok-complete-in-Some-clause-others
returns-in_ok-complete-in-Some-clause-others g c family lives apart =
    let is : merge_of c.args.self.now ≡ Some c.in-Some.merging = search rules in
    c.in_ok-complete-in-Some.ensures.others family lives (λ same. apart c.in-Some.merging is (sym same))

pub returns-in_ok-complete-in-Some-clause-still :
    goal.returns-in_ok-complete-in-Some-clause-still
returns-in_ok-complete-in-Some-clause-still g c trusted l stands family lives apart =
    let is : merge_of c.args.self.now ≡ Some c.in-Some.merging = search rules in
    c.in_ok-complete-in-Some.ensures.still trusted l stands.hand family lives
    (λ same. apart c.in-Some.merging is (sym same))

pub returns-in-None-clause-still : goal.returns-in-None-clause-still
returns-in-None-clause-still g c trusted l stands family lives apart =
    all_still (g.D.Disk.state c.args.disk.now) (files_at c.args.self.now.hand family)

pub returns-in_ok-complete-in-Some-clause-missing :
    goal.returns-in_ok-complete-in-Some-clause-missing
returns-in_ok-complete-in-Some-clause-missing g c trusted l stands f other low none =
    let is : merge_of c.args.self.now ≡ Some c.in-Some.merging = search rules in
    c.in_ok-complete-in-Some.ensures.missing trusted l stands.hand f (other c.in-Some.merging is) low none

pub returns-in-None-clause-missing : goal.returns-in-None-clause-missing
returns-in-None-clause-missing g c trusted l stands f other low none = none
