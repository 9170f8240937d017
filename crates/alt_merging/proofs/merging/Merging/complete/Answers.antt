-- All rows, and then the end.
use Rattle.std.proofs.Common.{subst, ◌∙◌}
use Rattle.std.proofs.lemmas.Result.{on_ok_weaker}
use Rattle.alt_disk.specs.Disk.{DiskState}
use Rattle.alt_disk.proofs.Runs.{trusted_back, trusted_on}
use Rattle.alt_hand.specs.Merging.{files_at}
use Rattle.alt_hand.proofs.CarryDrafts.{still_then}
use Rattle.alt_merging.specs.Mergings.{GivesWay, family_of_merging, taken_of}
use Rattle.alt_merging.proofs.StepLaws.{has_works, then_works}
use Rattle.alt_merging.proofs.merging.Merging.complete.Goals as goal

pub returns-in_err-exhaust-clause-any_moment : goal.returns-in_err-exhaust-clause-any_moment
returns-in_err-exhaust-clause-any_moment g c trusted l stands =
    has_works (g.D.Disk.state c.args.disk.now) (g.D.Disk.state c.exhaust.new.disk) c.args.live.now l
    (c.exhaust.ensures.any_moment trusted l stands)

pub end-requires-clause-ready : goal.end-requires-clause-ready
end-requires-clause-ready g c told =
    let trusted = trusted_back (g.D.Disk.state c.args.disk.now) (g.D.Disk.state c.exhaust.new.disk)
    c.exhaust.ensures.goes told in
    let given = c.requires.ready trusted in
    (given.0, c.exhaust.ensures.ok trusted given.0 given.2)

pub returns-clause-ok : goal.returns-clause-ok
returns-clause-ok g c = on_ok_weaker c.end.result (λ all trusted l stands.
    all (trusted_on (g.D.Disk.state c.args.disk.now) (g.D.Disk.state c.exhaust.new.disk)
    c.exhaust.ensures.goes trusted) l (c.exhaust.ensures.ok trusted l stands)) c.end.ensures.ok

pub returns-clause-files : goal.returns-clause-files
returns-clause-files g c = on_ok_weaker c.end.result (λ all trusted l stands.
    let z : DiskState = g.D.Disk.state c.end.new.disk in
    let at = all (trusted_on (g.D.Disk.state c.args.disk.now) (g.D.Disk.state c.exhaust.new.disk)
    c.exhaust.ensures.goes trusted) l (c.exhaust.ensures.ok trusted l stands) in
    subst (GivesWay z c.args.hand.now c.end.new.hand (family_of_merging c.args.self)) c.exhaust.ensures.taken
    (subst (λ k. GivesWay z c.args.hand.now c.end.new.hand k (taken_of c.exhaust.new.self))
    c.exhaust.ensures.family at)) c.end.ensures.files

pub returns-clause-still : goal.returns-clause-still
returns-clause-still g c = on_ok_weaker c.end.result (λ all trusted l stands other there apart.
    let a : DiskState = g.D.Disk.state c.args.disk.now in
    let b : DiskState = g.D.Disk.state c.exhaust.new.disk in
    still_then a b (g.D.Disk.state c.end.new.disk) (files_at c.args.hand.now other)
    (c.exhaust.ensures.still trusted other)
    (all (trusted_on a b c.exhaust.ensures.goes trusted) l (c.exhaust.ensures.ok trusted l stands) other
    there (λ e. apart (e ∙ c.exhaust.ensures.family)))) c.end.ensures.still

pub returns-clause-any_moment : goal.returns-clause-any_moment
returns-clause-any_moment g c trusted l stands =
    let a : DiskState = g.D.Disk.state c.args.disk.now in
    let b : DiskState = g.D.Disk.state c.exhaust.new.disk in
    then_works a b (g.D.Disk.state c.end.new.disk) c.args.live.now l
    (c.exhaust.ensures.any_moment trusted l stands)
    (c.end.ensures.any_moment (trusted_on a b c.exhaust.ensures.goes trusted) l
    (c.exhaust.ensures.ok trusted l stands))

pub returns-clause-adds : goal.returns-clause-adds
returns-clause-adds g c = on_ok_weaker c.end.result (λ all trusted.
    all (trusted_on (g.D.Disk.state c.args.disk.now) (g.D.Disk.state c.exhaust.new.disk)
    c.exhaust.ensures.goes trusted)) c.end.ensures.adds

pub returns-clause-missing : goal.returns-clause-missing
returns-clause-missing g c = on_ok_weaker c.end.result (λ all trusted l stands f apart low none.
    all (trusted_on (g.D.Disk.state c.args.disk.now) (g.D.Disk.state c.exhaust.new.disk)
    c.exhaust.ensures.goes trusted) l (c.exhaust.ensures.ok trusted l stands) f
    (λ e. apart (e ∙ c.exhaust.ensures.file)) low (c.exhaust.ensures.only trusted f apart ∙ none))
    c.end.ensures.missing
