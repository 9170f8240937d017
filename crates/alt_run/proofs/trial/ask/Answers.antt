use Rattle.std.proofs.Common.{◌∙◌, ◌≤◌, ◌+◌, true, ap, refl, subst}
use Rattle.alt_disk.proofs.Runs.{trusted_back, trusted_on}
use Rattle.alt_tables.specs.FilesLeft.{most_files}
use Rattle.alt_tables.specs.EngineInHand.{Bounds}
use Rattle.alt_tables.specs.Stands.{bounds_of}
use Rattle.alt_talks.specs.Own.{FollowsNot, own_behind}
use Rattle.alt_talks.specs.Works.{HasFewEntries}
use Rattle.alt_run.specs.Trials.{trial_moment}
use Rattle.alt_run.specs.Turns.{carried_out}
use Rattle.alt_run.specs.private.Rungs.{left_by_named_request}
use Rattle.alt_run.proofs.TrialRequests.{one_done, one_broke, one_followed_some}
use Rattle.alt_run.proofs.trial.ask.Goals as goal

pub returns-in-Err-clause-counted : goal.returns-in-Err-clause-counted
returns-in-Err-clause-counted g c = λ s stands.
    let state = g.D.Disk.state in
    one_broke (state c.args.disk.now) (state c.reply_text.new.disk) s c.args.name.now c.args.body.now
    (c.in-Err.ensures.leaves s stands) c.in-Err.fault (bounds_of c.args.tables.now).file
    (c.in-Err.ensures.cause s stands)

pub follow-requires : goal.follow-requires
follow-requires g c =
    let state = g.D.Disk.state in
    record {
      ready = λ trusted.
          let first = c.requires.ready (trusted_back (state c.args.disk.now)
          (state c.reply_text.new.disk) c.in-Ok.ensures.goes trusted) in (
            left_by_named_request first.0 c.args.name.now c.args.body.now trial_moment,
            c.in-Ok.ensures.state first.0 first.1,
          );
    }

pub returns-in-Ok-follow-clause-counted : goal.returns-in-Ok-follow-clause-counted
returns-in-Ok-follow-clause-counted g c = λ s stands.
    let state = g.D.Disk.state in
    let old = state c.args.disk.now in
    let mid = state c.reply_text.new.disk in
    let name = c.args.name.now in
    let body = c.args.body.now in
    let left = left_by_named_request s name body trial_moment in
    let there = c.in-Ok.ensures.state s stands in
    one_done old mid (state c.follow.new.disk) s name body (c.in-Ok.ensures.leaves s stands)
    (trusted_on old mid c.in-Ok.ensures.goes) (c.in-Ok-follow.ensures.follows left there)
    (c.in-Ok.ensures.enough s stands) c.follow.new.tables c.args.tally.now c.count.new.self
    (c.in-Ok-follow.ensures.enough left there) (c.in-Ok-follow.ensures.stands left there)
    (λ ts tally. c.count.ensures.counted ts (carried_out s name body trial_moment)
    (c.as_bytes.ensures.value ∙ c.in-Ok.ensures.text s stands) tally)

pub returns-in-Ok-follow-clause-few : goal.returns-in-Ok-follow-clause-few
returns-in-Ok-follow-clause-few g c = subst
    (λ (b : Bounds). HasFewEntries b.limits.flush (g.D.Disk.state c.follow.new.disk))
    c.in-Ok.ensures.limits (c.in-Ok-follow.ensures.entries refl)

pub returns-in-Err-follow-clause-counted : goal.returns-in-Err-follow-clause-counted
returns-in-Err-follow-clause-counted g c = λ s stands.
    let state = g.D.Disk.state in
    let old = state c.args.disk.now in
    let mid = state c.reply_text.new.disk in
    let name = c.args.name.now in
    let body = c.args.body.now in
    let left = left_by_named_request s name body trial_moment in
    let there = c.in-Ok.ensures.state s stands in
    one_followed_some old mid (state c.follow.new.disk) s name body (c.in-Ok.ensures.leaves s stands)
    (trusted_on old mid c.in-Ok.ensures.goes) (c.in-Err-follow.ensures.follows left there)
    (c.in-Ok.ensures.enough s stands) c.in-Err-follow.fault (bounds_of c.args.tables.now).file
    (subst (λ (b : Bounds). FollowsNot true b.file (own_behind left) c.in-Err-follow.fault) c.in-Ok.ensures.limits (c.in-Err-follow.ensures.fault left there))

pub returns-in-Ok-follow-clause-files : goal.returns-in-Ok-follow-clause-files
returns-in-Ok-follow-clause-files g c = λ s stands.
    let there = c.in-Ok.ensures.state s stands in
    subst (λ (b : Bounds). (bounds_of c.follow.new.tables).file ≤ b.file + most_files)
    c.in-Ok.ensures.limits (c.in-Ok-follow.ensures.files _ there)

pub returns-in-Err-clause-limits : goal.returns-in-Err-clause-limits
returns-in-Err-clause-limits g c = ap (λ (b : Bounds). b.limits) c.in-Err.ensures.limits

pub returns-in-Ok-follow-clause-limits : goal.returns-in-Ok-follow-clause-limits
returns-in-Ok-follow-clause-limits g c =
    c.in-Ok-follow.ensures.limits ∙ ap (λ (b : Bounds). b.limits) c.in-Ok.ensures.limits

pub returns-in-Err-follow-clause-limits : goal.returns-in-Err-follow-clause-limits
returns-in-Err-follow-clause-limits g c =
    c.in-Err-follow.ensures.limits ∙ ap (λ (b : Bounds). b.limits) c.in-Ok.ensures.limits
