use Rattle.std.proofs.Common.{◌∷◌, [], ◌∙◌, ◌≤◌, ◌+◌, true, ap, refl, subst}
use Rattle.alt_disk.proofs.Runs.{trusted_back}
use Rattle.alt_disk.specs.Disk.{DiskState}
use Rattle.alt_tables.specs.EngineInHand.{Bounds}
use Rattle.alt_machine.specs.Wanted.{wanted}
use Rattle.alt_tables.specs.FilesLeft.{most_files}
use Rattle.alt_tables.specs.Stands.{bounds_of}
use Rattle.alt_talks.specs.Own.{FollowsNot, own_behind}
use Rattle.alt_talks.specs.Works.{HasFewEntries}
use Rattle.alt_run.specs.Turns.{request, carried_out, outcome_by_name}
use Rattle.alt_run.specs.private.Rungs.{left_by_named_request}
use Rattle.alt_run.proofs.TurnServing.{turn_cut, turn_unsaid}
use Rattle.alt_run.proofs.Working.{request_broke, request_served}
use Rattle.alt_talks.proofs.Owning.{answer_first}
use Rattle.alt_talks.proofs.Stopping.{ready_kept, stands_kept}
use Rattle.alt_run.proofs.Beginning.{begins}
use Rattle.alt_run.proofs.Bringing.{at_hand_worked, silent_then}
use Rattle.alt_run.proofs.serve.answer_request.Goals as goal

pub reply_text-requires : goal.reply_text-requires
reply_text-requires g c =
    let state = g.S.Disk.state in
    record {
      ready = ready_kept (state c.args.shell.now) (state c.now-moment.new.self) c.args.tables.now
          c.now-moment.ensures.call.keeps c.requires.ready;
    }

pub returns-in-Err-clause-served : goal.returns-in-Err-clause-served
returns-in-Err-clause-served g c = λ s stands.
    let state = g.S.Disk.state in
    let old : DiskState = state c.args.shell.now in
    let mid : DiskState = state c.now-moment.new.self in
    let new : DiskState = state c.reply_text.new.disk in
    let m = c.now-moment.result in
    let here = stands_kept old mid c.now-moment.ensures.call.keeps c.args.tables.now s stands in
    turn_unsaid old new s (request c.args.name.now c.args.body.now)
    (carried_out s c.args.name.now c.args.body.now m) (m ∷ []) c.in-Err.fault
    (bounds_of c.args.tables.now).file refl refl
    (begins old mid new s c.args.name.now c.args.body.now m c.now-moment.ensures.call
    c.now-moment.ensures.log c.now-moment.ensures.told c.in-Err.ensures.goes
    (c.in-Err.ensures.leaves s here))
    (answer_first _ (wanted s (outcome_by_name s c.args.name.now c.args.body.now m))
    (own_behind (left_by_named_request s c.args.name.now c.args.body.now m)).lacks _ c.in-Err.fault
    (c.in-Err.ensures.cause s here))

pub returns-in-Err-say-clause-served : goal.returns-in-Err-say-clause-served
returns-in-Err-say-clause-served g c = λ s stands.
    let state = g.S.Disk.state in
    let old : DiskState = state c.args.shell.now in
    let mid : DiskState = state c.now-moment.new.self in
    let new : DiskState = state c.reply_text.new.disk in
    let m = c.now-moment.result in
    let here = stands_kept old mid c.now-moment.ensures.call.keeps c.args.tables.now s stands in
    turn_cut old new (state c.say.new.self) c.reply_text.new.tables
    (bounds_of c.args.tables.now).file s
    (request c.args.name.now c.args.body.now)
    (carried_out s c.args.name.now c.args.body.now m) (m ∷ []) c.as_bytes.result.now
    (begins old mid new s c.args.name.now c.args.body.now m c.now-moment.ensures.call
    c.now-moment.ensures.log c.now-moment.ensures.told c.in-Ok.ensures.goes
    (c.in-Ok.ensures.leaves s here))
    (c.in-Ok.ensures.state s here)
    c.in-Err-say.ensures.call
    c.in-Err-say.ensures.moments
    (c.as_bytes.ensures.value ∙ c.in-Ok.ensures.text s here)
    c.in-Err-say.ensures.said

pub follow-requires : goal.follow-requires
follow-requires g c =
    let state = g.S.Disk.state in
    let old : DiskState = state c.args.shell.now in
    let mid : DiskState = state c.now-moment.new.self in
    let asked : DiskState = state c.reply_text.new.disk in
    let m = c.now-moment.result in
    record {
      ready = ready_kept asked (state c.say.new.self) c.reply_text.new.tables
          c.in-Ok-say.ensures.call.keeps
          (λ trusted.
          let first = ready_kept old mid c.args.tables.now c.now-moment.ensures.call.keeps
          c.requires.ready (trusted_back mid asked c.in-Ok.ensures.goes trusted) in (
            left_by_named_request first.0 c.args.name.now c.args.body.now m,
            c.in-Ok.ensures.state first.0 first.1,
          ));
    }

pub returns-in-Ok-follow-clause-served : goal.returns-in-Ok-follow-clause-served
returns-in-Ok-follow-clause-served g c = λ s stands.
    let state = g.S.Disk.state in
    let old : DiskState = state c.args.shell.now in
    let mid : DiskState = state c.now-moment.new.self in
    let asked : DiskState = state c.reply_text.new.disk in
    let done : DiskState = state c.say.new.self in
    let m = c.now-moment.result in
    let name = c.args.name.now in
    let body = c.args.body.now in
    let here = stands_kept old mid c.now-moment.ensures.call.keeps c.args.tables.now s stands in
    let left = left_by_named_request s name body m in
    let there = stands_kept asked done c.in-Ok-say.ensures.call.keeps c.reply_text.new.tables left
    (c.in-Ok.ensures.state s here) in
    request_served old asked done (state c.follow.new.disk) c.reply_text.new.tables s name body m
    c.as_bytes.result.now
    (begins old mid asked s name body m c.now-moment.ensures.call
    c.now-moment.ensures.log c.now-moment.ensures.told c.in-Ok.ensures.goes
    (c.in-Ok.ensures.leaves s here))
    (c.in-Ok.ensures.state s here)
    c.in-Ok-say.ensures.call c.in-Ok-say.ensures.said c.in-Ok-say.ensures.moments
    (c.as_bytes.ensures.value ∙ c.in-Ok.ensures.text s here)
    (c.in-Ok-follow.ensures.follows left there) (c.in-Ok.ensures.enough s here)
    c.follow.new.tables (c.in-Ok-follow.ensures.enough left there)
    (c.in-Ok-follow.ensures.stands left there)

pub returns-in-Ok-follow-clause-brings : goal.returns-in-Ok-follow-clause-brings
returns-in-Ok-follow-clause-brings g c =
    let state = g.S.Disk.state in
    let old : DiskState = state c.args.shell.now in
    let mid : DiskState = state c.now-moment.new.self in
    let asked : DiskState = state c.reply_text.new.disk in
    at_hand_worked _ old asked (state c.say.new.self) (state c.follow.new.disk) c.as_bytes.result.now
    (request c.args.name.now c.args.body.now)
    (silent_then old mid asked c.now-moment.ensures.log c.in-Ok.ensures.goes)
    c.in-Ok-say.ensures.said c.in-Ok-follow.ensures.goes
    (subst (λ (b : Bounds). HasFewEntries b.limits.flush (state c.follow.new.disk))
    c.in-Ok.ensures.limits (c.in-Ok-follow.ensures.entries refl))

pub returns-clause-served : goal.returns-clause-served
returns-clause-served g c = λ s stands.
    let state = g.S.Disk.state in
    let old : DiskState = state c.args.shell.now in
    let mid : DiskState = state c.now-moment.new.self in
    let asked : DiskState = state c.reply_text.new.disk in
    let done : DiskState = state c.say.new.self in
    let m = c.now-moment.result in
    let name = c.args.name.now in
    let body = c.args.body.now in
    let here = stands_kept old mid c.now-moment.ensures.call.keeps c.args.tables.now s stands in
    let left = left_by_named_request s name body m in
    let there = stands_kept asked done c.in-Ok-say.ensures.call.keeps c.reply_text.new.tables left
    (c.in-Ok.ensures.state s here) in
    request_broke old asked done (state c.follow.new.disk) c.reply_text.new.tables s name body m
    c.as_bytes.result.now
    (begins old mid asked s name body m c.now-moment.ensures.call
    c.now-moment.ensures.log c.now-moment.ensures.told c.in-Ok.ensures.goes
    (c.in-Ok.ensures.leaves s here))
    (c.in-Ok.ensures.state s here)
    c.in-Ok-say.ensures.call c.in-Ok-say.ensures.said c.in-Ok-say.ensures.moments
    (c.as_bytes.ensures.value ∙ c.in-Ok.ensures.text s here)
    (c.in-Err-follow.ensures.follows left there) (c.in-Ok.ensures.enough s here)
    c.in-Err-follow.fault (bounds_of c.args.tables.now).file
    (subst (λ (b : Bounds). FollowsNot true b.file (own_behind left) c.in-Err-follow.fault) c.in-Ok.ensures.limits (c.in-Err-follow.ensures.fault left there))

pub returns-in-Ok-follow-clause-files : goal.returns-in-Ok-follow-clause-files
returns-in-Ok-follow-clause-files g c = λ s stands.
    let state = g.S.Disk.state in
    let old : DiskState = state c.args.shell.now in
    let mid : DiskState = state c.now-moment.new.self in
    let asked : DiskState = state c.reply_text.new.disk in
    let here = stands_kept old mid c.now-moment.ensures.call.keeps c.args.tables.now s stands in
    let there = c.in-Ok.ensures.state s here in
    subst (λ (b : Bounds). (bounds_of c.follow.new.tables).file ≤ b.file + most_files)
    c.in-Ok.ensures.limits (c.in-Ok-follow.ensures.files _
    (stands_kept asked (state c.say.new.self) c.in-Ok-say.ensures.call.keeps c.reply_text.new.tables _
    there))

pub returns-in-Err-clause-limits : goal.returns-in-Err-clause-limits
returns-in-Err-clause-limits g c = ap (λ (b : Bounds). b.limits) c.in-Err.ensures.limits

pub returns-in-Err-say-clause-limits : goal.returns-in-Err-say-clause-limits
returns-in-Err-say-clause-limits g c = ap (λ (b : Bounds). b.limits) c.in-Ok.ensures.limits

pub returns-in-Ok-follow-clause-limits : goal.returns-in-Ok-follow-clause-limits
returns-in-Ok-follow-clause-limits g c =
    c.in-Ok-follow.ensures.limits ∙ ap (λ (b : Bounds). b.limits) c.in-Ok.ensures.limits

pub returns-clause-limits : goal.returns-clause-limits
returns-clause-limits g c =
    c.in-Err-follow.ensures.limits ∙ ap (λ (b : Bounds). b.limits) c.in-Ok.ensures.limits
