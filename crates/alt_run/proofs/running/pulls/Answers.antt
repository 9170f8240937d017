use Rattle.std.proofs.Common.{Bool, ap, subst, sym}
use Rattle.alt_lines.specs.Reader.{unread}
use Rattle.alt_lines.specs.Unread.{Unread}
use Rattle.alt_machine.specs.State.{State}
use Rattle.alt_disk.specs.Disk.{DiskState}
use Rattle.alt_run.specs.private.Brought.{BringsSome, BringsOn}
use Rattle.alt_tables.specs.Stands.{bounds_of}
use Rattle.alt_talks.specs.Runs.{Leads}
use Rattle.alt_run.specs.Runs.{AnswersAllLines, AnswersSomeLines}
use Rattle.alt_run.specs.private.Rungs.{ServesInput, GoesOrEnds, ServesSomeInput, EndsInput}
use Rattle.alt_talks.proofs.Passing.{passes_none, passes_then, passes_back}
use Rattle.alt_run.proofs.Pulling.{fresh, goes_none, goes_then, goes_ends, goes_breaks, answers_all, answers_some}
use Rattle.alt_run.proofs.Bringing.{some_none, some_then, rest_then, last_line}
use Rattle.alt_talks.proofs.Stretching.{stretch_as}
use Rattle.alt_run.proofs.running.pulls.Goals as goal
use Rattle.alt_talks.specs.TalkStops.{LeavesNow}

pub pulls-init : goal.pulls-init
pulls-init g c =
    let old = g.S.Disk.state c.args.shell.now in (
      λ s stands. subst (λ (u : Unread). Leads old old c.args.tables.now
          (λ t. ServesInput (bounds_of c.args.tables.now).file s fresh (bounds_of c.args.tables.now).file t u))
          (sym c.new-lines.ensures)
          (goes_none old c.args.tables.now s fresh stands),
      passes_none _,
      ap (λ (u : Unread). u.ended) c.new-lines.ensures,
      subst (λ (u : Unread). BringsSome c.args.limits.flush fresh u old old) (sym c.new-lines.ensures)
          (some_none c.args.limits.flush old fresh),
      c.requires.known,
    )

pub pulls-preserved : goal.pulls-preserved
pulls-preserved g c =
    let state = g.S.Disk.state in (
      λ s stands.
          let front = c.pulls.invariant.0 s stands in
          let went = subst (λ (more : Bool). Leads (state c.pulls.shell)
          (state c.pull.new.shell) c.pull.new.tables
          (λ t. GoesOrEnds more (bounds_of c.pulls.tables).file front.to (unread c.pulls.lines)
          (bounds_of c.pull.new.tables).file t (unread c.pull.new.lines)))
          c.in-Ok-true.field-0-test (c.in-Ok-true.ensures.went front.to front.stands) in
          goes_then (state c.args.shell.now) (state c.pulls.shell)
          (state c.pull.new.shell) c.pulls.tables (bounds_of c.args.tables.now).file
          (bounds_of c.pulls.tables).file s fresh (unread c.pulls.lines) front
          c.pull.new.tables (unread c.pull.new.lines) (bounds_of c.pull.new.tables).file went,
      passes_then _ _ _ c.pulls.invariant.1 c.pull.ensures.passes,
      c.in-Ok-true.ensures.going c.in-Ok-true.field-0-test,
      some_then c.args.limits.flush (state c.args.shell.now) (state c.pulls.shell) (state c.pull.new.shell) fresh
          (unread c.pulls.lines) c.pulls.invariant.3 (unread c.pull.new.lines)
          (subst (λ (more : Bool). BringsOn c.args.limits.flush more (unread c.pulls.lines)
          (unread c.pull.new.lines) (state c.pulls.shell) (state c.pull.new.shell))
          c.in-Ok-true.field-0-test c.in-Ok-true.ensures.brings),
      c.in-Ok-true.ensures.known,
    )

pub returns-in-Ok-false-clause-answered : goal.returns-in-Ok-false-clause-answered
returns-in-Ok-false-clause-answered g c = λ s stands.
    let state = g.S.Disk.state in
    let front = c.pulls.invariant.0 s stands in
    let went = subst (λ (more : Bool). Leads (state c.pulls.shell)
    (state c.pull.new.shell) c.pull.new.tables
    (λ t. GoesOrEnds more (bounds_of c.pulls.tables).file front.to (unread c.pulls.lines)
    (bounds_of c.pull.new.tables).file t (unread c.pull.new.lines)))
    c.in-Ok-false.field-0-test (c.in-Ok-false.ensures.went front.to front.stands) in
    stretch_as (state c.args.shell.now) (state c.pull.new.shell)
    {P = λ old new es ms. (t : State) × EndsInput s fresh t old new es ms × LeavesNow new t}
    {Q = AnswersAllLines s} (λ es ms within x. answers_all _ _ s x.0 es ms x.1 x.2)
    (goes_ends (state c.args.shell.now) (state c.pulls.shell)
    (state c.pull.new.shell) c.pulls.tables (bounds_of c.args.tables.now).file
    (bounds_of c.pulls.tables).file s fresh (unread c.pulls.lines) front
    c.pull.new.tables went)

pub returns-in-Ok-false-clause-last : goal.returns-in-Ok-false-clause-last
returns-in-Ok-false-clause-last g c =
    let state = g.S.Disk.state in
    let old : DiskState = state c.args.shell.now in
    let mid : DiskState = state c.pulls.shell in
    let new : DiskState = state c.pull.new.shell in
    last_line c.args.limits.flush old new
    (rest_then c.args.limits.flush old mid new fresh (unread c.pulls.lines) c.pulls.invariant.3
    (subst (λ (more : Bool). BringsOn c.args.limits.flush more (unread c.pulls.lines)
    (unread c.pull.new.lines) mid new)
    c.in-Ok-false.field-0-test c.in-Ok-false.ensures.brings))

pub returns-in-Err-clause-answered : goal.returns-in-Err-clause-answered
returns-in-Err-clause-answered g c = λ s stands.
    let state = g.S.Disk.state in
    let front = c.pulls.invariant.0 s stands in
    stretch_as (state c.args.shell.now) (state c.pull.new.shell)
    {P = ServesSomeInput c.in-Err.fault (bounds_of c.args.tables.now).file s fresh}
    {Q = AnswersSomeLines c.in-Err.fault (bounds_of c.args.tables.now).file s}
    (λ es ms within x. answers_some _ _ c.in-Err.fault (bounds_of c.args.tables.now).file s es ms x)
    (goes_breaks (state c.args.shell.now) (state c.pulls.shell)
    (state c.pull.new.shell) c.pulls.tables (bounds_of c.args.tables.now).file
    (bounds_of c.pulls.tables).file s fresh (unread c.pulls.lines) front
    c.in-Err.fault (c.in-Err.ensures.went front.to front.stands))

pub pull-requires-clause-ready : goal.pull-requires-clause-ready
pull-requires-clause-ready g c = λ trusted.
    let state = g.S.Disk.state in
    let first = c.requires.ready (passes_back (state c.args.shell.now) (state c.pulls.shell)
    c.pulls.invariant.1 trusted) in
    let r = c.pulls.invariant.0 first.0 first.1 in
    (r.to, r.stands)
