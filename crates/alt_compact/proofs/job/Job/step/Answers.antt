-- Row by row, up to as many, or up to the end.
use Rattle.std.proofs.Common.{◌≡◌, ◌++◌, refl, sym, ap, subst, ◌∙◌, take, drop, add-one, arith, ◌≤◌}
use Rattle.std.proofs.lemmas.List.{append-nil}
use Rattle.std.proofs.lemmas.Result.{IfOk-weaker, IfErr-weaker, err_from_is_err_and}
use Rattle.alt_disk.proofs.Runs.{tells_of, trusted_on, trusted_back}
use Rattle.alt_cells.specs.Walks.{HasCause}
use Rattle.alt_cells.proofs.Keeping.{cause_then}
use Rattle.alt_compact.specs.Jobs.{IsUnderWay, TakesRows, Took, StepSays}
use Rattle.alt_compact.proofs.Taking.{moves_quiet, moves_on, under_read, step_more, step_end}
use Rattle.alt_compact.proofs.job.Job.step.Goals as goal

pub loop-i-init : goal.loop-i-init
loop-i-init g c =
    let s = g.S.RowSource in
    let w = g.W.RowWriter in
    let state = g.D.Disk.state in
    let keeps = c.start.ensures.keeps in
    record {
      moves = moves_quiet (w.writes c.args.into.now) (state c.args.disk.now)
          (state c.start.new.disk) keeps.goes keeps.quiet;
      reads = keeps.reads;
      files = refl;
      purge = refl;
      well = c.start.ensures.well (ap Rattle.alt_cells.specs.Walks.answered_by c.in_ok-start.was);
      so_far = λ t taken left under.
          let tells = tells_of (state c.args.disk.now) t in
          subst (λ l. TakesRows s.holds s.reads s.left w.written w.writes (state c.start.new.disk)
          c.args.self.now c.start.new.source c.args.into.now l left) (sym (append-nil taken))
          (record {
            under = under_read s.holds s.reads s.left w.written w.writes
                g.met.S.RowSource.holds_on g.met.S.RowSource.left_on g.met.W.RowWriter.written_on
                (state c.args.disk.now) (state c.start.new.disk) c.args.self.now
                c.args.source.now c.start.new.source c.args.into.now taken left tells keeps under;
            next = c.in_ok-start.ensures.sought tells under.rows taken left under.holds under.are
                under.at;
          });
    }

pub take_one-requires : goal.take_one-requires
take_one-requires g c later =
    let state = g.D.Disk.state in
    let t = trusted_back (state c.args.disk.now) (state c.loop-i.disk)
    c.loop-i.invariant.moves.goes later in
    let r = c.requires.ready t in
    (r.0 ++ take c.loop-i.i r.1, drop c.loop-i.i r.1, c.loop-i.invariant.so_far t r.0 r.1 r.2)

pub returns-in_err-take_one-clause-sound : goal.returns-in_err-take_one-clause-sound
returns-in_err-take_one-clause-sound g c t taken left under =
    let state = g.D.Disk.state in
    let takes = c.loop-i.invariant.so_far t taken left under in
    let now = trusted_on (state c.args.disk.now) (state c.loop-i.disk)
    c.loop-i.invariant.moves.goes t in
    let whole = c.in_err-take_one.ensures.sound (tells_of (state c.loop-i.disk) now)
    takes.under.rows takes.under.holds in
    let p = err_from_is_err_and c.from_residual-in_err-take_one.result
    c.from_residual-in_err-take_one.ensures.1 in
    rw (p.1, p.2) whole

pub returns-then-not-branch-clause-taken : goal.returns-then-not-branch-clause-taken
returns-then-not-branch-clause-taken g c t taken left under =
    let s = g.S.RowSource in
    let w = g.W.RowWriter in
    let state = g.D.Disk.state in
    let takes = c.loop-i.invariant.so_far t taken left under in
    let now = trusted_on (state c.args.disk.now) (state c.loop-i.disk)
    c.loop-i.invariant.moves.goes t in
    let le : c.loop-i.i ≤ c.args.rows = omega arith in
    step_end s.holds s.reads s.left w.written w.writes g.met.S.RowSource.holds_on
    g.met.S.RowSource.left_on g.met.W.RowWriter.written_on (state c.take_one.new.disk)
    c.take_one.new.self c.take_one.new.source c.take_one.new.into taken left c.loop-i.i c.args.rows le
    (subst (Took (TakesRows s.holds s.reads s.left w.written w.writes (state c.take_one.new.disk)
    c.take_one.new.self c.take_one.new.source c.take_one.new.into) (taken ++ take c.loop-i.i left)
    (drop c.loop-i.i left)) c.if-not-branch.true
    (c.in_ok-take_one.ensures.took now (taken ++ take c.loop-i.i left) (drop c.loop-i.i left) takes))

pub loop-i-preserved : goal.loop-i-preserved
loop-i-preserved g c =
    let s = g.S.RowSource in
    let w = g.W.RowWriter in
    let state = g.D.Disk.state in
    let before = c.loop-i.invariant in
    record {
      moves = moves_on (w.writes c.args.into.now) (w.writes c.loop-i.into) (state c.args.disk.now)
          (state c.loop-i.disk) (state c.take_one.new.disk) before.files before.moves
          c.take_one.ensures.moves;
      reads = c.take_one.ensures.reads ∙ before.reads;
      files = c.take_one.ensures.files ∙ before.files;
      purge = c.take_one.ensures.purge ∙ before.purge;
      well = c.in_ok-take_one.ensures.well refl ∙ before.well;
      so_far = λ t taken left under.
          let takes = before.so_far t taken left under in
          let now = trusted_on (state c.args.disk.now) (state c.loop-i.disk) before.moves.goes t in
          let more = step_more s.holds s.reads s.left w.written w.writes
          g.met.S.RowSource.holds_on g.met.S.RowSource.left_on g.met.W.RowWriter.written_on
          (state c.take_one.new.disk) c.take_one.new.self c.take_one.new.source
          c.take_one.new.into taken left c.loop-i.i
          (subst (Took (TakesRows s.holds s.reads s.left w.written w.writes (state c.take_one.new.disk)
          c.take_one.new.self c.take_one.new.source c.take_one.new.into)
          (taken ++ take c.loop-i.i left) (drop c.loop-i.i left)) c.if-not-branch.false
          (c.in_ok-take_one.ensures.took now (taken ++ take c.loop-i.i left)
          (drop c.loop-i.i left) takes)) in
          subst (λ n. TakesRows s.holds s.reads s.left w.written w.writes (state c.take_one.new.disk)
          c.take_one.new.self c.take_one.new.source c.take_one.new.into (taken ++ take n left)
          (drop n left)) (sym (add-one c.loop-i.i)) more;
    }

pub returns-clause-taken : goal.returns-clause-taken
returns-clause-taken g c t taken left under =
    let s = g.S.RowSource in
    let w = g.W.RowWriter in
    let state = g.D.Disk.state in
    let takes = c.loop-i.invariant.so_far t taken left under in
    let now = trusted_on (state c.args.disk.now) (state c.loop-i.disk)
    c.loop-i.invariant.moves.goes t in
    let tells = tells_of (state c.loop-i.disk) now in
    let end : c.loop-i.i ≡ c.args.rows = omega arith in
    IfOk-weaker c.rest.result _ _
    (λ stepped says. (
      subst (λ n. IsUnderWay s.holds s.reads w.written w.writes (state c.rest.new.disk)
          c.loop-i.self c.rest.new.source c.loop-i.into (taken ++ take n left) (drop n left)) end
          (under_read s.holds s.reads s.left w.written w.writes g.met.S.RowSource.holds_on
          g.met.S.RowSource.left_on g.met.W.RowWriter.written_on (state c.loop-i.disk)
          (state c.rest.new.disk) c.loop-i.self c.loop-i.source c.rest.new.source c.loop-i.into
          (taken ++ take c.loop-i.i left) (drop c.loop-i.i left) tells c.rest.ensures.keeps
          takes.under),
      subst (λ n. StepSays stepped (drop n left)) end says,
    )) (c.rest.ensures.says tells (drop c.loop-i.i left) takes.next)

pub returns-clause-sound : goal.returns-clause-sound
returns-clause-sound g c t taken left under =
    let state = g.D.Disk.state in
    let takes = c.loop-i.invariant.so_far t taken left under in
    let now = trusted_on (state c.args.disk.now) (state c.loop-i.disk)
    c.loop-i.invariant.moves.goes t in
    IfErr-weaker c.rest.result _ _ (λ fault fails. fails.sound (tells_of (state c.loop-i.disk) now)
    takes.under.rows takes.under.holds) c.rest.ensures.fails

pub returns-in_err-take_one-clause-cause : goal.returns-in_err-take_one-clause-cause
returns-in_err-take_one-clause-cause g c =
    let state = g.D.Disk.state in
    let fault = c.in_err-take_one.field-0.0 in
    let whole = cause_then (g.S.RowSource.reads c.args.source.now) (state c.args.disk.now)
    (state c.loop-i.disk) (state c.take_one.new.disk) fault c.loop-i.invariant.moves.goes
    (subst (λ reads. HasCause reads (state c.loop-i.disk) (state c.take_one.new.disk) fault)
    c.loop-i.invariant.reads c.in_err-take_one.ensures.cause) in
    let p = err_from_is_err_and c.from_residual-in_err-take_one.result
    c.from_residual-in_err-take_one.ensures.1 in
    rw (p.1, p.2) whole

pub returns-clause-cause : goal.returns-clause-cause
returns-clause-cause g c =
    let state = g.D.Disk.state in
    IfErr-weaker c.rest.result _ _
    (λ fault fails. cause_then (g.S.RowSource.reads c.args.source.now) (state c.args.disk.now)
    (state c.loop-i.disk) (state c.rest.new.disk) fault c.loop-i.invariant.moves.goes
    (subst (λ reads. HasCause reads (state c.loop-i.disk) (state c.rest.new.disk) fault)
    c.loop-i.invariant.reads fails.cause)) c.rest.ensures.fails
