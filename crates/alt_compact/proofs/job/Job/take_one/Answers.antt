-- A row is given, written and taken.
use Rattle.std.proofs.Common.{refl, subst}
use Rattle.std.proofs.lemmas.Result.{err_from_is_err_and}
use Rattle.alt_disk.proofs.Runs.{tells_of, trusted_on, trusted_back}
use Rattle.alt_cells.specs.Walks.{Gives}
use Rattle.alt_cells.proofs.Keeping.{cause_then}
use Rattle.alt_compact.proofs.Taking.{ready, took_some, took_none}
use Rattle.alt_compact.proofs.job.Job.take_one.Goals as goal

pub write-requires : goal.write-requires
write-requires g c later =
    let s = g.S.RowSource in
    let w = g.W.RowWriter in
    let state = g.D.Disk.state in
    let keeps = c.next.ensures.keeps in
    let t = trusted_back (state c.args.disk.now) (state c.next.new.disk) keeps.goes later in
    let r = c.requires t in
    let tells = tells_of (state c.args.disk.now) t in
    let asked = ready s.holds s.reads s.left w.written w.writes g.met.S.RowSource.holds_on
    g.met.S.RowSource.left_on g.met.W.RowWriter.written_on (state c.args.disk.now)
    (state c.next.new.disk) c.args.self.now c.args.source.now c.next.new.self c.args.into.now r.0 r.1
    (c.in-Some.key, c.in-Some.row) tells r.2 keeps
    (subst (Gives (s.left (state c.next.new.disk) c.next.new.self) r.1) c.in-Some.is
    (c.in_ok-key.ensures.gives tells r.1 r.2.next)) in
    (r.0, asked.0, asked.1)

pub returns-in_ok-write-in-Some-clause-took : goal.returns-in_ok-write-in-Some-clause-took
returns-in_ok-write-in-Some-clause-took g c t taken left takes =
    let s = g.S.RowSource in
    let w = g.W.RowWriter in
    let state = g.D.Disk.state in
    let keeps = c.next.ensures.keeps in
    let tells = tells_of (state c.args.disk.now) t in
    took_some s.holds s.reads s.left w.written w.writes g.met.S.RowSource.holds_on
    g.met.S.RowSource.left_on g.met.W.RowWriter.written_on (state c.args.disk.now)
    (state c.next.new.disk) (state c.write.new.disk) c.args.self.now _ c.args.source.now
    c.next.new.self c.args.into.now c.write.new.into taken left (c.in-Some.key, c.in-Some.row) t
    takes keeps
    (subst (Gives (s.left (state c.next.new.disk) c.next.new.self) left) c.in-Some.is
    (c.in_ok-key.ensures.gives tells left takes.next))
    c.write.ensures.moves c.write.ensures.files
    refl refl
    (λ written sorted. c.in_ok-write-in-Some.ensures.written
    (trusted_on (state c.args.disk.now) (state c.next.new.disk) keeps.goes t) taken written sorted)

pub returns-in-None-clause-took : goal.returns-in-None-clause-took
returns-in-None-clause-took g c t taken left takes =
    let s = g.S.RowSource in
    let w = g.W.RowWriter in
    let state = g.D.Disk.state in
    let tells = tells_of (state c.args.disk.now) t in
    took_none s.holds s.reads s.left w.written w.writes g.met.S.RowSource.holds_on
    g.met.S.RowSource.left_on g.met.W.RowWriter.written_on (state c.args.disk.now)
    (state c.next.new.disk) c.args.self.now c.args.source.now c.next.new.self c.args.into.now
    taken left t takes c.next.ensures.keeps
    (subst (Gives (s.left (state c.next.new.disk) c.next.new.self) left) c.in-None.is
    (c.in_ok-key.ensures.gives tells left takes.next))

pub returns-in_err-write-in-Some-clause-cause : goal.returns-in_err-write-in-Some-clause-cause
returns-in_err-write-in-Some-clause-cause g c =
    let state = g.D.Disk.state in
    let reads = g.S.RowSource.reads c.args.source.now in
    let whole = cause_then reads (state c.args.disk.now) (state c.next.new.disk)
    (state c.write.new.disk) c.in_err-write-in-Some.field-0.0 c.next.ensures.keeps.goes
    (c.in_err-write-in-Some.ensures.cause reads) in
    let p = err_from_is_err_and c.from_residual-in_err-write-in-Some.result
    c.from_residual-in_err-write-in-Some.ensures.1 in
    rw (p.1, p.2) whole
