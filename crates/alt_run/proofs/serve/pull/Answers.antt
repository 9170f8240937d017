use Rattle.std.proofs.Common.{◌≡◌, ◌∙◌, ◌<◌, [], length, take, length-take, subst, arith}
use Rattle.alt_lines.specs.Reader.{unread}
use Rattle.alt_lines.specs.Unread.{Unread}
use Rattle.alt_tables.specs.Stands.{bounds_of}
use Rattle.alt_talks.specs.Runs.{Stretch, Leads}
use Rattle.alt_run.specs.private.Rungs.{ServesAtHand, BreaksAtHand, asked_now}
use Rattle.alt_run.proofs.Pulling.{pull_failed}
use Rattle.alt_run.proofs.TakeServing.{pull_goes, pull_breaks, pull_memory, pull_ends, pull_end_breaks}
use Rattle.alt_run.proofs.Bringing.{some_taken, rest_taken}
use Rattle.alt_talks.proofs.Stopping.{ready_kept, stands_kept}
use Rattle.alt_run.proofs.serve.pull.Goals as goal

pub returns-in_default-clause-went : goal.returns-in_default-clause-went
returns-in_default-clause-went g c = λ s stands.
    let state = g.S.Disk.state in
    pull_failed (state c.args.shell.now) (state c.take.new.self) c.in_default.ensures.call
    c.args.tables.now (bounds_of c.args.tables.now).file s stands
    (unread c.args.lines.now) c.in_default.ensures.moments c.in_default.ensures.taken

pub returns-in-Ok-at_hand-clause-went : goal.returns-in-Ok-at_hand-clause-went
returns-in-Ok-at_hand-clause-went g c = λ s stands.
    let state = g.S.Disk.state in
    let none : take c.in-Ok.count c.take.new.buf ≡ [] = grind arith in
    pull_ends (state c.args.shell.now) (state c.take.new.self) (state c.at_hand.new.shell)
    c.in-Ok.ensures.call c.args.tables.now s stands
    (unread c.args.lines.now) c.requires.going
    (take c.in-Ok.count c.take.new.buf) none c.in-Ok.ensures.taken c.in-Ok.ensures.moments
    c.at_hand.new.tables (unread c.args.lines.now)
    (subst (λ (u : Unread). Leads (state c.take.new.self)
    (state c.at_hand.new.shell) c.at_hand.new.tables (ServesAtHand s (asked_now u)))
    c.end.ensures
    (c.in-Ok-at_hand.ensures.served s (stands_kept _ _ c.in-Ok.ensures.call.keeps _ s stands)))
    (bounds_of c.args.tables.now).file (bounds_of c.at_hand.new.tables).file

pub returns-in-Ok-at_hand-clause-brings : goal.returns-in-Ok-at_hand-clause-brings
returns-in-Ok-at_hand-clause-brings g c =
    let state = g.S.Disk.state in
    let none : take c.in-Ok.count c.take.new.buf ≡ [] = grind arith in
    rest_taken c.args.limits.flush (state c.args.shell.now) (state c.take.new.self) (state c.at_hand.new.shell)
    c.in-Ok.ensures.call.keeps (unread c.args.lines.now)
    (take c.in-Ok.count c.take.new.buf) none c.in-Ok.ensures.taken _ c.end.ensures
    c.in-Ok-at_hand.ensures.brings

pub returns-in-Err-clause-went : goal.returns-in-Err-clause-went
returns-in-Err-clause-went g c = λ s stands.
    let state = g.S.Disk.state in
    let none : take c.in-Ok.count c.take.new.buf ≡ [] = grind arith in
    pull_end_breaks (state c.args.shell.now) (state c.take.new.self) (state c.at_hand.new.shell)
    c.in-Ok.ensures.call c.args.tables.now s stands
    (unread c.args.lines.now) c.requires.going
    (take c.in-Ok.count c.take.new.buf) none c.in-Ok.ensures.taken c.in-Ok.ensures.moments
    c.in-Err.fault (bounds_of c.args.tables.now).file
    (subst (λ (u : Unread). Stretch (state c.take.new.self) (state c.at_hand.new.shell)
    (BreaksAtHand c.in-Err.fault (bounds_of c.args.tables.now).file s (asked_now u)))
    c.end.ensures (c.in-Err.ensures.served s (stands_kept _ _ c.in-Ok.ensures.call.keeps _ s stands)))

pub returns-in_default-give-clause-went : goal.returns-in_default-give-clause-went
returns-in_default-give-clause-went g c = λ s stands.
    let state = g.S.Disk.state in
    let some : 0 < length (take c.in-Ok.count c.take.new.buf) =
    omega (
      arith,
      length-take c.in-Ok.count c.take.new.buf,
      c.in-Ok.ensures.count,
      c.if-count-eq0.false,
    ) in
    pull_memory (state c.args.shell.now) (state c.take.new.self) (state c.take.new.self)
    c.in-Ok.ensures.call c.args.tables.now s stands
    (unread c.args.lines.now) c.requires.going
    (take c.in-Ok.count c.take.new.buf) some c.in-Ok.ensures.taken c.in-Ok.ensures.moments
    (bounds_of c.args.tables.now).file

pub returns-in-Ok-at_hand-2-clause-went : goal.returns-in-Ok-at_hand-2-clause-went
returns-in-Ok-at_hand-2-clause-went g c = λ s stands.
    let state = g.S.Disk.state in
    let some : 0 < length (take c.in-Ok.count c.take.new.buf) =
    omega (
      arith,
      length-take c.in-Ok.count c.take.new.buf,
      c.in-Ok.ensures.count,
      c.if-count-eq0.false,
    ) in
    pull_goes (state c.args.shell.now) (state c.take.new.self) (state c.at_hand-2.new.shell)
    c.in-Ok.ensures.call c.args.tables.now s stands
    (unread c.args.lines.now) c.requires.going
    (take c.in-Ok.count c.take.new.buf) some c.in-Ok.ensures.taken c.in-Ok.ensures.moments
    c.at_hand-2.new.tables _ _ (bounds_of c.args.tables.now).file
    (bounds_of c.at_hand-2.new.tables).file c.in-Ok-give.ensures.ok
    (c.in-Ok-at_hand-2.ensures.files s (stands_kept _ _ c.in-Ok.ensures.call.keeps _ s stands))
    (c.in-Ok-at_hand-2.ensures.served s (stands_kept _ _ c.in-Ok.ensures.call.keeps _ s stands))
    c.in-Ok-at_hand-2.ensures.lines

pub returns-in-Ok-at_hand-2-clause-brings : goal.returns-in-Ok-at_hand-2-clause-brings
returns-in-Ok-at_hand-2-clause-brings g c =
    let state = g.S.Disk.state in
    let some : 0 < length (take c.in-Ok.count c.take.new.buf) =
    omega (
      arith,
      length-take c.in-Ok.count c.take.new.buf,
      c.in-Ok.ensures.count,
      c.if-count-eq0.false,
    ) in
    some_taken c.args.limits.flush (state c.args.shell.now) (state c.take.new.self) (state c.at_hand-2.new.shell)
    c.in-Ok.ensures.call.keeps (unread c.args.lines.now) c.requires.going
    (take c.in-Ok.count c.take.new.buf) some c.in-Ok.ensures.taken _ _
    c.in-Ok-give.ensures.ok c.in-Ok-at_hand-2.ensures.brings c.in-Ok-at_hand-2.ensures.lines

pub returns-in-Err-at_hand-clause-went : goal.returns-in-Err-at_hand-clause-went
returns-in-Err-at_hand-clause-went g c = λ s stands.
    let state = g.S.Disk.state in
    let some : 0 < length (take c.in-Ok.count c.take.new.buf) =
    omega (
      arith,
      length-take c.in-Ok.count c.take.new.buf,
      c.in-Ok.ensures.count,
      c.if-count-eq0.false,
    ) in
    pull_breaks (state c.args.shell.now) (state c.take.new.self) (state c.at_hand-2.new.shell)
    c.in-Ok.ensures.call c.args.tables.now s stands
    (unread c.args.lines.now) c.requires.going
    (take c.in-Ok.count c.take.new.buf) some c.in-Ok.ensures.taken c.in-Ok.ensures.moments
    c.in-Err-at_hand.fault (bounds_of c.args.tables.now).file
    (subst (λ (u : Unread). Stretch (state c.take.new.self)
    (state c.at_hand-2.new.shell) (BreaksAtHand c.in-Err-at_hand.fault
    (bounds_of c.args.tables.now).file s
    (asked_now u)))
    c.in-Ok-give.ensures.ok
    (c.in-Err-at_hand.ensures.served s (stands_kept _ _ c.in-Ok.ensures.call.keeps _ s stands)))

pub at_hand-requires : goal.at_hand-requires
at_hand-requires g c =
    let state = g.S.Disk.state in
    record {
      ready = ready_kept (state c.args.shell.now) (state c.take.new.self) c.args.tables.now
          c.in-Ok.ensures.call.keeps c.requires.ready;
      known = c.requires.known;
      quiet = c.in-Ok.ensures.talk.talking ∙ c.requires.quiet;
    }

pub at_hand-requires-2 : goal.at_hand-requires-2
at_hand-requires-2 g c =
    let state = g.S.Disk.state in
    record {
      ready = ready_kept (state c.args.shell.now) (state c.take.new.self) c.args.tables.now
          c.in-Ok.ensures.call.keeps c.requires.ready;
      known = c.requires.known;
      quiet = c.in-Ok.ensures.talk.talking ∙ c.requires.quiet;
    }
