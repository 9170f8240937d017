-- It is noted, or won't expire.
use Rattle.std.proofs.Common.{arith}
use Rattle.alt_ttl.proofs.Foretelling.{deferred_never, deferred_noted, deferred_passed}
use Rattle.alt_ttl.proofs.settling.defer.Goals as goal

pub returns-then-moment-first-clause-deferred : goal.returns-then-moment-first-clause-deferred
returns-then-moment-first-clause-deferred c = deferred_noted c.args.schema.now c.args.moment
    c.args.spot.now c.args.item.now c.expires_from.result c.expires_from.ensures c.in-Some.first
    c.in-Some.is c.args.due.now c.note.new.self c.note.ensures.keeps c.note.ensures.since
    c.as_str.result.now c.as_slice.result.now c.as_str.ensures.same c.as_slice.ensures.same
    c.note.ensures.known

pub returns-then-moment-first-clause-ripe : goal.returns-then-moment-first-clause-ripe
returns-then-moment-first-clause-ripe c = c.note.ensures.ripe c.args.moment
    (omega (arith, c.if-moment-first.true))

pub returns-else-moment-first-clause-deferred : goal.returns-else-moment-first-clause-deferred
returns-else-moment-first-clause-deferred c = deferred_passed c.args.schema.now c.args.moment
    c.args.spot.now c.args.item.now c.expires_from.result c.expires_from.ensures c.in-Some.first
    c.in-Some.is (omega (arith, c.if-moment-first.false)) c.args.due.now

pub returns-in_default-clause-deferred : goal.returns-in_default-clause-deferred
returns-in_default-clause-deferred c = deferred_never c.args.schema.now c.args.moment
    c.args.spot.now c.args.item.now c.expires_from.result c.expires_from.ensures c.in_default.is
    c.args.due.now
