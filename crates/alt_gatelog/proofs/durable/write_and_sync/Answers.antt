use Rattle.std.proofs.Common.{◌≡◌, Bool, true, is_ok, subst}
use Rattle.alt_disk.specs.Disk.{DiskState, IsTrusted, Synced, Tick}
use Rattle.alt_disk.proofs.Runs.{trusted_on, tells_of}
use Rattle.alt_gatelog.proofs.Around.{around_write, around_sync, lasts_after, tick_two, when_ok}
use Rattle.alt_gatelog.proofs.durable.write_and_sync.Goals as goal

pub returns-in_err-write_at-clause-any_moment : goal.returns-in_err-write_at-clause-any_moment
returns-in_err-write_at-clause-any_moment g c trusted =
    let called = c.in_err-write_at.ensures in
    (around_write (g.D.Disk.state c.args.disk.now) c.args.f c.args.at c.args.bytes.now
    (g.D.Disk.state c.write_at.new.self) _ called.call.call (called.written trusted)).run

pub returns-clause-any_moment : goal.returns-clause-any_moment
returns-clause-any_moment g c trusted =
    let s0 : DiskState = g.D.Disk.state c.args.disk.now in
    let s1 : DiskState = g.D.Disk.state c.write_at.new.self in
    let called = c.in_ok-write_at.ensures in
    let trusted_1 : IsTrusted s1 = trusted_on s0 s1 called.call.call.goes trusted in
    (around_sync s0 c.args.f c.args.at c.args.bytes.now s1 (g.D.Disk.state c.sync.new.self)
    (is_ok c.sync.result) called.call.call (called.written trusted) c.sync.ensures.call.call
    (c.sync.ensures.synced trusted_1)).run

pub returns-clause-ok : goal.returns-clause-ok
returns-clause-ok g c = when_ok c.sync.result (λ (done : is_ok c.sync.result ≡ true) trusted.
    let s0 : DiskState = g.D.Disk.state c.args.disk.now in
    let s1 : DiskState = g.D.Disk.state c.write_at.new.self in
    let s2 : DiskState = g.D.Disk.state c.sync.new.self in
    let called = c.in_ok-write_at.ensures in
    let trusted_1 : IsTrusted s1 = trusted_on s0 s1 called.call.call.goes trusted in
    lasts_after s0 c.args.f c.args.at c.args.bytes.now s1 s2 (called.written trusted)
    (subst (λ (ok : Bool). Synced s1 s2 c.args.f ok) done (c.sync.ensures.synced trusted_1))
    (c.sync.ensures.same (tells_of s1 trusted_1) c.args.f))

pub returns-clause-calls : goal.returns-clause-calls
returns-clause-calls g c = when_ok c.sync.result (λ (done : is_ok c.sync.result ≡ true).
    let s0 : DiskState = g.D.Disk.state c.args.disk.now in
    let s1 : DiskState = g.D.Disk.state c.write_at.new.self in
    let s2 : DiskState = g.D.Disk.state c.sync.new.self in
    tick_two s0 s1 s2 c.in_ok-write_at.ensures.call
    (subst (λ (ok : Bool). Tick s1 s2 ok) done c.sync.ensures.call))
