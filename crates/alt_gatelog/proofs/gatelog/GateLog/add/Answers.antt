use Rattle.std.proofs.Common.{◌≡◌, ◌<◌, ◌+◌, ◌^◌, ℕ, List, [], ◌∷◌, ◌++◌, length, Some, sym, ◌∙◌, ap, subst, arith}
use Rattle.std.specs.List.{All}
use Rattle.alt_disk.specs.Fates.{synced}
use Rattle.alt_disk.specs.Disk.{DiskState, IsTrusted, contents, overwritten}
use Rattle.alt_disk.specs.Runs.{Run}
use Rattle.alt_disk.proofs.Runs.{trusted_on}
use Rattle.alt_gatelog.specs.Log.{framed}
use Rattle.alt_gatelog.specs.InHand.{AroundWrite, Lasts}
use Rattle.alt_gatelog.proofs.Append.{first_run, length-block, second_run, staged_is, opened_is, after_is, stands_after, below_push}
use Rattle.alt_gatelog.proofs.gatelog.GateLog.add.Goals as goal

pub returns-in_err-write_and_sync-clause-any_moment :
    goal.returns-in_err-write_and_sync-clause-any_moment
returns-in_err-write_and_sync-clause-any_moment g c trusted entries entry is stands =
    let log = c.args.self.now in
    let s0 : DiskState = g.D.Disk.state c.args.disk.now in
    let s1 : DiskState = g.D.Disk.state c.write_and_sync.new.disk in
    let block : c.args.block.now ≡ framed entry ++ 0 ∷ [] = is.is in
    first_run log.form s0 log.file log.gate log.places.items entries entry
    is.short stands.reads stands.settled s1
    (subst (λ (b : List ℕ). Run s0 s1 log.file (AroundWrite s0 log.file (log.gate + 1) (length b)))
    block (c.write_and_sync.ensures.any_moment trusted))

pub returns-in_err-write_and_sync-2-clause-any_moment :
    goal.returns-in_err-write_and_sync-2-clause-any_moment
returns-in_err-write_and_sync-2-clause-any_moment g c trusted entries entry is stands =
    let log = c.args.self.now in
    let s0 : DiskState = g.D.Disk.state c.args.disk.now in
    let s1 : DiskState = g.D.Disk.state c.write_and_sync.new.disk in
    let s2 : DiskState = g.D.Disk.state c.write_and_sync-2.new.disk in
    let trusted_1 : IsTrusted s1 = trusted_on s0 s1 c.write_and_sync.ensures.goes trusted in
    let block : c.args.block.now ≡ framed entry ++ 0 ∷ [] = is.is in
    let short = is.short in
    let first : Run s0 s1 log.file (AroundWrite s0 log.file (log.gate + 1)
    (length (framed entry ++ 0 ∷ []))) =
    subst (λ (b : List ℕ). Run s0 s1 log.file (AroundWrite s0 log.file (log.gate + 1) (length b)))
    block (c.write_and_sync.ensures.any_moment trusted) in
    let written = ap (λ (b : List ℕ). overwritten (contents s0 log.file) (log.gate + 1) b) block
    ∙ staged_is log.form s0 log.file log.gate log.places.items entries entry short
    stands.reads in
    let kept = (c.in_ok-write_and_sync.ensures.ok trusted).kept ∙ ap synced written in
    second_run log.form s0 log.file log.gate log.places.items entries entry short stands.reads
    stands.settled s1 s2 first kept (c.write_and_sync-2.ensures.any_moment trusted_1)

pub returns-clause-any_moment : goal.returns-clause-any_moment
returns-clause-any_moment g c trusted entries entry is stands =
    let log = c.args.self.now in
    let s0 : DiskState = g.D.Disk.state c.args.disk.now in
    let s1 : DiskState = g.D.Disk.state c.write_and_sync.new.disk in
    let s2 : DiskState = g.D.Disk.state c.write_and_sync-2.new.disk in
    let trusted_1 : IsTrusted s1 = trusted_on s0 s1 c.write_and_sync.ensures.goes trusted in
    let block : c.args.block.now ≡ framed entry ++ 0 ∷ [] = is.is in
    let short = is.short in
    let first : Run s0 s1 log.file (AroundWrite s0 log.file (log.gate + 1)
    (length (framed entry ++ 0 ∷ []))) =
    subst (λ (b : List ℕ). Run s0 s1 log.file (AroundWrite s0 log.file (log.gate + 1) (length b)))
    block (c.write_and_sync.ensures.any_moment trusted) in
    let written = ap (λ (b : List ℕ). overwritten (contents s0 log.file) (log.gate + 1) b) block
    ∙ staged_is log.form s0 log.file log.gate log.places.items entries entry short
    stands.reads in
    let kept = (c.in_ok-write_and_sync.ensures.ok trusted).kept ∙ ap synced written in
    second_run log.form s0 log.file log.gate log.places.items entries entry short stands.reads
    stands.settled s1 s2 first kept (c.write_and_sync-2.ensures.any_moment trusted_1)

pub returns-clause-ok : goal.returns-clause-ok
returns-clause-ok g c trusted entries entry is reads =
    let log = c.args.self.now in
    let s0 : DiskState = g.D.Disk.state c.args.disk.now in
    let s1 : DiskState = g.D.Disk.state c.write_and_sync.new.disk in
    let s2 : DiskState = g.D.Disk.state c.write_and_sync-2.new.disk in
    let trusted_1 : IsTrusted s1 = trusted_on s0 s1 c.write_and_sync.ensures.goes trusted in
    let block : c.args.block.now ≡ framed entry ++ 0 ∷ [] = is.is in
    let short = is.short in
    let first = c.in_ok-write_and_sync.ensures.ok trusted in
    let written = ap (λ (b : List ℕ). overwritten (contents s0 log.file) (log.gate + 1) b) block
    ∙ staged_is log.form s0 log.file log.gate log.places.items entries entry short reads in
    let lasts = subst (Lasts s2 log.file) (opened_is log.form s0 log.file log.gate
    log.places.items entries entry short reads s1
    (first.file ∙ ap (λ (l : List ℕ). Some l) written))
    (c.in_ok-write_and_sync-2.ensures.ok trusted_1) in
    stands_after log.form s0 log.file log.gate log.places.items entries entry short reads s2
    (log.gate + length c.args.block.now) c.push_reserved.new.self.items lasts
    (let long : length c.args.block.now ≡ length entry + 9 =
    ap (λ (l : List ℕ). length l) block ∙ length-block entry in
    omega (arith, long)) c.push_reserved.ensures.items

pub returns-clause-bytes : goal.returns-clause-bytes
returns-clause-bytes g c trusted entries entry is reads =
    let log = c.args.self.now in
    let s0 : DiskState = g.D.Disk.state c.args.disk.now in
    let s1 : DiskState = g.D.Disk.state c.write_and_sync.new.disk in
    let trusted_1 : IsTrusted s1 = trusted_on s0 s1 c.write_and_sync.ensures.goes trusted in
    let block : c.args.block.now ≡ framed entry ++ 0 ∷ [] = is.is in
    let short = is.short in
    let first = c.in_ok-write_and_sync.ensures.ok trusted in
    let written = ap (λ (b : List ℕ). overwritten (contents s0 log.file) (log.gate + 1) b) block
    ∙ staged_is log.form s0 log.file log.gate log.places.items entries entry short reads in
    let opened = opened_is log.form s0 log.file log.gate log.places.items entries entry short
    reads s1
    (first.file ∙ ap (λ (l : List ℕ). Some l) written) in
    (c.in_ok-write_and_sync-2.ensures.ok trusted_1).file
    ∙ ap (λ (l : List ℕ). Some l)
    (opened ∙ after_is log.form s0 log.file log.gate log.places.items entries entry short reads)

pub invariant_of-self : goal.invariant_of-self
invariant_of-self g c =
    let log = c.args.self.now in
    record {
      small = omega (
        arith,
        c.in_ok-write_and_sync.ensures.fits,
      );
      within = subst (All (λ at. at < 2 ^ 62))
          (sym c.push_reserved.ensures.items)
          (below_push log.places.items log.gate log.within log.small);
    }
