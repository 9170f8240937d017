-- The digest is right, and then the body decides.
use Rattle.std.proofs.Common.{◌≡◌, ◌∙◌, ◌-◌, ◌≤◌, ap, sym, subst, refl, inr, arith, length, List, ℕ, take}
use Rattle.alt_disk.specs.Disk.{DiskState, contents, bytes_or_none}
use Rattle.alt_disk.proofs.Staying.{tells_on}
use Rattle.alt_rowblocks.specs.Blocks.{IsBody}
use Rattle.alt_rowfile.specs.Recovery.{HasDigest, ExplainsFile}
use Rattle.alt_rowfile.proofs.FileLaws.{file_of_body, no_file}
use Rattle.alt_rowblocks.proofs.StreamLaws.{same_bytes}
use Rattle.alt_rowfile.proofs.recover.recover_file.Goals as goal

pub returns-in-Ok-Some-clause-reads : goal.returns-in-Ok-Some-clause-reads
returns-in-Ok-Some-clause-reads g c = λ told.
    let s : DiskState = g.D.Disk.state c.args.disk.now in
    let t : DiskState = g.D.Disk.state c.size.new.self in
    let u : DiskState = g.D.Disk.state c.test_digest.new.disk in
    let f = c.args.f in
    let size = c.in_ok-size.size in
    let told_t = tells_on s t c.in_ok-size.ensures.call.call.goes told in
    let first : contents t f ≡ contents s f =
    ap bytes_or_none ((c.in_ok-size.ensures.same told).file f) in
    let long : length (contents s f) ≡ size = sym (c.in_ok-size.ensures.size told) in
    let told_u = tells_on t u c.in-Ok.ensures.goes told_t in
    let second : contents u f ≡ contents s f = same_bytes t u f (c.in-Ok.ensures.quiet told_t)
    ∙ first in
    let digest : HasDigest (contents s f) =
    subst HasDigest first
    (c.in-Ok.ensures.agrees told_t (omega (arith, ap length first, long, c.if-size-lt32.false)))
    in
    let body : take (size - 32) (contents u f) ≡ take (length (contents s f) - 32) (contents s f) =
    (λ j. take (sym long j - 32) (second j)) in
    let room : size - 32 ≤ length (contents u f) = omega (arith, ap length second, long) in
    let b = rw c.in-Ok-Some.field-0-is at (c.in-Ok-Some.ensures.some told_u room) in
    file_of_body (contents s f) c.in-Ok-Some.found.marks.items c.in-Ok-Some.end
    c.in-Ok-Some.found.summary c.in-Ok-Some.found.filters.items b.0 digest
    (subst (IsBody b.0) body b.1) b.2 b.3 b.4 b.5

pub returns-in-Ok-None-clause-explained : goal.returns-in-Ok-None-clause-explained
returns-in-Ok-None-clause-explained g c = λ told.
    let s : DiskState = g.D.Disk.state c.args.disk.now in
    let t : DiskState = g.D.Disk.state c.size.new.self in
    let u : DiskState = g.D.Disk.state c.test_digest.new.disk in
    let f = c.args.f in
    let size = c.in_ok-size.size in
    let told_t = tells_on s t c.in_ok-size.ensures.call.call.goes told in
    let first : contents t f ≡ contents s f =
    ap bytes_or_none ((c.in_ok-size.ensures.same told).file f) in
    let long : length (contents s f) ≡ size = sym (c.in_ok-size.ensures.size told) in
    let told_u = tells_on t u c.in-Ok.ensures.goes told_t in
    let second : contents u f ≡ contents s f = same_bytes t u f (c.in-Ok.ensures.quiet told_t)
    ∙ first in
    let digest : HasDigest (contents s f) =
    subst HasDigest first
    (c.in-Ok.ensures.agrees told_t (omega (arith, ap length first, long, c.if-size-lt32.false)))
    in
    let body : take (size - 32) (contents u f) ≡ take (length (contents s f) - 32) (contents s f) =
    (λ j. take (sym long j - 32) (second j)) in
    let room : size - 32 ≤ length (contents u f) = omega (arith, ap length second, long) in
    let none = rw c.in-Ok-None.field-0-is at (c.in-Ok-None.ensures.none told_u room) in (
      refl,
      refl,
      inr (
        digest,
        no_file (contents s f) (λ blocks is. none blocks (subst (IsBody blocks) (sym body) is)),
      ),
    )

pub returns-in-Err-clause-explained : goal.returns-in-Err-clause-explained
returns-in-Err-clause-explained g c = λ told.
    let s : DiskState = g.D.Disk.state c.args.disk.now in
    let t : DiskState = g.D.Disk.state c.size.new.self in
    let u : DiskState = g.D.Disk.state c.test_digest.new.disk in
    let f = c.args.f in
    let size = c.in_ok-size.size in
    let told_t = tells_on s t c.in_ok-size.ensures.call.call.goes told in
    let first : contents t f ≡ contents s f =
    ap bytes_or_none ((c.in_ok-size.ensures.same told).file f) in
    let long : length (contents s f) ≡ size = sym (c.in_ok-size.ensures.size told) in
    subst (λ (l : List ℕ). ExplainsFile f l c.in-Err.fault) first
    (c.in-Err.ensures.explained told_t
    (omega (arith, ap length first, long, c.if-size-lt32.false)))
