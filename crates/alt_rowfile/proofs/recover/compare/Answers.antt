-- The digests are the same, or they differ.
use Rattle.std.proofs.Common.{refl, arith}
use Rattle.alt_disk.specs.Disk.{contents}
use Rattle.alt_rowfile.proofs.FileLaws.{digest_agrees, kept_last, found_rest}
use Rattle.alt_rowfile.proofs.recover.compare.Goals as goal

pub returns-then-is_same-clause-agrees : goal.returns-then-is_same-clause-agrees
returns-then-is_same-clause-agrees g c = λ told size found.
    digest_agrees
    (contents (g.D.Disk.state c.args.disk.now) c.args.f)
    c.args.found c.in-Ok-Some.there c.args.at size
    found (rw c.in-Ok-Some.field-0-is at (c.in-Ok-Some.ensures.digest told))
    (c.is_same.ensures.yes c.if-is_same.true)

pub returns-else-is_same-clause-explained : goal.returns-else-is_same-clause-explained
returns-else-is_same-clause-explained g c = λ told size found.
    let bytes = contents (g.D.Disk.state c.args.disk.now) c.args.f in
    let kept = rw c.in-Ok-Some.field-0-is at (c.in-Ok-Some.ensures.digest told) in (
      refl,
      omega (arith, size),
      kept_last bytes c.args.found c.in-Ok-Some.there c.args.at size found kept,
      found_rest bytes c.args.found c.in-Ok-Some.there c.args.at size found kept,
      c.is_same.ensures.no c.if-is_same.false,
    )

pub returns-in-Ok-None-clause-explained : goal.returns-in-Ok-None-clause-explained
returns-in-Ok-None-clause-explained g c = λ told size found.
    absurd (rw c.in-Ok-None.field-0-is at (c.in-Ok-None.ensures.short told (omega (arith, size))))
