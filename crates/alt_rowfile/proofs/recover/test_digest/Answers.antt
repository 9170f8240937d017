-- The bytes before the place were hashed.
use Rattle.std.proofs.Common.{◌∙◌, ap, sym, subst, arith, length, take, List, ℕ}
use Rattle.std.specs.Prelude.{OnOk, IfErr}
use Rattle.sha2.specs.Sha256.{sha256}
use Rattle.alt_disk.specs.Disk.{DiskState}
use Rattle.alt_disk.proofs.Staying.{tells_on}
use Rattle.alt_rowfile.specs.Recovery.{HasDigest, ExplainsFile}
use Rattle.alt_rowblocks.proofs.StreamLaws.{same_bytes}
use Rattle.alt_rowfile.proofs.recover.test_digest.Goals as goal

pub returns-in-Ok-Some-clause-agrees : goal.returns-in-Ok-Some-clause-agrees
returns-in-Ok-Some-clause-agrees g c = λ told size.
    let s : DiskState = g.D.Disk.state c.args.disk.now in
    let t : DiskState = g.D.Disk.state c.digest_up_to.new.disk in
    let same = same_bytes s t c.args.f (c.in-Ok-Some.ensures.quiet told) in
    let found = rw c.in-Ok-Some.field-0-is at (c.in-Ok-Some.ensures.digest told) in
    subst (λ (l : List ℕ). OnOk c.compare.result (HasDigest l)) same
    (c.compare.ensures.agrees (tells_on s t c.in-Ok-Some.ensures.goes told) (ap length same ∙ size)
    (found ∙ ap (λ (l : List ℕ). sha256 (take c.args.at l)) (sym same)))

pub returns-in-Ok-Some-clause-explained : goal.returns-in-Ok-Some-clause-explained
returns-in-Ok-Some-clause-explained g c = λ told size.
    let s : DiskState = g.D.Disk.state c.args.disk.now in
    let t : DiskState = g.D.Disk.state c.digest_up_to.new.disk in
    let same = same_bytes s t c.args.f (c.in-Ok-Some.ensures.quiet told) in
    let found = rw c.in-Ok-Some.field-0-is at (c.in-Ok-Some.ensures.digest told) in
    subst (λ (l : List ℕ). IfErr c.compare.result (ExplainsFile c.args.f l)) same
    (c.compare.ensures.explained (tells_on s t c.in-Ok-Some.ensures.goes told) (ap length same
    ∙ size) (found ∙ ap (λ (l : List ℕ). sha256 (take c.args.at l)) (sym same)))

pub returns-in-Ok-None-clause-explained : goal.returns-in-Ok-None-clause-explained
returns-in-Ok-None-clause-explained g c = λ told size.
    absurd (rw c.in-Ok-None.field-0-is at (c.in-Ok-None.ensures.short told (omega (arith, size))))
