-- The bytes of the block are those of its rows, or damaged.
use Rattle.std.proofs.Common.{List, ℕ, sym, subst}
use Rattle.alt_disk.specs.Disk.{DiskState}
use Rattle.alt_rowfile.specs.Given.{AreRead}
use Rattle.alt_rowfile.proofs.LoadLaws.{here, at_place}
use Rattle.alt_rowfile.proofs.load.load.Goals as goal

pub returns-in-Ok-Some-clause-block : goal.returns-in-Ok-Some-clause-block
returns-in-Ok-Some-clause-block g c = λ told b loaded.
    rw c.in-Ok-Some.field-0-is at
    (c.in-Ok-Some.ensures.some b loaded.held loaded.rising (c.in-Ok.ensures.bytes told b loaded))

pub returns-in-Ok-None-clause-undamaged : goal.returns-in-Ok-None-clause-undamaged
returns-in-Ok-None-clause-undamaged g c = λ told rows reads damaged.
    let s : DiskState = g.D.Disk.state c.args.disk.now in
    let file = c.args.file.now in
    let b = here s file.file file.marks.items file.end c.args.i rows reads c.requires in
    let loaded = at_place s file.file file.marks.items file.end c.args.i rows reads c.requires in
    rw c.in-Ok-None.field-0-is at
    (c.in-Ok-None.ensures.none b loaded.held loaded.rising (c.in-Ok.ensures.bytes told b loaded))

pub returns-in-Ok-Some-clause-given : goal.returns-in-Ok-Some-clause-given
returns-in-Ok-Some-clause-given g c =
    let s : DiskState = g.D.Disk.state c.args.disk.now in
    subst (λ (l : List ℕ). AreRead s c.args.file.now c.args.i l)
    (sym (rw c.in-Ok-Some.field-0-is at c.in-Ok-Some.ensures.given)) c.in-Ok.ensures.given

pub returns-in-Ok-Some-clause-begun : goal.returns-in-Ok-Some-clause-begun
returns-in-Ok-Some-clause-begun g c = rw c.in-Ok-Some.field-0-is at c.in-Ok-Some.ensures.begun
