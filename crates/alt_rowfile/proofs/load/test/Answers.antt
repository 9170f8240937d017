-- The bytes of the block are those of its rows.
use Rattle.std.proofs.Common.{◌∙◌, sym}
use Rattle.std.proofs.lemmas.Bool.{false≢true}
use Rattle.alt_disk.specs.Disk.{DiskState}
use Rattle.alt_rowfile.proofs.LoadLaws.{here, at_place}
use Rattle.alt_rowfile.proofs.load.test.Goals as goal

pub returns-in-Ok-false-clause-undamaged : goal.returns-in-Ok-false-clause-undamaged
returns-in-Ok-false-clause-undamaged g c = λ told rows reads damaged.
    let s : DiskState = g.D.Disk.state c.args.disk.now in
    let file = c.args.file.now in
    let b = here s file.file file.marks.items file.end c.args.i rows reads c.requires in
    let loaded = at_place s file.file file.marks.items file.end c.args.i rows reads c.requires in
    false≢true (sym c.in-Ok-false.field-0-test
    ∙ c.in-Ok-false.ensures b loaded.held loaded.rising
    (c.deref.ensures.value ∙ c.in-Ok.ensures.bytes told b loaded))
