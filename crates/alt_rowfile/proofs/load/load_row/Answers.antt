-- The bytes of the block are those of its rows, or damaged.
use Rattle.std.proofs.Common.{List, ℕ, ◌∙◌, subst}
use Rattle.alt_disk.specs.Disk.{DiskState}
use Rattle.alt_rowblocks.specs.Taken.{IsFoundIn}
use Rattle.alt_rowfile.proofs.LoadLaws.{here, at_place}
use Rattle.alt_rowfile.proofs.load.load_row.Goals as goal

pub returns-in-Ok-Some-clause-row : goal.returns-in-Ok-Some-clause-row
returns-in-Ok-Some-clause-row g c = λ told rows reads.
    let s : DiskState = g.D.Disk.state c.args.disk.now in
    let file = c.args.file.now in
    let b = here s file.file file.marks.items file.end c.args.i rows reads c.requires in
    let loaded = at_place s file.file file.marks.items file.end c.args.i rows reads c.requires in
    rw c.in-Ok-Some.field-0-is at
    (c.in-Ok-Some.ensures.some b loaded.held loaded.rising
    (c.deref.ensures.value ∙ c.in-Ok.ensures.bytes told b loaded))

pub returns-in-Ok-None-clause-undamaged : goal.returns-in-Ok-None-clause-undamaged
returns-in-Ok-None-clause-undamaged g c = λ told rows reads damaged.
    let s : DiskState = g.D.Disk.state c.args.disk.now in
    let file = c.args.file.now in
    let b = here s file.file file.marks.items file.end c.args.i rows reads c.requires in
    let loaded = at_place s file.file file.marks.items file.end c.args.i rows reads c.requires in
    rw c.in-Ok-None.field-0-is at
    (c.in-Ok-None.ensures.none b loaded.held loaded.rising
    (c.deref.ensures.value ∙ c.in-Ok.ensures.bytes told b loaded))

pub returns-in-Ok-Some-clause-given : goal.returns-in-Ok-Some-clause-given
returns-in-Ok-Some-clause-given g c = record {
  bytes = c.in-Ok.bytes.items;
  read = c.in-Ok.ensures.given;
  found = subst (λ (l : List ℕ). IsFoundIn l c.args.key.now c.in-Ok-Some.row) c.deref.ensures.value
      (rw c.in-Ok-Some.field-0-is at c.in-Ok-Some.ensures.found);
}
