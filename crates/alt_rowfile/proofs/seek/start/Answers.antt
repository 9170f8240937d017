-- From a key on, or all.
use Rattle.std.proofs.Common.{◌∙◌, sym, refl, arith}
use Rattle.std.proofs.lemmas.Bool.{false≢true}
use Rattle.alt_disk.specs.Disk.{DiskState}
use Rattle.alt_rowfile.specs.Walking.{list_from}
use Rattle.std.specs.Prelude.{None}
use Rattle.alt_rowfile.proofs.SeekLaws.{left_all, nothing_held}
use Rattle.alt_rowfile.proofs.seek.start.Goals as goal

pub returns-in-Some-clause-left : goal.returns-in-Some-clause-left
returns-in-Some-clause-left g c =
    λ told rows reads. rw c.in-Some.is (c.start_at.ensures.left told rows reads)

pub returns-then-forward-clause-left : goal.returns-then-forward-clause-left
returns-then-forward-clause-left g c = λ told rows reads.
    let s : DiskState = g.D.Disk.state c.args.disk.now in
    let forward = c.args.forward in
    rw c.in-None.is
    (nothing_held s c.args.file.now forward 0 c.empty-hand.result (list_from rows None forward)
    (c.empty-hand.ensures forward)
    (left_all s c.args.file.now rows reads forward 0 (λ up. refl)
    (λ down. absurd (false≢true (sym down ∙ c.if-forward.true)))))

pub returns-else-forward-clause-left : goal.returns-else-forward-clause-left
returns-else-forward-clause-left g c = λ told rows reads.
    let s : DiskState = g.D.Disk.state c.args.disk.now in
    let forward = c.args.forward in
    rw c.in-None.is
    (nothing_held s c.args.file.now forward c.len.result c.empty-hand.result
    (list_from rows None forward) (c.empty-hand.ensures forward)
    (left_all s c.args.file.now rows reads forward c.len.result
    (λ up. absurd (false≢true (sym c.if-forward.false ∙ up)))
    (λ down. omega (arith, c.len.ensures, c.args.file.now.marks.ok))))

pub returns-in-Some-clause-given : goal.returns-in-Some-clause-given
returns-in-Some-clause-given g c = rw c.in-Some.is c.start_at.ensures.given

pub returns-then-forward-clause-given : goal.returns-then-forward-clause-given
returns-then-forward-clause-given g c =
    rw (c.in-None.is, c.if-forward.true) (refl, λ way. c.empty-hand.ensures way, refl)

pub returns-else-forward-clause-given : goal.returns-else-forward-clause-given
returns-else-forward-clause-given g c =
    rw (c.in-None.is, c.if-forward.false) (
      refl,
      λ way. c.empty-hand.ensures way,
      omega (arith, c.len.ensures, c.args.file.now.marks.ok),
    )
