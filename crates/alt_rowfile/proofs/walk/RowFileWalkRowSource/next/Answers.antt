-- The next row in hand is given, or the first one of the next block.
use Rattle.std.proofs.Common.{◌≡◌, inl, refl}
use Rattle.alt_rowfile.specs.declared.walk.RowFileWalk.{RowFileWalk}
use Rattle.alt_rowfile.proofs.GivenLaws.{beyond_gives}
use Rattle.alt_rowfile.proofs.WalkLaws.{left_next, left_none}
use Rattle.alt_rowfile.proofs.WalkCalls.{walk_keeps, walk_fails, result_fails, result_well}
use Rattle.alt_rowfile.proofs.walk.RowFileWalkRowSource.next.Goals as goal

pub returns-in-Ok-Some-clause-gives : goal.returns-in-Ok-Some-clause-gives
returns-in-Ok-Some-clause-gives g c = λ told rows l.
    let walk = c.args.self.now in
    left_next (g.D.Disk.state c.args.disk.now) walk.file.now walk.forward walk.next c.take.new.self
    rows l.held c.in-Ok-Some.row l.left
    (rw c.in-Ok-Some.field-0-is at (c.in-Ok-Some.ensures.gives l.held l.in_hand))

pub returns-in-Ok-None-clause-gives : goal.returns-in-Ok-None-clause-gives
returns-in-Ok-None-clause-gives g c = λ told rows l.
    let walk = c.args.self.now in
    let none = left_none (g.D.Disk.state c.args.disk.now) walk.file.now walk.forward walk.next
    c.take.new.self rows l.held l.left
    (rw c.in-Ok-None.field-0-is at (c.in-Ok-None.ensures.gives l.held l.in_hand)) in
    c.go_on.ensures.gives told rows none.0 none.1

pub returns-in-Ok-None-clause-keeps : goal.returns-in-Ok-None-clause-keeps
returns-in-Ok-None-clause-keeps g c =
    walk_keeps (g.D.Disk.state c.args.disk.now) (g.D.Disk.state c.go_on.new.disk)
    c.args.self.now c.go_on.new.self c.go_on.ensures.file c.go_on.ensures.goes c.go_on.ensures.quiet

pub returns-in-Ok-None-clause-well : goal.returns-in-Ok-None-clause-well
returns-in-Ok-None-clause-well g c = result_well c.go_on.result c.go_on.ensures.well

pub returns-in-Ok-None-clause-fails : goal.returns-in-Ok-None-clause-fails
returns-in-Ok-None-clause-fails g c =
    result_fails (g.D.Disk.state c.args.disk.now) (g.D.Disk.state c.go_on.new.disk)
    c.args.self.now c.go_on.result c.go_on.ensures.cause c.go_on.ensures.undamaged
    c.go_on.ensures.damage

pub returns-in-Err-clause-fails : goal.returns-in-Err-clause-fails
returns-in-Err-clause-fails g c =
    walk_fails (g.D.Disk.state c.args.disk.now) (g.D.Disk.state c.test_held.new.disk)
    c.args.self.now c.in-Err.fault c.in-Err.ensures.cause c.in-Err.ensures.undamaged
    c.in-Err.ensures.damage

pub returns-in-Ok-Some-clause-given : goal.returns-in-Ok-Some-clause-given
returns-in-Ok-Some-clause-given g c = (
  refl,
  refl,
  inl (record {
    row = c.in-Ok-Some.row;
    some = refl;
    taken = rw c.in-Ok-Some.field-0-is at c.in-Ok-Some.ensures.given;
    uncalled = refl;
    next = refl;
  }),
)

pub returns-in-Ok-None-clause-given : goal.returns-in-Ok-None-clause-given
returns-in-Ok-None-clause-given g c =
    let walk = c.args.self.now in
    let none = rw c.in-Ok-None.field-0-is at c.in-Ok-None.ensures.given in
    let mid : RowFileWalk = record {
      file = walk.file;
      forward = walk.forward;
      next = walk.next;
      hand = c.take.new.self;
    } in
    let same : mid ≡ walk = λ i. record {
      file = walk.file;
      forward = walk.forward;
      next = walk.next;
      hand = none.0 i;
    } in
    beyond_gives (g.D.Disk.state c.args.disk.now) (g.D.Disk.state c.go_on.new.disk) walk mid
    c.go_on.new.self c.go_on.result same none.1 c.go_on.ensures.file c.go_on.ensures.forward
    c.go_on.ensures.given
