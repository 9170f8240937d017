-- These bytes and no others.
use Rattle.std.proofs.Common.{◌∙◌, sym, arith, length, ap}
use Rattle.alt_disk.specs.Disk.{contents}
use Rattle.alt_rowblocks.proofs.StreamLaws.{up_to, length_up_to}
use Rattle.alt_rowblocks.proofs.body.stands_at.Goals as goal

pub returns-in-Some-clause-yes : goal.returns-in-Some-clause-yes
returns-in-Some-clause-yes g c = λ told room same.
    let bytes = contents (g.D.Disk.state c.args.disk.now) c.args.f in
    let there = rw c.in-Some.is at (c.in_ok-there.ensures.bytes told) in
    c.is_same.ensures.yes same ∙ c.deref.ensures.value ∙ there
    ∙ up_to bytes c.args.at (length c.args.made.now) c.args.end
    (omega (arith, c.requires, c.if-made-end.false))

pub returns-in-Some-clause-no : goal.returns-in-Some-clause-no
returns-in-Some-clause-no g c = λ told room other is.
    let bytes = contents (g.D.Disk.state c.args.disk.now) c.args.f in
    let there = rw c.in-Some.is at (c.in_ok-there.ensures.bytes told) in
    c.is_same.ensures.no other (is
    ∙ sym (c.deref.ensures.value ∙ there
    ∙ up_to bytes c.args.at (length c.args.made.now) c.args.end
    (omega (arith, c.requires, c.if-made-end.false))))

pub returns-in-None-clause-no : goal.returns-in-None-clause-no
returns-in-None-clause-no g c = λ told room no is.
    rw c.in-None.is at
    (c.in_ok-there.ensures.short told (omega (arith, room, c.requires, c.if-made-end.false)))

pub returns-then-made-end-clause-no : goal.returns-then-made-end-clause-no
returns-then-made-end-clause-no g c = λ told room no is.
    c.if-made-end.true (ap length is
    ∙ length_up_to
    (contents (g.D.Disk.state c.args.disk.now) c.args.f) c.args.at c.args.end room)
