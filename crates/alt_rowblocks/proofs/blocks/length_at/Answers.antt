-- A length, and so many bytes behind it.
use Rattle.std.proofs.Common.{◌∙◌, sym, arith}
use Rattle.alt_disk.specs.Disk.{contents}
use Rattle.alt_rowblocks.proofs.StreamLaws.{no_length, no_room}
use Rattle.alt_rowblocks.proofs.blocks.length_at.Goals as goal

pub returns-then-end-at-lt8-clause-none : goal.returns-then-end-at-lt8-clause-none
returns-then-end-at-lt8-clause-none g c = λ told room s behind short is.
    no_length (contents (g.D.Disk.state c.args.disk.now) c.args.f)
    c.args.at c.args.end room c.if-end-at-lt8.true s behind is

pub returns-then-count-end-clause-none : goal.returns-then-count-end-clause-none
returns-then-count-end-clause-none g c = λ told room s behind short is.
    no_room (contents (g.D.Disk.state c.args.disk.now) c.args.f)
    c.args.at c.number_of-count.result c.args.end room
    (omega (arith, c.if-end-at-lt8.false, c.requires))
    c.if-count-end.true c.number_of-count.ensures.small
    (sym (c.in_ok-fill.ensures.filled told c.if-not-branch.false)
    ∙ sym c.number_of-count.ensures.number) s behind short is

pub returns-clause-some : goal.returns-clause-some
returns-clause-some g c = λ told room.
    sym (c.in_ok-fill.ensures.filled told c.if-not-branch.false)
    ∙ sym c.number_of-count.ensures.number
