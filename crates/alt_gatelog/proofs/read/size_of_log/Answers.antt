use Rattle.std.proofs.Common.{refl, arith}
use Rattle.alt_disk.specs.Disk.{contents}
use Rattle.alt_gatelog.proofs.Entries.{header_long}
use Rattle.alt_gatelog.proofs.read.size_of_log.Goals as goal

pub returns-then-size-lt8-clause-damaged : goal.returns-then-size-lt8-clause-damaged
returns-then-size-lt8-clause-damaged g c told = (
  refl,
  refl,
  λ form head. let long = header_long form
      (contents (g.D.Disk.state c.args.disk.now) c.args.f) head in
      omega (arith, long, c.in_ok-size.ensures.size told, c.if-size-lt8.true),
)
