use Rattle.std.proofs.Common.{arith}
use Rattle.alt_disk.proofs.ToFail.{few_fail}
use Rattle.alt_disk.proofs.memory.MemoryDisk.keep.Goals as goal

pub invariant_of-self-in-Ok-clause-room : goal.invariant_of-self-in-Ok-clause-room
invariant_of-self-in-Ok-clause-room c =
    let d = c.args.self.now in
    omega (
      arith,
      c.in-Ok.ensures.spare,
      c.len-spare.ensures,
      d.fails.ok.0,
      few_fail d.moment d.fails.items,
    )
