use Rattle.std.proofs.Common.{◌≤◌, ◌+◌, if◌then◌else◌, ℕ, Bool, true, false, is_ok, arith}
use Rattle.std.specs.Vec.{vec_len}
use Rattle.alt_disk.proofs.ToFail.{few_fail}
use Rattle.alt_disk.proofs.memory.MemoryDisk.fail.Goals as goal

-- one more or none is at most one more
at_most_one : (ok : Bool) (n : ℕ) → (if ok then n + 1 else n) ≤ n + 1
at_most_one true n = omega arith
at_most_one false n = omega arith

pub invariant_of-self-2-clause-room : goal.invariant_of-self-2-clause-room
invariant_of-self-2-clause-room c =
    let d = c.args.self.now in
    let new = c.push.new.self in
    omega (
      arith,
      few_fail d.moment new.items,
      new.ok.0,
      d.fails.ok.0,
      c.push.ensures.len,
      at_most_one (is_ok c.push.result) (vec_len d.fails),
      c.in-Some.ensures.1,
      c.len.ensures,
      c.in_ok-reserve.ensures.spare,
    )
