use Rattle.std.proofs.Common.{◌≡◌, ℕ, List, length, ◌∙◌, ap, sym, subst, Bool, true, false}
use Rattle.alt_disk.specs.Disk.{Read, ReadCall, contents, bytes_or_none}
use Rattle.alt_disk.specs.MemoryState.{state_of}
use Rattle.alt_disk.proofs.Calls.{not_ok}
use Rattle.alt_disk.proofs.MemoryCalls.{read_call, read_same}
use Rattle.alt_disk.proofs.memory.MemoryDiskDisk.read.Goals as goal

pub returns-in_err-tick-clause-call : goal.returns-in_err-tick-clause-call
returns-in_err-tick-clause-call c =
    let mid = c.count_read.new.self in
    let counted = c.count_read.ensures in
    subst (λ (ok : Bool). ReadCall (state_of c.args.self.now)
    (state_of c.tick.new.self) c.args.f c.args.at (length c.args.buf.now) ok)
    (sym (not_ok c.from_residual.result c.from_residual.ensures.0))
    (read_call (state_of c.args.self.now) (state_of mid)
    (state_of c.tick.new.self) mid.reads c.args.f c.args.at
    (length c.args.buf.now) false counted.stays counted.later counted.reads counted.last
    c.in_err-tick.ensures.call)

pub returns-in_err-tick-clause-same : goal.returns-in_err-tick-clause-same
returns-in_err-tick-clause-same c =
    let mid = c.count_read.new.self in
    read_same (state_of c.args.self.now) (state_of mid)
    (state_of c.tick.new.self) mid.reads false c.count_read.ensures.stays
    c.in_err-tick.ensures.call

pub returns-clause-bytes : goal.returns-clause-bytes
returns-clause-bytes c =
    let mid = c.count_read.new.self in
    let same = read_same (state_of c.args.self.now) (state_of mid)
    (state_of c.tick.new.self) mid.reads true c.count_read.ensures.stays
    c.in_ok-tick.ensures.call in
    let is : c.bytes.result.now ≡ contents (state_of c.args.self.now) c.args.f =
    c.bytes.ensures ∙ ap bytes_or_none (same.file c.args.f) in
    subst (λ (bytes : List ℕ). Read bytes c.args.at c.args.buf.now c.copy_from.new.buf
    c.copy_from.result) is c.copy_from.ensures

pub returns-clause-call : goal.returns-clause-call
returns-clause-call c =
    let mid = c.count_read.new.self in
    let counted = c.count_read.ensures in
    read_call (state_of c.args.self.now) (state_of mid)
    (state_of c.tick.new.self) mid.reads c.args.f c.args.at
    (length c.args.buf.now) true counted.stays counted.later counted.reads counted.last
    c.in_ok-tick.ensures.call

pub returns-clause-same : goal.returns-clause-same
returns-clause-same c =
    let mid = c.count_read.new.self in
    read_same (state_of c.args.self.now) (state_of mid)
    (state_of c.tick.new.self) mid.reads true c.count_read.ensures.stays
    c.in_ok-tick.ensures.call
