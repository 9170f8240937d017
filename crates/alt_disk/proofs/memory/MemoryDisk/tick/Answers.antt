use Rattle.std.proofs.Common.{sym, true}
use Rattle.std.proofs.lemmas.Bool.{false≢true}
use Rattle.alt_disk.specs.MemoryState.{state_of}
use Rattle.alt_disk.proofs.Calls.{silent_fault}
use Rattle.alt_disk.proofs.MemoryCalls.{silent_call}
use Rattle.alt_disk.proofs.memory.MemoryDisk.tick.Goals as goal

pub returns-then-branch-clause-call : goal.returns-then-branch-clause-call
returns-then-branch-clause-call c =
    let d = c.args.self.now in
    let n = c.start.new.self in
    let ok = c.in_ok-start.ensures.ok in
    silent_fault (state_of d) (state_of n) (state_of c.fault.new.self)
    (silent_call d.history.calls.items n.history.calls.items d.moment n.moment d.faults n.faults
    d.reads n.reads true d.timed c.start.ensures.calls ok.1 ok.2 c.start.ensures.reads
    c.start.ensures.later (λ no. absurd (false≢true (sym no))) (λ _. ok.3))
    c.fault.ensures.call

pub returns-clause-call : goal.returns-clause-call
returns-clause-call c =
    let d = c.args.self.now in
    let n = c.start.new.self in
    let ok = c.in_ok-start.ensures.ok in
    silent_call d.history.calls.items n.history.calls.items d.moment n.moment d.faults n.faults
    d.reads n.reads true d.timed c.start.ensures.calls ok.1 ok.2 c.start.ensures.reads
    c.start.ensures.later (λ no. absurd (false≢true (sym no))) (λ _. ok.3)
