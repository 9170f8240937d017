use Rattle.std.proofs.Common.{◌≡◌, ◌≤◌, inl, List, ◌∙◌, sym, subst, arith}
use Rattle.std.proofs.lemmas.Result.{on_err_weaker, on_ok_weaker}
use Rattle.alt_base.specs.Counts.{Rose}
use Rattle.alt_disk.specs.Disk.{Same}
use Rattle.alt_disk.specs.Acted.{PushedSome}
use Rattle.alt_disk.specs.MemoryState.{memory_state, state_of}
use Rattle.alt_disk.specs.declared.made.Made.{Made}
use Rattle.alt_disk.proofs.MemoryCalls.{acted_some, counts_some, counts_fault, counts_either, same_list}
use Rattle.alt_disk.proofs.memory.MemoryDisk.make.Goals as goal

pub returns-then-branch-clause-listed : goal.returns-then-branch-clause-listed
returns-then-branch-clause-listed c is below =
    let d = c.args.self.now in
    let mid = c.start.new.self in
    let n = c.keep_failed.new.self in
    let ok = c.in_ok-start.ensures.ok in
    counts_fault (state_of d) (state_of n) (state_of c.fault.new.self) c.args.f c.args.failed
    (counts_some d.history.calls.items mid.history.calls.items n.history.calls.items d.moment
    mid.moment
    n.moment d.faults n.faults d.reads n.reads c.args.f c.args.failed d.timed c.start.ensures.calls
    ok.2
    c.keep_failed.ensures.moment c.keep_failed.ensures.calls) c.fault.ensures.call.same

pub returns-then-branch-clause-err : goal.returns-then-branch-clause-err
returns-then-branch-clause-err c =
    let d = c.args.self.now in
    let mid = c.start.new.self in
    let n = c.keep_failed.new.self in
    let ok = c.in_ok-start.ensures.ok in
    counts_either (state_of d) (state_of c.fault.new.self) c.args.f c.args.failed
    (counts_fault (state_of d) (state_of n) (state_of c.fault.new.self) c.args.f c.args.failed
    (counts_some d.history.calls.items mid.history.calls.items n.history.calls.items d.moment
    mid.moment
    n.moment d.faults n.faults d.reads n.reads c.args.f c.args.failed d.timed c.start.ensures.calls
    ok.2
    c.keep_failed.ensures.moment c.keep_failed.ensures.calls) c.fault.ensures.call.same)

pub returns-clause-ok : goal.returns-clause-ok
returns-clause-ok c =
    let d = c.args.self.now in
    let mid = c.start.new.self in
    let n = c.keep.new.self in
    let ok = c.in_ok-start.ensures.ok in
    on_ok_weaker c.keep.result
    (λ (pushed : PushedSome mid.history.calls.items n.history.calls.items mid.moment c.args.f
    c.args.done).
    acted_some d.history.calls.items mid.history.calls.items n.history.calls.items d.moment
    mid.moment
    n.moment d.faults n.faults d.reads n.reads c.args.f c.args.done d.timed c.start.ensures.calls
    ok.2
    c.keep.ensures.moment pushed)
    c.keep.ensures.ok

pub returns-clause-unlisted : goal.returns-clause-unlisted
returns-clause-unlisted c unlisted =
    let d = c.args.self.now in
    let mid = c.start.new.self in
    let n = c.keep.new.self in
    let ok = c.in_ok-start.ensures.ok in
    on_err_weaker c.keep.result
    (λ (lost : (n.history.calls.items ≡ mid.history.calls.items) × Rose mid.faults n.faults).
    let stays : n.history.calls.items ≡ d.history.calls.items = lost.0 ∙ c.start.ensures.calls in
    let later : d.moment ≤ n.moment = omega (arith, c.keep.ensures.moment, ok.2) in
    subst (λ (l : List Made). Same (state_of d) (memory_state l n.moment n.faults n.reads))
    (sym stays)
    (same_list d.history.calls.items d.moment n.moment d.faults n.faults d.reads n.reads d.timed
    later))
    c.keep.ensures.err

pub returns-clause-err : goal.returns-clause-err
returns-clause-err c =
    let d = c.args.self.now in
    let n = c.keep.new.self in
    let same = returns-clause-unlisted c (sym c.in_ok-start.ensures.ok.0 ∙ c.if-branch.false) in
    on_err_weaker c.keep.result (λ (s : Same (state_of d) (state_of n)). inl s) same
