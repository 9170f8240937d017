-- One write more, or none.
use Rattle.std.proofs.Common.{◌≡◌, ◌≤◌, ◌+◌, ◌∷◌, ◌++◌, [], List, ℕ, length, sym, ap, subst, ◌∙◌, arith, length-append}
use Rattle.alt_writes.specs.Bytes.{writes_bytes, AllHeld}
use Rattle.alt_writes.specs.Reading.{NoWrite, NoWrites, write_of, writes_of}
use Rattle.alt_writes.specs.Writes.{AreRising, Write, past}
use Rattle.alt_writes.proofs.PushLaws.{held-push, past-push, rising-push}
use Rattle.alt_writes.proofs.ReadLaws.{none_map}
use Rattle.alt_writes.proofs.EntryReads.{no_writes, reads_push, writes_push}
use Rattle.alt_writes.proofs.read.take_writes.Goals as goal

pub returns-in-Err-clause-none : goal.returns-in-Err-clause-none
returns-in-Err-clause-none c =
    let done = writes_of c.loop-done.reads.items in
    none_map _ (NoWrites c.args.least c.args.count c.args.bytes.now) c.in-Err.stop
    (λ (non : NoWrite c.loop-done.next c.loop-done.rest.now).
    no_writes c.args.least c.args.count done c.args.bytes.now c.loop-done.rest.now
    (omega (arith, c.loop-done.invariant.count, c.loop-done-test.true))
    c.loop-done.invariant.held c.loop-done.invariant.bytes
    (subst (λ (n : ℕ). NoWrite n c.loop-done.rest.now) c.loop-done.invariant.next non))
    c.in-Err.ensures.none

pub loop-done-preserved : goal.loop-done-preserved
loop-done-preserved c =
    let done = writes_of c.loop-done.reads.items in
    let w = write_of c.in-Ok.read in
    let e : writes_of c.push.new.self.items ≡ done ++ w ∷ [] =
    ap writes_of c.in-Ok-push.ensures.items ∙ reads_push c.loop-done.reads.items c.in-Ok.read in
    let later : past c.args.least done ≤ w.number =
    subst (λ (n : ℕ). n ≤ w.number) c.loop-done.invariant.next c.in-Ok.ensures.least in
    record {
      count = ap length e ∙ length-append done (w ∷ [])
          ∙ ap (λ (n : ℕ). n + 1) c.loop-done.invariant.count;
      held = subst AllHeld (sym e)
          (held-push done w c.loop-done.invariant.held c.in-Ok.ensures.held);
      rising = subst (AreRising c.args.least) (sym e)
          (rising-push c.args.least done w c.loop-done.invariant.rising later);
      next = sym (past-push c.args.least done w) ∙ ap (past c.args.least) (sym e);
      bytes = writes_push done w c.args.bytes.now c.loop-done.rest.now c.in-Ok.behind.now
          c.loop-done.invariant.bytes c.in-Ok.ensures.bytes
          ∙ ap (λ (l : List Write). writes_bytes l ++ c.in-Ok.behind.now) (sym e);
    }
