-- One change more, or none.
use Rattle.std.proofs.Common.{◌≡◌, ◌+◌, ◌∷◌, ◌++◌, [], List, ℕ, length, sym, ap, subst, ◌∙◌, arith, length-append}
use Rattle.alt_cells.specs.declared.batch.RowChange.{RowChange}
use Rattle.alt_writes.specs.Bytes.{changes_bytes, AreHeldChanges}
use Rattle.alt_writes.specs.Reading.{NoChanges}
use Rattle.alt_writes.proofs.ReadLaws.{none_map, no_changes, changes_push, changes_held-push}
use Rattle.alt_writes.proofs.read.take_changes.Goals as goal

pub returns-in-Err-clause-none : goal.returns-in-Err-clause-none
returns-in-Err-clause-none c =
    none_map _ (NoChanges c.args.count c.args.bytes.now) c.in-Err.stop
    (no_changes c.args.count c.loop-done.changes.items c.args.bytes.now c.loop-done.rest.now
    (omega (arith, c.loop-done.invariant.count, c.loop-done-test.true))
    c.loop-done.invariant.held c.loop-done.invariant.bytes) c.in-Err.ensures.none

pub loop-done-preserved : goal.loop-done-preserved
loop-done-preserved c =
    let cs = c.loop-done.changes.items in
    let change = c.in-Ok.change in
    let e : c.push.new.self.items ≡ cs ++ change ∷ [] = c.in-Ok-push.ensures.items in
    record {
      count = ap length e ∙ length-append cs (change ∷ [])
          ∙ ap (λ (n : ℕ). n + 1) c.loop-done.invariant.count;
      held = subst AreHeldChanges (sym e) (changes_held-push cs change c.loop-done.invariant.held
          c.in-Ok.ensures.change.0);
      bytes = changes_push cs change c.args.bytes.now c.loop-done.rest.now c.in-Ok.behind.now
          c.loop-done.invariant.bytes c.in-Ok.ensures.change.1
          ∙ ap (λ (l : List RowChange). changes_bytes l ++ c.in-Ok.behind.now) (sym e);
    }
