-- A change that a row file has, and one that none has.
use Rattle.std.proofs.Common.{List, subst, arith}
use Rattle.std.proofs.lemmas.Result.{on_ok_weaker}
use Rattle.alt_cells.specs.declared.batch.RowChange.{RowChange}
use Rattle.alt_families.specs.Memory.{IsWrittenTo}
use Rattle.alt_recovery.proofs.JoinLaws.{joined_above, joined_below}
use Rattle.alt_recovery.proofs.replay.join_one.Goals as goal

pub returns-then-number-flushed_of : goal.returns-then-number-flushed_of
returns-then-number-flushed_of c =
    joined_below c.args.flushed.now c.args.families.now c.args.number c.args.change.now
    (let low = c.if-number-flushed_of.true in let is = c.flushed_of.ensures in omega (arith, low, is))

pub returns : goal.returns
returns c =
    on_ok_weaker c.put_changes.result
    (λ (written : IsWrittenTo c.args.families.now c.put_changes.new.families c.args.number
    c.from_ref.result.now).
    joined_above c.args.flushed.now c.args.families.now c.put_changes.new.families c.args.number
    c.args.change.now
    (let high = c.if-number-flushed_of.false in let is = c.flushed_of.ensures in
    omega (arith, high, is))
    (subst (λ (l : List RowChange). IsWrittenTo c.args.families.now c.put_changes.new.families
    c.args.number l) c.from_ref.ensures.value written)) c.put_changes.ensures.written
