-- A change that the table may not keep is the only one with that row.
use Rattle.std.proofs.Common.{◌≡◌, sym, subst, IsTrue}
use Rattle.alt_changes.specs.ChangeRows.{change_in}
use Rattle.alt_machine.specs.Valid.{IsChange}
use Rattle.alt_tablerows.proofs.StreamTests.{one_change_at}
use Rattle.alt_tablerows.proofs.stream_row.test_change.Goals as goal

pub returns-clause-none : goal.returns-clause-none
returns-clause-none c bad is =
    let same : change_in c.in_ok-change.change ≡ is.0 = one_change_at c.args.key.now c.args.row.now
    (change_in c.in_ok-change.change) is.0 c.in_ok-change.ensures.change is.1 in
    let keeps : IsTrue c.in_ok-may_keep.field-0 = c.in_ok-may_keep.ensures.keeps.1
    (subst (IsChange c.args.schema.now c.args.next) (sym same) is.2) in
    let f : ⊥ = cc in f
