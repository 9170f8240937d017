-- The cells of the change, joined to those that show what was shown.
use Rattle.std.proofs.Common.{◌≡◌, IfOk, Option, Some, subst, ap, ◌∙◌}
use Rattle.alt_cells.specs.Changes.{Columns}
use Rattle.alt_cells.specs.Rows.{join_row}
use Rattle.alt_cells.specs.Shown.{row_shown}
use Rattle.alt_cells.proofs.AfterLaws.{made_shown, written-cleared, written-copy}
use Rattle.alt_cells.proofs.batch.RowChange.shown_after.Goals as goal

pub returns-then-self : goal.returns-then-self
returns-then-self c = rw c.in-Some.is (subst
    (λ (x : Option Columns). IfOk c.shown_alone.result (λ row. row ≡ x))
    (made_shown 1 c.args.self.now
    ∙ written-cleared c.args.self.now (Some c.in-Some.row.now) c.if-self.true)
    c.shown_alone.ensures)

pub returns-in_ok-absorb-in-Some : goal.returns-in_ok-absorb-in-Some
returns-in_ok-absorb-in-Some c = rw c.in-Some.is (subst
    (λ (x : Option Columns). IfOk c.into_shown.result (λ row. row ≡ x))
    (ap row_shown (c.in_ok-absorb-in-Some.ensures.ok
    ∙ ap (join_row c.in_ok-cells-in-Some.cells) c.in_ok-given-in-Some.ensures)
    ∙ written-copy c.in_ok-cells-in-Some.cells c.args.self.now c.in-Some.row.now
    c.in_ok-cells-in-Some.ensures.below c.in_ok-cells-in-Some.ensures.shown)
    c.into_shown.ensures)

pub returns-in-None : goal.returns-in-None
returns-in-None c = rw c.in-None.is (subst
    (λ (x : Option Columns). IfOk c.shown_alone-in-None.result (λ row. row ≡ x))
    (made_shown 1 c.args.self.now)
    c.shown_alone-in-None.ensures)
