-- The first column is the cell.
use Rattle.std.proofs.Common.{sym, ◌∙◌, arith}
use Rattle.std.proofs.lemmas.Bool.Decides.{nat_tests}
use Rattle.std.proofs.lemmas.Bool.{not-false}
use Rattle.std.specs.Prelude.{codes}
use Rattle.alt_base.proofs.Lists.{bytes_eq-true}
use Rattle.alt_tablerows.proofs.CellRows.{parted}
use Rattle.alt_tablerows.proofs.building.built_and_rest.Goals as goal

pub returns-clause-parts : goal.returns-clause-parts
returns-clause-parts c = sym c.as_slice-columns.ensures
    ∙ parted c.as_slice-columns.result.now c.index-columns-0.result (codes "b")
    c.as_slice-2.result.now (λ none. grind (arith, nat_tests)) c.index-columns-0.is
    (sym c.as_slice.ensures.same ∙ bytes_eq-true c.as_slice.result.now (codes "b")
    (not-false _ (sym c.ne.ensures ∙ c.if-ne.false)))
    c.as_slice-2.ensures.same
