-- The row has two entries of those names, or isn't a table's.
use Rattle.std.proofs.Common.{◌≡◌, refl, Bool, true, false, not, Some, sym, ◌∙◌, arith}
use Rattle.std.proofs.lemmas.Bool.{false≢true}
use Rattle.std.specs.Prelude.{codes}
use Rattle.alt_base.proofs.Lists.{bytes_eq-true}
use Rattle.alt_tablerows.specs.CatalogRows.{described_row}
use Rattle.alt_tablerows.proofs.OneColumn.{bytes_differ}
use Rattle.alt_tablerows.proofs.TableRow.{double, names_two, not_two, two_cells}
use Rattle.alt_tablerows.proofs.catalog_row.timed_cells.Goals as goal

-- where the opposite of a test holds
untrue : (b : Bool) → not b ≡ true → b ≡ false
untrue true e = absurd (false≢true e)
untrue false e = refl

-- and where it doesn't
truth : (b : Bool) → not b ≡ false → b ≡ true
truth true e = refl
truth false e = absurd (false≢true (sym e))

pub returns-then-columns-ne2-clause-none : goal.returns-then-columns-ne2-clause-none
returns-then-columns-ne2-clause-none c name bytes same = not_two c.args.row.now
    c.as_slice-columns.result.now name bytes c.as_slice-columns.ensures
    (λ two. omega (arith, two, c.if-columns-ne2.true)) same

pub returns-then-ne-clause-none : goal.returns-then-ne-clause-none
returns-then-ne-clause-none c name bytes same =
    let names = names_two c.args.row.now c.as_slice-columns.result.now c.index-columns-0.result
    c.index-columns-1.result name bytes c.as_slice-columns.ensures
    (double c.as_slice-columns.result.now c.index-columns-0.result c.index-columns-1.result
    (omega (arith, c.if-columns-ne2.false)) c.index-columns-0.is c.index-columns-1.is) same in
    bytes_differ c.as_slice.result.now (codes "l") (untrue _ (sym c.ne.ensures ∙ c.if-ne.true))
    (c.as_slice.ensures.same ∙ names.0)

pub returns-then-ne-2-clause-none : goal.returns-then-ne-2-clause-none
returns-then-ne-2-clause-none c name bytes same =
    let names = names_two c.args.row.now c.as_slice-columns.result.now c.index-columns-0.result
    c.index-columns-1.result name bytes c.as_slice-columns.ensures
    (double c.as_slice-columns.result.now c.index-columns-0.result c.index-columns-1.result
    (omega (arith, c.if-columns-ne2.false)) c.index-columns-0.is c.index-columns-1.is) same in
    bytes_differ c.as_slice-2.result.now (codes "t")
    (untrue _ (sym c.ne-2.ensures ∙ c.if-ne-2.true)) (c.as_slice-2.ensures.same ∙ names.1)

pub returns-clause-cells : goal.returns-clause-cells
returns-clause-cells c = two_cells c.args.row.now c.as_slice-columns.result.now
    c.index-columns-0.result c.index-columns-1.result c.as_slice-columns.ensures
    (double c.as_slice-columns.result.now c.index-columns-0.result c.index-columns-1.result
    (omega (arith, c.if-columns-ne2.false)) c.index-columns-0.is c.index-columns-1.is)
    (sym c.as_slice.ensures.same ∙ bytes_eq-true c.as_slice.result.now (codes "l")
    (truth _ (sym c.ne.ensures ∙ c.if-ne.false)))
    (sym c.as_slice-2.ensures.same ∙ bytes_eq-true c.as_slice-2.result.now (codes "t")
    (truth _ (sym c.ne-2.ensures ∙ c.if-ne-2.false)))
    ∙ (λ i. described_row (Some (sym c.as_slice-3.ensures.same i)) (sym c.as_slice-4.ensures.same i))
