-- The row has that entry, or none that is it.
use Rattle.std.proofs.Common.{◌∙◌, [], ◌∷◌, ℕ, List, sym, ap, arith}
use Rattle.alt_base.proofs.Lists.{bytes_eq-true}
use Rattle.alt_tablerows.proofs.OneColumn.{one_entry, same_entry, one_long, single, bytes_differ}
use Rattle.alt_tablerows.proofs.catalog_row.value_of.Goals as goal

pub returns-then-columns-ne1-clause-none : goal.returns-then-columns-ne1-clause-none
returns-then-columns-ne1-clause-none c value same = one_long c.as_slice-columns.result.now
    c.args.row.now c.args.name.now value c.as_slice-columns.ensures
    (λ one. omega (arith, one, c.if-columns-ne1.true)) same

pub returns-then-eq-clause-value : goal.returns-then-eq-clause-value
returns-then-eq-clause-value c = one_entry c.args.row.now c.args.name.now _
    (sym c.as_slice-columns.ensures
    ∙ single c.as_slice-columns.result.now c.index-columns-0.result (omega arith) (omega arith)
    c.index-columns-0.is
    ∙ (λ i. (
      (sym c.as_slice.ensures.same ∙ bytes_eq-true c.as_slice.result.now
          c.args.name.now (sym c.eq.ensures ∙ c.if-eq.true)) i,
      sym c.as_slice-then-eq.ensures.same i,
    ) ∷ []))

pub returns-else-eq-clause-none : goal.returns-else-eq-clause-none
returns-else-eq-clause-none c value same =
    let entry = same_entry c.as_slice-columns.result.now c.args.row.now c.args.name.now value
    c.index-columns-0.result c.as_slice-columns.ensures
    (single c.as_slice-columns.result.now c.index-columns-0.result (omega arith) (omega arith)
    c.index-columns-0.is) same in
    bytes_differ c.as_slice.result.now c.args.name.now (sym c.eq.ensures ∙ c.if-eq.false)
    (c.as_slice.ensures.same ∙ ap (λ (e : List ℕ × List ℕ). e.0) entry)
