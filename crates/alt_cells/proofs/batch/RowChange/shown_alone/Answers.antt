-- The values that are given are what the change shows by itself.
use Rattle.std.proofs.Common.{T, sym, subst, ap, ◌∙◌}
use Rattle.std.specs.FinMap.{from_sorted}
use Rattle.std.specs.FinMap.Entries.{is_sorted}
use Rattle.alt_cells.specs.Changes.{as_shown, values_given}
use Rattle.alt_cells.specs.Keys.{key_cmp}
use Rattle.alt_cells.proofs.Alone.{sorted-values_given, values_given-alone}
use Rattle.alt_cells.proofs.batch.RowChange.shown_alone.Goals as goal

pub of_rising-requires : goal.of_rising-requires
of_rising-requires c =
    let values = c.in_ok-entries.ensures ∙ ap values_given c.as_slice-given.ensures in
    subst (λ es. T (is_sorted key_cmp es)) (sym values)
    (sorted-values_given c.args.self.now.cells
    (subst (λ es. T (is_sorted key_cmp es)) c.as_slice-given.ensures
    (c.is_rising.ensures.rising c.if-is_rising.true)))

pub returns-then-is_rising : goal.returns-then-is_rising
returns-then-is_rising c =
    let values = c.in_ok-entries.ensures ∙ ap values_given c.as_slice-given.ensures in
    c.of_rising.ensures ∙ ap (λ es. as_shown (from_sorted {R = key_cmp} es)) values
    ∙ values_given-alone c.args.self.now
    (subst (λ es. T (is_sorted key_cmp es)) c.as_slice-given.ensures
    (c.is_rising.ensures.rising c.if-is_rising.true))
