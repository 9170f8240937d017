-- The cells of the halves, joined.
use Rattle.std.proofs.Common.{◌/◌, length, ap, ◌∙◌}
use Rattle.alt_cells.specs.Cells.{cell_cmp, greater}
use Rattle.alt_cells.specs.Joined.{joined_map}
use Rattle.alt_cells.specs.Changes.{cells_given}
use Rattle.alt_cells.proofs.OfChange.{cells_given-halves}
use Rattle.alt_cells.proofs.change.+cells_given.Goals as goal

pub returns : goal.returns
returns t c =
    let number = c.args.number in
    c.in_ok-absorb.ensures.ok
    ∙ (λ i. joined_map (greater cell_cmp)
    ((c.in_ok-cells.ensures ∙ ap (cells_given number) c.split_at.ensures.front) i)
    ((c.in_ok-more.ensures ∙ ap (cells_given number) c.split_at.ensures.back) i))
    ∙ cells_given-halves number (length c.args.given.now / 2) c.args.given.now
