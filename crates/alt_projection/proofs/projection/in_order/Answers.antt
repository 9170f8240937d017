-- In order they are the same, and rise.
use Rattle.std.proofs.Common.{sym, ap, subst, ◌∙◌, List}
use Rattle.alt_expr.specs.declared.path.PathPart.{PathPart}
use Rattle.alt_projection.specs.Ways.{SamePaths, Rise}
use Rattle.alt_projection.proofs.Sameness.{nows, same-moved, rise-sorted}
use Rattle.alt_projection.proofs.projection.in_order.Goals as goal

pub returns-clause-same : goal.returns-clause-same
returns-clause-same c =
    let full = c.in_ok-sorted.ensures ∙ ap nows c.as_slice.ensures.value in
    subst (λ (ps : List (List PathPart)). SamePaths ps c.in_ok-sorted.sorted) c.in_ok-ways.ensures
    (subst (λ (ps : List (List PathPart)). SamePaths (nows c.in_ok-ways.ways.items) ps) (sym full)
    (same-moved c.in_ok-ways.ways.items c.sort_unstable.new.self.items
    c.sort_unstable.ensures.permutation))

pub returns-clause-rising : goal.returns-clause-rising
returns-clause-rising c =
    let full = c.in_ok-sorted.ensures ∙ ap nows c.as_slice.ensures.value in
    subst (Rise 0) (sym full)
    (rise-sorted c.sort_unstable.new.self.items c.sort_unstable.ensures.sorted)
