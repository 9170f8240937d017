-- Paths in order overlap where one begins with the one right before it.
use Rattle.std.proofs.Common.{ap, map, sym, ◌∙◌, List}
use denote.Ref.{Bor}
use Rattle.alt_expr.specs.PathOrder.{is_before_one}
use Rattle.alt_expr.specs.PathsGrammar.{some_overlap}
use Rattle.alt_expr.specs.declared.path.PathPart.{PathPart}
use Rattle.alt_expr.proofs.Overlaps.{overlap_sorted}
use Rattle.alt_expr.proofs.overlap.some_overlap.Goals as goal

pub returns : goal.returns
returns c = record {
  overlap = c.is_before_one.ensures
      ∙ ap (λ (ws : List (Bor (List PathPart))). is_before_one (map (λ w. w.now) ws))
      c.deref.ensures.value
      ∙ sym (overlap_sorted (λ (w : Bor (List PathPart)). w.now) c.in_ok-ways.ways.items
      c.sort_unstable.new.self.items c.sort_unstable.ensures.permutation
      c.sort_unstable.ensures.sorted)
      ∙ ap some_overlap c.in_ok-ways.ensures;
}
