use Rattle.std.proofs.Common.{◌∙◌, ap}
use Rattle.alt_expr.specs.Projected.{projected}
use Rattle.alt_projection.proofs.Sameness.{chosen-ready}
use Rattle.alt_projection.proofs.projection.Projection.of.Goals as goal

pub returns-in-Ok : goal.returns-in-Ok
returns-in-Ok c = record {
  chosen = chosen-ready c.self.inside.paths c.self.inside.ways c.as_slice.result.now
      c.args.item.now c.in-Ok.parts c.as_slice.ensures.members c.self.invariant.0 c.in-Ok.ensures
      ∙ ap (λ ps. projected ps c.args.item.now) c.self.view_is;
}
