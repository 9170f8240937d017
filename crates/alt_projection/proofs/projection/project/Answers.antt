use Rattle.alt_projection.proofs.Sameness.{chosen-ready}
use Rattle.alt_projection.proofs.projection.project.Goals as goal

pub returns : goal.returns
returns c = record {
  chosen = chosen-ready c.args.paths.now c.in_ok-ways.ways c.as_slice.result.now
      c.args.item.now c.in_ok-parts.parts c.as_slice.ensures.members c.in_ok-ways.ensures.same
      c.in_ok-parts.ensures;
}
