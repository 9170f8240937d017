-- A name has a kind exactly where it is defined.
use Rattle.std.proofs.Common.{ap, ◌∙◌}
use Rattle.std.specs.Prelude.{is_some}
use Rattle.alt_schema.specs.Rules.{is_defined}
use Rattle.alt_schema.proofs.NamedLemmas.{is_some-kind_defined}
use Rattle.alt_schema.proofs.named.Definitions.define.Goals as goal

pub returns : goal.returns
returns c = record {
  defined =
      c.is_some.ensures ∙ ap is_some (c.kind_of.ensures.kind ∙ c.self.invariant c.args.name.now)
      ∙ is_some-kind_defined c.self.inside.list c.args.name.now
      ∙ ap (λ ds. is_defined ds c.args.name.now) c.self.view_is;
}
