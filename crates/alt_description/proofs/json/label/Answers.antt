-- The digits of the number, filled up with zeros.
use Rattle.std.proofs.Common.{ap, ◌∙◌}
use Rattle.std.specs.Fmt.{styled_decimal}
use Rattle.alt_description.proofs.Labels.{label_written}
use Rattle.alt_description.proofs.json.label.Goals as goal

pub returns : goal.returns
returns c = record {
  digits = c.in_ok-format.ensures.ok ∙ ap (λ s. styled_decimal s c.args.number) c.laid_out.ensures
      ∙ label_written c.args.number;
}
