-- True is read as NULL.
use Rattle.std.proofs.Common.{ap, ◌∙◌, ◌∷◌}
use Rattle.json.specs.Token.{Token}
use Rattle.alt_readahead.proofs.Payloads.{reads_null}
use Rattle.alt_readahead.proofs.flat_ahead.null_value.Goals as goal

pub returns-then-truth : goal.returns-then-truth
returns-then-truth c = record {
  value = reads_null c.args.reader.now c.truth.new.reader
      (c.in_ok-truth.ensures.passed
      ∙ ap (λ b. Token.boolean b ∷ c.truth.new.reader) c.if-truth.true);
}
