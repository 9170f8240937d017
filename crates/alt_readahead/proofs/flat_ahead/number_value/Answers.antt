-- The value that is made of it.
use Rattle.alt_value.specs.Tree.{N_tree}
use Rattle.alt_codec.specs.Scalars.{number_in}
use Rattle.alt_readahead.proofs.Payloads.{reads_made}
use Rattle.alt_readahead.proofs.flat_ahead.number_value.Goals as goal

pub returns : goal.returns
returns c = record {
  value = λ depth. reads_made number_in (λ x. N_tree x) depth c.args.reader.now
      c.number_ahead.new.reader c.in_ok-number.number (c.in_ok-number.ensures.number depth);
}
